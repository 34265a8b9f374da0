use Rattle.std.proofs.Common.{◌≡◌, None, refl}
use Rattle.key_book.specs.declared.key_row.KeyRow.{KeyRow}
use Rattle.key_book.specs.Moves.{moves_refusal}
use Rattle.key_book.specs.Table.{front}
use Rattle.key_book.proofs.Moved.{IsKeyBook-moved}
use Rattle.key_book.proofs.Tabled.{IsIndex-moved}
use Rattle.key_book.proofs.key_book.KeyBook.set_state.Goals as goal

pub invariant_of-self : goal.invariant_of-self
invariant_of-self c =
    let free : moves_refusal c.self.inside.table.rows.items c.as_slice.result.now c.args.to c.args.in_use.now ≡ None =
    cc c.in_ok-judge.ensures in (
      rw (c.move_rows.ensures, c.as_slice-2.ensures, ← c.as_slice.ensures)
          (IsKeyBook-moved c.self.inside.table.rows.items c.as_slice.result.now c.args.to c.args.in_use.now
          c.self.invariant.0 free),
      record {
        ids = rw c.move_rows.ensures (IsIndex-moved (λ (row : KeyRow). row.id) _ _ c.as_slice-2.result.now c.args.to
            c.self.invariant.1.ids (λ row. refl));
        fronts = rw c.move_rows.ensures
            (IsIndex-moved (λ (row : KeyRow). front row.digest) _ _ c.as_slice-2.result.now c.args.to
            c.self.invariant.1.fronts (λ row. refl));
      },
    )
