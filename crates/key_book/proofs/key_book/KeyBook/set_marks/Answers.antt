use Rattle.std.proofs.Common.{◌≡◌, Some, ap}
use Rattle.key_book.specs.declared.key_row.KeyRow.{KeyRow}
use Rattle.key_book.specs.KeyBook.{place_of}
use Rattle.key_book.specs.Table.{front}
use Rattle.key_book.proofs.Tabled.{IsIndex-set}
use Rattle.key_book.proofs.Rows.{IsKeyBook-set_marks, set-changed}
use Rattle.key_book.proofs.key_book.KeyBook.set_marks.Goals as goal

pub invariant_of-self : goal.invariant_of-self
invariant_of-self c =
    let place : place_of c.self.inside.table.rows.items c.args.id ≡ Some c.known_place-i.result =
    c.known_place-i.ensures in (
      (IsKeyBook-set_marks c.self.inside.table.rows.items c.args.id c.known_place-i.result c.args.mark c.args.floor
          c.index_mut-row.result.now c.self.invariant.0 place c.index_mut-row.ensures.value c.requires.from_one
          c.requires.to_end c.requires.below_end),
      record {
        ids = IsIndex-set (λ (row : KeyRow). row.id) c.self.inside.table.rows.items
            c.self.inside.table.by_id.entries.items c.known_place-i.result c.index_mut-row.result.now
            _ c.self.invariant.1.ids (ap (λ (row : KeyRow). row.id) c.index_mut-row.ensures.value);
        fronts = IsIndex-set (λ (row : KeyRow). front row.digest) c.self.inside.table.rows.items
            c.self.inside.table.by_front.entries.items c.known_place-i.result c.index_mut-row.result.now
            _ c.self.invariant.1.fronts (ap (λ (row : KeyRow). front row.digest) c.index_mut-row.ensures.value);
      },
    )

pub returns : goal.returns
returns c =
    let place : place_of c.self.inside.table.rows.items c.args.id ≡ Some c.known_place-i.result =
    c.known_place-i.ensures in
    rw (← c.self.view_is)
    ((set-changed c.self.inside.table.rows.items c.args.id c.known_place-i.result
    (λ (row : KeyRow). record row { mark = c.args.mark; floor = c.args.floor }) c.index_mut-row.result.now
    c.self.invariant.0.rules place c.index_mut-row.ensures.value))
