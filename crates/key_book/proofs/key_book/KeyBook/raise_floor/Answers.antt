use Rattle.std.proofs.Common.{◌≡◌, max, Some, ap}
use Rattle.key_book.specs.declared.key_row.KeyRow.{KeyRow}
use Rattle.key_book.specs.KeyBook.{place_of}
use Rattle.key_book.specs.Table.{front}
use Rattle.key_book.proofs.Tabled.{IsIndex-set}
use Rattle.key_book.proofs.Rows.{IsKeyBook-raise_floor, set-changed}
use Rattle.key_book.proofs.key_book.KeyBook.raise_floor.Goals as goal

pub invariant_of-self : goal.invariant_of-self
invariant_of-self c =
    let place : place_of c.self.inside.table.rows.items c.args.id ≡ Some c.known_place-i.result =
    c.known_place-i.ensures in (
      rw c.max-row.ensures (IsKeyBook-raise_floor c.self.inside.table.rows.items c.args.id c.known_place-i.result
          c.args.floor c.index_mut-row.result.now c.self.invariant.0 place c.index_mut-row.ensures.value
          c.requires.below_end),
      record {
        ids = IsIndex-set (λ (row : KeyRow). row.id) c.self.inside.table.rows.items
            c.self.inside.table.by_id.entries.items c.known_place-i.result c.index_mut-row.result.now
            _ c.self.invariant.1.ids (ap (λ (row : KeyRow). row.id) c.index_mut-row.ensures.value);
        fronts = IsIndex-set (λ (row : KeyRow). front row.digest) c.self.inside.table.rows.items
            c.self.inside.table.by_front.entries.items c.known_place-i.result c.index_mut-row.result.now
            _ c.self.invariant.1.fronts (ap (λ (row : KeyRow). front row.digest) c.index_mut-row.ensures.value);
      },
    )

pub returns : goal.returns
returns c =
    let place : place_of c.self.inside.table.rows.items c.args.id ≡ Some c.known_place-i.result =
    c.known_place-i.ensures in
    rw (← c.self.view_is)
    (rw c.max-row.ensures (set-changed c.self.inside.table.rows.items c.args.id c.known_place-i.result
    (λ (row : KeyRow). record row { floor = max row.floor c.args.floor }) c.index_mut-row.result.now
    c.self.invariant.0.rules place c.index_mut-row.ensures.value))
