use Rattle.std.proofs.Common.{◌≡◌, ◌-◌, ◌++◌, take, map, length}
use Rattle.key_book.specs.KeyRow.{new_row}
use Rattle.key_book.specs.Table.{IsIndexed, HasRoom}
use Rattle.key_book.proofs.table.Table.append.Given as goal

abbrev pub invariant-loop-item : goal.invariant-loop-item
invariant-loop-item l = record {
  rows : l.self.rows.items ≡ l.initial.self.rows.items ++ map new_row (take l.item-index l.items);
  indexed : IsIndexed l.self;
  room : HasRoom (length l.items - l.item-index) l.self;
}
