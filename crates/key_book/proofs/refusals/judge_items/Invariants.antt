use Rattle.std.proofs.Common.{◌≡◌, ◌++◌, take, drop, map}
use Rattle.key_book.specs.KeyRow.{new_row}
use Rattle.key_book.specs.KeyRefusal.{items_refusal}
use Rattle.key_book.proofs.refusals.judge_items.Given as goal

abbrev pub invariant-loop-i : goal.invariant-loop-i
invariant-loop-i l =
    items_refusal l.table.rows.items l.items ≡ items_refusal (l.table.rows.items ++ map new_row (take l.i l.items))
    (drop l.i l.items)
