use Rattle.std.proofs.Common.{◌≡◌, ◌++◌, take, drop}
use Rattle.key_book.specs.Moves.{moved}
use Rattle.key_book.proofs.refusals.move_rows.Given as goal

abbrev pub invariant-loop-row : goal.invariant-loop-row
invariant-loop-row l =
    l.row-items ≡ moved (take l.row-index l.initial.row-items) l.ids l.to ++ drop l.row-index l.initial.row-items
