use Rattle.std.proofs.Common.{◌≡◌, ◌++◌, take, drop}
use Rattle.sa_book.specs.Numbers.{lowered}
use Rattle.sa_book.proofs.sa_book.lower.Given as goal

abbrev pub invariant-loop-row : goal.invariant-loop-row
invariant-loop-row l =
    l.row-items ≡ lowered (take l.row-index l.initial.row-items) l.key l.floor ++ drop l.row-index l.initial.row-items
