use Rattle.key_book.proofs.Sorted.{IsRisingTo}
use Rattle.key_book.proofs.table.is_ascending.Given as goal

abbrev pub invariant-loop-i : goal.invariant-loop-i
invariant-loop-i l = IsRisingTo l.entries l.i
