use Rattle.std.proofs.Common.{◌≡◌, take}
use Rattle.cases_books.proofs.keys.made_again.Given as goal

abbrev pub invariant-loop-row : goal.invariant-loop-row
invariant-loop-row l = l.again ≡ take l.row-index l.book
