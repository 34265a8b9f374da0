use Rattle.std.proofs.Common.{take, All}
use Rattle.sa_book.specs.SaBook.{RowsAreApart}
use Rattle.unit_image.proofs.rows.all_apart.Given as goal

abbrev pub invariant-loop-other : goal.invariant-loop-other
invariant-loop-other l = All (λ other. RowsAreApart other l.row) (take l.other-index l.rows)
