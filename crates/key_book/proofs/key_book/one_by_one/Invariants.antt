use Rattle.std.proofs.Common.{◌≡◌, ◌++◌}
use Rattle.key_book.proofs.key_book.one_by_one.Given as goal

abbrev pub invariant-loop-row : goal.invariant-loop-row
invariant-loop-row l = record {
  front : l.book ≡ l.yielded;
  all : l.book ++ l.row-iterator.rest.items ≡ l.fn.rows.items;
}
