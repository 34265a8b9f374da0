use Rattle.std.proofs.Common.{◌≡◌, ◌++◌}
use Rattle.unit_image.proofs.content.associations_of.Given as goal

abbrev pub invariant-loop-row : goal.invariant-loop-row
invariant-loop-row l = record {
  front : l.book ≡ l.yielded;
  all : l.book ++ l.row-iterator.rest.items ≡ l.fn.rows.items;
}
