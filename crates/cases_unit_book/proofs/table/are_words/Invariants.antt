use Rattle.std.proofs.Common.{ℕ, ◌<◌, ◌≤◌, slice_index}
use Rattle.cases_unit_book.proofs.table.are_words.Given as goal

-- the words so far are at least 1
abbrev pub invariant-loop-place : goal.invariant-loop-place
invariant-loop-place l = (k : ℕ) → k < l.place → 1 ≤ slice_index l.next k
