use Rattle.std.proofs.Common.{◌≡◌, ℕ, ◌≤◌, ◌-◌, [], length, vec_capacity}
use Rattle.record_io.specs.declared.reader.TheConstants.{LANES}
use Rattle.frame_workers.specs.Lanes.{left_at}
use Rattle.frame_workers.proofs.segment.no_answers.Given as goal

abbrev pub invariant-parts : goal.invariant-parts
invariant-parts l = record {
  many : length l.parts.items ≤ LANES;
  room : LANES ≤ vec_capacity l.parts;
  empty : (number : ℕ) → left_at number l.parts.items ≡ [];
}

abbrev pub decreases-parts : goal.decreases-parts
decreases-parts l = LANES - length l.parts.items
