use Rattle.std.proofs.Common.{◌≡◌, ◌≤◌, ◌-◌, [], length, vec_capacity}
use Rattle.std.specs.List.{All}
use Rattle.record_io.specs.declared.reader.TheConstants.{LANES}
use Rattle.frame_workers.proofs.lane.KeptPermits.new.Given as goal

abbrev pub invariant-lanes : goal.invariant-lanes
invariant-lanes l = record {
  many : length l.lanes.items ≤ LANES;
  room : LANES ≤ vec_capacity l.lanes;
  none : All (λ places. places.items ≡ []) l.lanes.items;
}

abbrev pub decreases-lanes : goal.decreases-lanes
decreases-lanes l = LANES - length l.lanes.items
