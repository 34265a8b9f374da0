use Rattle.std.proofs.Common.{◌≡◌, ℕ, ◌<◌, length}
use Rattle.std.specs.List.{All, AllPairs}
use Rattle.record_io.specs.declared.reader.TheConstants.{LANES}
use Rattle.sdls_base.specs.declared.TheConstants.{MOST_KEYS}
use Rattle.counter_table.specs.declared.view.Turn.{Turn}
use Rattle.counter_table.specs.Worker.{view}
use Rattle.shared_unit.specs.Turn.{IsReady}
use Rattle.law_workers.specs.Lanes.{MeetAll, meeting_all}
use Rattle.frame_workers.specs.Lanes.{HaveOwnNumbers, IsTrueLane, answers_of, left_at, parts_of}
use Rattle.frame_workers.specs.Permits.{AreKept}
use Rattle.frame_workers.proofs.Joins.{answers_or}
use Rattle.frame_workers.proofs.segment.join_lanes.Given as goal

abbrev pub invariant-lanes : goal.invariant-lanes
invariant-lanes g l = record {
  is_ready : IsReady l.unit.counters l.unit.plan l.worker;
  ready : All (λ lane. IsReady l.unit.counters l.unit.plan lane.worker × (lane.number < LANES)) l.lanes.items;
  apart : AllPairs HaveOwnNumbers l.lanes.items;
  many : length l.parts ≡ LANES;
  kept : (v : Turn) → AreKept l.initial.kept v → All (IsTrueLane v) l.initial.lanes.items
      → AreKept l.kept v × All (IsTrueLane v) l.lanes.items;
  joined : meeting_all (view l.worker) (parts_of l.lanes.items)
      ≡ meeting_all (view l.initial.worker) (parts_of l.initial.lanes.items);
  meet : MeetAll MOST_KEYS (view l.worker) (parts_of l.lanes.items)
      → MeetAll MOST_KEYS (view l.initial.worker) (parts_of l.initial.lanes.items);
  parts : (number : ℕ) → answers_or number (parts_of l.lanes.items) (left_at number l.parts)
      ≡ answers_of number (parts_of l.initial.lanes.items);
}

abbrev pub decreases-lanes : goal.decreases-lanes
decreases-lanes g l = length l.lanes.items
