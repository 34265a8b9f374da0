use Rattle.std.proofs.Common.{◌≡◌, ℕ, ◌<◌, ◌≤◌, ◌+◌, length, true, vec_capacity}
use Rattle.std.specs.List.{All, AllPairs, list_any, slice_index_or}
use Rattle.record_io.specs.declared.reader.TheConstants.{LANES}
use Rattle.counter_table.specs.Worker.{view}
use Rattle.shared_unit.specs.Turn.{IsReady}
use Rattle.law_workers.specs.Lanes.{giving_shares, is_of_lane}
use Rattle.frame_workers.specs.Lanes.{HaveOwnNumbers, IsRoom, IsSplit, IsThere}
use Rattle.counter_table.specs.declared.view.Turn.{Turn}
use Rattle.frame_workers.specs.Permits.{AreKept}
use Rattle.frame_workers.proofs.segment.split_lanes.Given as goal

abbrev pub invariant-rooms : goal.invariant-rooms
invariant-rooms g l = record {
  is_ready : IsReady l.unit.counters l.unit.plan l.worker;
  given : view l.worker ≡ giving_shares (length l.lanes.items) (view l.initial.worker);
  shares : LANES < (view l.initial.worker).numbers.shares;
  many : length l.lanes.items + length l.rooms.items ≤ LANES;
  rooms : (k : ℕ) (d : _) → k < length l.rooms.items → IsRoom l.records k (slice_index_or l.rooms.items k d);
  room : LANES ≤ vec_capacity l.lanes;
  split : All (IsSplit (IsReady l.unit.counters l.unit.plan) l.records (view l.initial.worker)) l.lanes.items;
  above : All (λ lane. length l.rooms.items ≤ lane.number) l.lanes.items;
  apart : AllPairs HaveOwnNumbers l.lanes.items;
  kept : AreKept l.kept (view l.initial.worker).turn;
  left : (v : Turn) → AreKept l.initial.kept v → AreKept l.kept v;
  each : (number : ℕ) → length l.rooms.items ≤ number → number < LANES → list_any (is_of_lane number) l.records ≡ true
      → IsThere number l.lanes.items;
}

abbrev pub decreases-rooms : goal.decreases-rooms
decreases-rooms g l = length l.rooms.items
