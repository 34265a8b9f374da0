use Rattle.std.proofs.Common.{◌≡◌, ℕ, ◌<◌, ◌≤◌, length, slice_index_or, vec_capacity}
use Rattle.record_io.specs.declared.reader.TheConstants.{LANES}
use Rattle.frame_workers.specs.Lanes.{IsRoom}
use Rattle.frame_workers.proofs.segment.rooms_for.Given as goal

abbrev pub invariant-loop-number : goal.invariant-loop-number
invariant-loop-number l = record {
  many : length l.rooms.items ≡ l.number;
  room : LANES ≤ vec_capacity l.rooms;
  rooms : (k : ℕ) (d : _) → k < length l.rooms.items → IsRoom l.records k (slice_index_or l.rooms.items k d);
}
