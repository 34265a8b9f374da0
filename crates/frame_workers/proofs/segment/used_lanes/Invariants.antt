use Rattle.std.proofs.Common.{◌≡◌, length, take}
use Rattle.record_io.specs.declared.reader.TheConstants.{LANES}
use Rattle.frame_workers.specs.Lanes.{IsUsed}
use Rattle.frame_workers.proofs.segment.used_lanes.Given as goal

abbrev pub invariant-loop-task : goal.invariant-loop-task
invariant-loop-task l = record {
  many : length l.lanes ≡ LANES;
  used : IsUsed l.lanes (take l.task-index l.records);
}
