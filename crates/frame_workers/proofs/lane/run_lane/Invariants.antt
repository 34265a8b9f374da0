use Rattle.std.proofs.Common.{◌≡◌, ℕ, ◌≤◌, length, take, false, vec_capacity}
use Rattle.std.specs.List.{All}
use Rattle.counter_table.specs.Worker.{view}
use Rattle.shared_unit.specs.Turn.{IsReady}
use Rattle.run_promise.specs.Call.{Begin}
use Rattle.law_workers.specs.Deeds.{Ascend, deeds_of}
use Rattle.law_workers.specs.Order.{Layout, Handled}
use Rattle.law_workers.specs.Lanes.{of_lane}
use Rattle.law_workers.specs.Alone.{MovedInTurn}
use Rattle.law_workers.specs.Began.{BeganWith}
use Rattle.frame_workers.specs.Permits.{AreTrueFor}
use Rattle.frame_workers.proofs.lane.run_lane.Given as goal

abbrev pub invariant-loop-task : goal.invariant-loop-task
invariant-loop-task g l = record {
  number : l.lane.number ≡ l.initial.lane.number;
  is_ready : IsReady l.unit.counters l.unit.plan l.lane.worker;
  kept : All (λ permits. AreTrueFor permits (view l.lane.worker).turn) l.lane.kept.items;
  shares : (view l.lane.worker).numbers.shares ≡ (view l.initial.lane.worker).numbers.shares;
  going : l.lane.full ≡ false;
  room : length l.records ≤ vec_capacity l.lane.answers;
  ascend : Ascend l.records;
  count : length l.lane.answers.items ≡ length (of_lane l.initial.lane.number (take l.task-index l.records));
  handled : (begin : Begin) (layout : Layout) (segment : ℕ)
      → BeganWith g.O.Site.told begin (view l.initial.lane.worker).turn.known.opening
      → Handled layout begin (view l.initial.lane.worker) (view l.lane.worker)
      (of_lane l.initial.lane.number (take l.task-index l.records))
      (deeds_of segment (of_lane l.initial.lane.number (take l.task-index l.records)) l.lane.answers.items);
  exactly : (begin : Begin) (segment : ℕ)
      → BeganWith g.O.Site.told begin (view l.initial.lane.worker).turn.known.opening
      → MovedInTurn begin (view l.initial.lane.worker) (view l.lane.worker)
      (length (of_lane l.initial.lane.number (take l.task-index l.records)))
      (deeds_of segment (of_lane l.initial.lane.number (take l.task-index l.records)) l.lane.answers.items);
}
