use Rattle.counter_table.specs.Worker.{view}
use Rattle.shared_unit.specs.Protecting.{IsTrueIfKept}
use Rattle.shared_unit.specs.Turn.{IsReady}
use Rattle.threads_unit.proofs.numbers.protected.Given as goal

abbrev pub invariant-frames : goal.invariant-frames
invariant-frames g l = record {
  is_ready : IsReady l.unit.counters l.unit.plan l.worker;
  kept : IsTrueIfKept l.kept (view l.worker).turn;
}
