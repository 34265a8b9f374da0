use Rattle.shared_unit.specs.Turn.{IsReady}
use Rattle.threads_unit.proofs.loads.keyed.Given as goal

abbrev pub invariant-loop-message : goal.invariant-loop-message
invariant-loop-message g l = IsReady l.unit.counters l.unit.plan l.worker
