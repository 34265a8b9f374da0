use Rattle.counter_table.specs.Worker.{IsOf}
use Rattle.threads_counters.proofs.table.numbers_end_below_the_end.Given as goal

abbrev pub invariant-loop-wanted : goal.invariant-loop-wanted
invariant-loop-wanted g l = IsOf l.counters l.worker
