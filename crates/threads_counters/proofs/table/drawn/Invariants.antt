use Rattle.std.proofs.Common.{◌≡◌, false}
use Rattle.counter_table.specs.Worker.{view, IsOf}
use Rattle.threads_counters.proofs.table.drawn.Given as goal

abbrev pub invariant-loop : goal.invariant-loop
invariant-loop g l = record {
  own : IsOf l.counters l.worker;
  free : (view l.worker).turn.holds ≡ false;
}
