use Rattle.std.proofs.Common.{◌≡◌, false, true}
use Rattle.counter_table.specs.Worker.{view, IsOf}
use Rattle.threads_counters.proofs.table.counted.Given as goal

abbrev pub invariant-loop : goal.invariant-loop
invariant-loop g l = record {
  own : IsOf l.counters l.worker;
  free : (view l.worker).turn.holds ≡ false;
  filled : (view l.worker).turn.filled ≡ true;
  shares : (view l.worker).numbers.shares ≡ (view l.fn.worker).numbers.shares;
}
