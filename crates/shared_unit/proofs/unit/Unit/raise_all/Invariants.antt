use Rattle.counter_table.specs.Worker.{view, IsOf}
use Rattle.shared_unit.specs.Sharing.{IsRaised}
use Rattle.shared_unit.specs.Told.{known_of_book}
use Rattle.shared_unit.proofs.unit.Unit.raise_all.Given as goal

abbrev pub invariant-loop-row : goal.invariant-loop-row
invariant-loop-row g l = record {
  own : IsOf l.fn.self.counters l.worker;
  raised : IsRaised (known_of_book l.fn.held.book) l.row (view l.fn.worker) (view l.worker);
}
