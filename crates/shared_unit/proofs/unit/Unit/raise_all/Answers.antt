use Rattle.std.proofs.Common.{◌∙◌}
use Rattle.counter_table.specs.Worker.{view}
use Rattle.shared_unit.specs.Told.{known_of_book}
use Rattle.shared_unit.proofs.Beginning.{raised_none, raised_more}
use Rattle.shared_unit.proofs.unit.Unit.raise_all.Goals as goal

pub loop-row-init : goal.loop-row-init
loop-row-init g c =
    record {
      own = c.requires.own;
      raised =
          raised_none (known_of_book c.args.held.now.book) (view c.args.worker.now) c.requires.known;
    }

pub loop-row-preserved : goal.loop-row-preserved
loop-row-preserved g c = record {
  own = c.lift.ensures.same.0 ∙ c.raise_next.ensures.same.0.0 ∙ c.loop-row.invariant.own;
  raised = raised_more (known_of_book c.args.held.now.book) c.loop-row.row c.raise_next.result c.mark-mark.result
      _ (view c.args.worker.now) (view c.loop-row.worker)
      (view c.raise_next.new.worker) (view c.lift.new.worker) c.loop-row.invariant.raised c.mark-mark.ensures
      c.raise_next.ensures.numbers c.raise_next.ensures.same.1
      c.lift.ensures.numbers c.lift.ensures.turn;
}
