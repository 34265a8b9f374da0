use Rattle.std.proofs.Common.{ap, refl, subst, ◌∙◌}
use Rattle.record_io.specs.Reading.{source_seen}
use Rattle.counter_table.specs.Worker.{view}
use Rattle.cli_run.specs.Putting.{IsAlone, OfRun}
use Rattle.cli_run.specs.Serving.{Comes}
use Rattle.cli_run.proofs.running.fn.serve_by_crew.scope.Goals as goal

pub returns : goal.returns
returns g c =
    let after = c.serve_input-came.new.self.worker in record {
      alone = subst (λ unit. IsAlone unit.counters unit.plan after)
          (c.serve_input-came.ensures.same ∙ c.new-session.ensures.unit) c.serve_input-came.ensures.alone;
      opening = c.serve_input-came.ensures.opening
          ∙ ap (λ worker. (view worker).turn.known.opening) c.new-session.ensures.worker;
      comes = subst (λ worker. OfRun g.O.Site.told (view worker) (λ begin. Comes
          (source_seen g.S.Source.told g.S.Source.left g.S.Source.faults c.captures.source.now)
          (source_seen g.S.Source.told g.S.Source.left g.S.Source.faults c.serve_input-came.new.source)
          begin (view worker) (view after) c.serve_input-came.result)) c.new-session.ensures.worker
          c.serve_input-came.ensures.comes;
      same = refl;
    }
