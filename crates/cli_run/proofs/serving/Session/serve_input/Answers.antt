use Rattle.std.proofs.Common.{refl, sym, ◌∙◌, subst, arith}
use Rattle.record_io.specs.Reading.{SourceSeen, Standing}
use Rattle.counter_table.specs.Worker.{view}
use Rattle.law_workers.specs.Began.{BeganWith}
use Rattle.law_runs.proofs.Looping.{begins_way}
use Rattle.frame_workers.proofs.Kept.{none_true}
use Rattle.cli_run.specs.Serving.{Goes}
use Rattle.cli_run.proofs.Served.{began_with, begin_with}
use Rattle.cli_run.proofs.serving.Session.serve_input.Goals as goal

pub segments-init : goal.segments-init
segments-init g c =
    let start : SourceSeen = record {
      told = g.S.Source.told;
      left = g.S.Source.left c.args.source.now;
      faults = g.S.Source.faults c.args.source.now;
    } in
    let first = view c.args.self.now.worker in
    record {
      alone = c.requires.alone;
      same = refl;
      kept = none_true c.new-kept.result first.turn c.new-kept.ensures;
      opening = refl;
      way = λ begin began.
          subst (λ (standing : Standing). Goes start start standing begin first first c.args.self.now.log)
          (sym c.new-reader.ensures) (record {
            way = begins_way start begin first first.turn.known.put_faults first.turn.known.standing c.requires.no_log
                c.requires.none_made;
            reports = c.requires.none_noted;
          });
    }

pub serve_next-requires-clause-reading : goal.serve_next-requires-clause-reading
serve_next-requires-clause-reading g c = λ lifetimes bounds.
    let opening = (view c.args.self.now.worker).turn.known.opening in
    let way = c.segments.invariant.way (begin_with g.O.Site.told opening) (began_with g.O.Site.told opening) in (
      record {
        told = g.S.Source.told;
        left = g.S.Source.left c.args.source.now;
        faults = g.S.Source.faults c.args.source.now;
      },
      way.way.items,
      way.way.read,
      way.way.reading,
    )

pub segments-preserved : goal.segments-preserved
segments-preserved g c =
    let start : SourceSeen = record {
      told = g.S.Source.told;
      left = g.S.Source.left c.args.source.now;
      faults = g.S.Source.faults c.args.source.now;
    } in
    let first = view c.args.self.now.worker in
    record {
      alone = c.in-None.ensures.alone;
      same = c.in-None.ensures.same ∙ c.segments.invariant.same;
      kept = c.in-None.ensures.kept;
      opening = c.in-None.ensures.opening ∙ c.segments.invariant.opening;
      way = λ begin began. c.in-None.ensures.leads start begin first
          (subst (BeganWith g.O.Site.told begin) (sym c.segments.invariant.opening) began)
          (c.segments.invariant.way begin began);
    }

pub segments-smaller : goal.segments-smaller
segments-smaller g c =
    let opening = (view c.args.self.now.worker).turn.known.opening in
    let way = c.segments.invariant.way (begin_with g.O.Site.told opening) (began_with g.O.Site.told opening) in
    let few = way.way.reading.few in
    let taken = way.way.reading.taken_is in
    let forth = c.in-None.ensures.forth in
    omega arith

pub returns-in-Some-clause-opening : goal.returns-in-Some-clause-opening
returns-in-Some-clause-opening g c = c.in-Some.ensures.opening ∙ c.segments.invariant.opening

pub returns-in-Some-clause-comes : goal.returns-in-Some-clause-comes
returns-in-Some-clause-comes g c = λ begin began.
    c.in-Some.ensures.leads (record {
      told = g.S.Source.told;
      left = g.S.Source.left c.args.source.now;
      faults = g.S.Source.faults c.args.source.now;
    })
    begin (view c.args.self.now.worker) (subst (BeganWith g.O.Site.told begin) (sym c.segments.invariant.opening) began)
    (c.segments.invariant.way begin began)

pub returns-in-Some-clause-same : goal.returns-in-Some-clause-same
returns-in-Some-clause-same g c = c.in-Some.ensures.same ∙ c.segments.invariant.same
