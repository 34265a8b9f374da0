use Rattle.std.proofs.Common.{ℕ, List, sym, subst}
use Rattle.sdls_base.specs.declared.entry.Entry.{Entry}
use Rattle.record_io.specs.Reading.{SourceSeen}
use Rattle.counter_table.specs.declared.view.View.{View}
use Rattle.counter_table.specs.Worker.{view}
use Rattle.run_promise.specs.Life.{EndsAndLives}
use Rattle.run_promise.specs.Call.{SiteSeen, site_seen}
use Rattle.cli_run.specs.Running.{PutsRefusal, RunsUnit}
use Rattle.cli_run.proofs.Closed.{has_run}
use Rattle.cli_run.proofs.running.run_recorded.Goals as goal

pub returns-in-Ok : goal.returns-in-Ok
returns-in-Ok g c =
    let told = g.O.Site.told in
    let seen : g.row.O.Denot → SiteSeen = site_seen g.O.Site.trace g.O.Site.faults g.O.Site.put_faults in
    let source : SourceSeen = record {
      told = g.S.Source.told;
      left = g.S.Source.left c.args.source.now;
      faults = g.S.Source.faults c.args.source.now;
    } in
    let after : SourceSeen =
    record {
      told = g.S.Source.told;
      left = g.S.Source.left c.serve_unit.new.source;
      faults = g.S.Source.faults c.serve_unit.new.source;
    } in
    let first : View = view c.in-Ok.worker in
    let entries : List Entry = c.serve_unit.result.entries.items in
    let (book, opened, begins) = c.in-Ok.ensures.opened in
    let runs : RunsUnit told (seen c.args.site).faults source after first (seen c.serve_unit.result.site) entries
    c.serve_unit.result.status =
    subst (λ (n : ℕ). RunsUnit told n source after first (seen c.serve_unit.result.site) entries
    c.serve_unit.result.status)
    c.faults-before.ensures c.serve_unit.ensures in
    c.run_ends_well.ensures told (seen c.args.site) (seen c.serve_unit.result.site) source after first runs.now
    runs.came runs.book runs.words entries c.serve_unit.result.status
    (has_run told (seen c.args.site) (seen c.serve_unit.result.site) book c.in-Ok.unit.counters c.in-Ok.unit.plan
    c.in-Ok.worker opened begins source after
    entries c.serve_unit.result.status runs c.shown_keeps_rules.ensures.plan c.shown_keeps_rules.ensures.left)
    runs.finishes

pub returns-in-Err : goal.returns-in-Err
returns-in-Err g c =
    let told = g.O.Site.told in
    let seen : g.row.O.Denot → SiteSeen = site_seen g.O.Site.trace g.O.Site.faults g.O.Site.put_faults in
    let source : SourceSeen = record {
      told = g.S.Source.told;
      left = g.S.Source.left c.args.source.now;
      faults = g.S.Source.faults c.args.source.now;
    } in
    let put : PutsRefusal told (seen c.args.site).faults c.in-Err.fault (seen c.in-Err.site) (seen c.refuse.result.site)
    c.refuse.result.status =
    subst (λ (n : ℕ). PutsRefusal told n c.in-Err.fault (seen c.in-Err.site) (seen c.refuse.result.site)
    c.refuse.result.status)
    c.faults-before.ensures c.refuse.ensures.puts in
    subst (λ (es : List Entry).
    EndsAndLives (record {
      source = source;
      source_after = source;
      told = told;
      site = seen c.args.site;
      site_after = seen c.refuse.result.site;
      status = c.refuse.result.status;
      entries = es;
    }))
    (sym c.refuse.ensures.entries)
    (c.refused_run_ends.ensures told (seen c.args.site) (seen c.in-Err.site) (seen c.refuse.result.site) source
    c.in-Err.fault c.refuse.result.status (record {
      cause = c.in-Err.ensures.refused;
      left = c.in-Err.ensures.left;
      opening = c.in-Err.ensures.any_moment;
      stays = λ is_told. (c.image_stays.ensures c.args.site is_told, c.image_stays.ensures c.in-Err.site is_told);
      later = c.in-Err.ensures.later;
      same_puts = c.in-Err.ensures.puts;
      end = put.end;
      end_is = put.end_is;
      put = put.put;
      sinks = put.sinks;
      counted = put.counted;
      put_cause = put.cause;
      status_is = put.status_is;
      widths = put.widths;
    }))
