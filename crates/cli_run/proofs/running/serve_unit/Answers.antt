use Rattle.std.proofs.Common.{ℕ, List, subst}
use Rattle.counter_table.specs.Worker.{view}
use Rattle.run_promise.specs.Call.{site_seen}
use Rattle.law_runs.specs.Ending.{Finishes}
use Rattle.cli_run.proofs.running.serve_unit.Goals as goal

pub returns : goal.returns
returns g c =
    let told = g.O.Site.told in
    record {
      now = view c.serve_with_log-unit.result.1;
      came = c.serve_with_log-unit.result.2;
      book = c.close-book.result.0;
      words = c.close-book.result.1.items;
      comes = c.serve_with_log-unit.ensures.comes;
      opening = c.serve_with_log-unit.ensures.opening;
      whole = c.serve_with_log-unit.ensures.alone.whole;
      kept = c.close-book.ensures.kept;
      closes = c.close-book.ensures.closes;
      finishes = subst (λ (words : List ℕ). Finishes told c.args.before words c.serve_with_log-unit.result.2
          c.close-book.result.0 (site_seen g.O.Site.trace g.O.Site.faults g.O.Site.put_faults c.finish.result.site)
          c.finish.result.entries.items c.finish.result.status) c.deref.ensures.value c.finish.ensures.finishes;
    }
