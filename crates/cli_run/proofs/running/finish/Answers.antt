use Rattle.std.proofs.Common.{ℕ, subst, sym}
use Rattle.law_runs.specs.Ending.{IsToldEnd}
use Rattle.cli_run.proofs.running.finish.Goals as goal

pub returns : goal.returns
returns g c = record {
  finishes = record {
    released = c.release-released.new.self;
    answer = c.release-released.result;
    releases = c.release-released.ensures.released;
    goes_on = c.release-released.ensures.goes_on;
    risen = c.release-released.ensures.risen;
    same_puts = c.release-released.ensures.puts;
    end = c.told_end-told.result;
    end_is = subst (λ (last : ℕ). IsToldEnd c.args.before last c.release-released.new.self.site.faults c.args.came
        c.release-released.result c.told_end-told.result)
        c.faults-last.ensures
        (subst (λ (now : ℕ). IsToldEnd c.args.before c.faults-last.result now c.args.came c.release-released.result
        c.told_end-told.result) c.faults.ensures c.told_end-told.ensures);
    last = c.put_end-status.new.book;
    kept = c.put_end-status.ensures.kept;
    puts_end = c.put_end-status.ensures.ends;
    site_is = sym c.into_site-site.ensures.site;
    entries_are = c.into_site-site.ensures.entries;
    widths = c.put_end-status.ensures.widths;
  };
}
