use Rattle.std.proofs.Common.{◌≡◌, ◌-◌, ◌≤◌, IsTrue}
use Rattle.sdls_outside.specs.Site.{overwritten}
use Rattle.disk_journal.specs.Changes.{WritesIn}
use Rattle.disk_journal.specs.Zeros.{zeros}
use Rattle.disk_journal.proofs.storing.write_zeros.Given as goal

abbrev pub decreases-loop-done : goal.decreases-loop-done
decreases-loop-done g l = l.count - l.done

abbrev pub invariant-loop-done : goal.invariant-loop-done
invariant-loop-done g l = record {
  stood : g.O.Site.faults l.site ≡ g.O.Site.faults l.initial.site;
  puts : g.O.Site.put_faults l.site ≡ g.O.Site.put_faults l.initial.site;
  within : l.done ≤ l.count;
  written : IsTrue g.O.Site.told → (g.O.Site.trace l.site).now.image
      ≡ overwritten (g.O.Site.trace l.initial.site).now.image l.at (zeros l.done);
  row : IsTrue g.O.Site.told → WritesIn l.at l.count (g.O.Site.trace l.initial.site) (g.O.Site.trace l.site);
}
