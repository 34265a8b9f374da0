use Rattle.std.proofs.Common.{◌≡◌, ◌+◌, ◌-◌, ◌≤◌, length, IsTrue}
use Rattle.disk_journal.specs.declared.layout.TheConstants.{RUN_LENGTH}
use Rattle.disk_journal.specs.Changes.{IsZero}
use Rattle.disk_journal.proofs.storing.is_zero.Given as goal

abbrev pub decreases-loop-done : goal.decreases-loop-done
decreases-loop-done g l = l.count - l.done

abbrev pub invariant-loop-done : goal.invariant-loop-done
invariant-loop-done g l = record {
  stood : g.O.Site.faults l.site ≡ g.O.Site.faults l.initial.site;
  puts : g.O.Site.put_faults l.site ≡ g.O.Site.put_faults l.initial.site;
  same : IsTrue g.O.Site.told → g.O.Site.trace l.site ≡ g.O.Site.trace l.initial.site;
  sized : length l.room ≡ RUN_LENGTH;
  within : l.done ≤ l.count;
  zero : IsTrue g.O.Site.told → IsZero l.at (l.at + l.done) (g.O.Site.trace l.initial.site).now.image;
}
