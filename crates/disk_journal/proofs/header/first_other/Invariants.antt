use Rattle.std.proofs.Common.{◌≡◌, ℕ, ◌-◌, ◌<◌, ◌≤◌, length, IsTrue}
use Rattle.disk_journal.specs.declared.layout.TheConstants.{RUN_LENGTH}
use Rattle.disk_journal.specs.Banks.{slot_gate}
use Rattle.disk_journal.proofs.header.first_other.Given as goal

abbrev pub decreases-loop-first : goal.decreases-loop-first
decreases-loop-first g l = l.layout.slots - l.first

abbrev pub invariant-loop-first : goal.invariant-loop-first
invariant-loop-first g l = record {
  stood : g.O.Site.faults l.site ≡ g.O.Site.faults l.initial.site;
  puts : g.O.Site.put_faults l.site ≡ g.O.Site.put_faults l.initial.site;
  same : IsTrue g.O.Site.told → g.O.Site.trace l.site ≡ g.O.Site.trace l.initial.site;
  sized : length l.room ≡ RUN_LENGTH;
  low : l.from ≤ l.first;
  before : IsTrue g.O.Site.told → (k : ℕ) → l.from ≤ k → k < l.first → slot_gate l.layout
      (g.O.Site.trace l.initial.site).now.image l.bank k ≡ l.gate;
}
