use Rattle.std.proofs.Common.{◌≡◌, IsTrue, take}
use Rattle.disk_journal.specs.Image.{records}
use Rattle.disk_journal.specs.Runs.{IsRunOf}
use Rattle.unit_state.specs.State.{KeepsRules}
use Rattle.unit_image.specs.Shows.{LeadTo}
use Rattle.unit_image.proofs.reading.take_records.Given as goal

abbrev pub invariant-loop-index : goal.invariant-loop-index
invariant-loop-index g l = record {
  stood : g.O.Site.faults l.site ≡ g.O.Site.faults l.initial.site;
  puts : g.O.Site.put_faults l.site ≡ g.O.Site.put_faults l.initial.site;
  same : IsTrue g.O.Site.told → g.O.Site.trace l.site ≡ g.O.Site.trace l.initial.site;
  run : IsTrue g.O.Site.told → IsRunOf (g.O.Site.trace l.initial.site).now.image l.run;
  led : IsTrue g.O.Site.told → LeadTo l.initial.state (take l.index (records (g.O.Site.trace l.initial.site).now.image))
      l.state;
  rules : KeepsRules l.state;
}
