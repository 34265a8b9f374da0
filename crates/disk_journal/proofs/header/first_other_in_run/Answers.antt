use Rattle.std.proofs.Common.{◌≡◌, ℕ, ◌-◌, ◌*◌, ◌∙◌, length, take, drop, ap, arith}
use Rattle.disk_journal.specs.declared.layout.TheConstants.{SLOT_LENGTH}
use Rattle.disk_journal.proofs.GateRuns.{other_read}
use Rattle.disk_journal.proofs.header.first_other_in_run.Goals as goal

pub returns-clause-found : goal.returns-clause-found
returns-clause-found g c = λ told.
    let image = (g.O.Site.trace c.args.site.now).now.image in
    let slots = c.read_at.new.into in
    let long : length slots ≡ SLOT_LENGTH * (c.args.end - c.args.first) = omega arith in
    other_read c.args.layout c.args.bank image slots c.args.gate c.args.first c.args.end
    (length c.args.slots.now) c.first_other_of.result
    c.requires.ordered
    (c.in_ok-read_at.ensures.read told
    ∙ ap (λ (at : ℕ). take (length c.args.slots.now) (drop at image)) c.slot_at.ensures)
    long c.first_other_of.ensures
