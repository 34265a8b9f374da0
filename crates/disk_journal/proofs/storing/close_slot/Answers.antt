use Rattle.std.proofs.Common.{refl}
use Rattle.disk_journal.proofs.Rests.{gated_slot_here}
use Rattle.disk_journal.proofs.storing.close_slot.Goals as goal

pub returns-then-index-slots-clause-any_moment : goal.returns-then-index-slots-clause-any_moment
returns-then-index-slots-clause-any_moment g c = λ told.
    gated_slot_here c.args.at c.args.index c.args.slots (g.O.Site.trace c.args.site.now)
    (g.O.Site.trace c.args.site.now) (c.requires.synced told) refl
