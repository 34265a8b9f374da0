use Rattle.disk_journal.proofs.SlotWrites.{body_first, gate_second}
use Rattle.disk_journal.proofs.storing.store_record.Goals as goal

pub returns-in_err-store-clause-any_moment : goal.returns-in_err-store-clause-any_moment
returns-in_err-store-clause-any_moment g c = λ told.
    body_first c.args.at c.args.body.now (g.O.Site.trace c.args.site.now) (g.O.Site.trace c.store.new.site)
    c.told-body (c.store.ensures.any_moment told)

pub returns-clause-any_moment : goal.returns-clause-any_moment
returns-clause-any_moment g c = λ told.
    gate_second c.args.at c.args.body.now (g.O.Site.trace c.args.site.now) (g.O.Site.trace c.store.new.site)
    (g.O.Site.trace c.store-2.new.site)
    c.told-body (c.store.ensures.any_moment told) (c.in_ok-store.ensures.stored told).1
    (c.store-2.ensures.any_moment told)
