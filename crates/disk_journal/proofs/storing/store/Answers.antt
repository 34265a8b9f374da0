use Rattle.disk_journal.proofs.Moments.{failed_moments, stored_moments}
use Rattle.disk_journal.proofs.storing.store.Goals as goal

pub returns-in_err-write_at-clause-any_moment : goal.returns-in_err-write_at-clause-any_moment
returns-in_err-write_at-clause-any_moment g c = λ told.
    failed_moments c.args.at c.args.octets.now (g.O.Site.trace c.args.site.now) (g.O.Site.trace c.write_at.new.self)
    (c.requires.synced told) (c.requires.within told) (c.in_err-write_at.ensures.written told)

pub returns-clause-any_moment : goal.returns-clause-any_moment
returns-clause-any_moment g c = λ told.
    stored_moments c.args.at c.args.octets.now c.sync.result (g.O.Site.trace c.args.site.now)
    (g.O.Site.trace c.write_at.new.self) (g.O.Site.trace c.sync.new.self) (c.requires.synced told)
    (c.requires.within told)
    (c.in_ok-write_at.ensures.written told) (c.sync.ensures.synced told)
