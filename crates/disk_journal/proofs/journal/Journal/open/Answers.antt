use Rattle.disk_journal.proofs.Moments.{only_syncs_moments}
use Rattle.disk_journal.proofs.journal.Journal.open.Goals as goal

pub returns-in-Ok-Opens-clause-any_moment : goal.returns-in-Ok-Opens-clause-any_moment
returns-in-Ok-Opens-clause-any_moment g c = λ told.
    only_syncs_moments (g.O.Site.trace c.args.site.now) (g.O.Site.trace c.inspect_synced.new.site)
    (c.inspect_synced.ensures.unchanged told)
    (g.met.O.Site.image_may_stay c.args.site.now told)

pub returns-in-Ok-Fails-clause-any_moment : goal.returns-in-Ok-Fails-clause-any_moment
returns-in-Ok-Fails-clause-any_moment g c = λ told.
    only_syncs_moments (g.O.Site.trace c.args.site.now) (g.O.Site.trace c.inspect_synced.new.site)
    (c.inspect_synced.ensures.unchanged told)
    (g.met.O.Site.image_may_stay c.args.site.now told)

pub returns-in-Err-clause-any_moment : goal.returns-in-Err-clause-any_moment
returns-in-Err-clause-any_moment g c = λ told.
    only_syncs_moments (g.O.Site.trace c.args.site.now) (g.O.Site.trace c.inspect_synced.new.site)
    (c.inspect_synced.ensures.unchanged told)
    (g.met.O.Site.image_may_stay c.args.site.now told)
