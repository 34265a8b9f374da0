use Rattle.disk_journal.specs.declared.layout.TheConstants.{FIRST_GENERATION}
use Rattle.disk_journal.proofs.Laying.{erased_moments, laid_moments, migrated_ok, octet_moments}
use Rattle.disk_journal.proofs.creating.migrate_banks.Goals as goal

pub returns-in_err-lay_banks-clause-any_moment : goal.returns-in_err-lay_banks-clause-any_moment
returns-in_err-lay_banks-clause-any_moment g c = λ told.
    laid_moments c.args.layout FIRST_GENERATION c.args.content.now (g.O.Site.trace c.args.site.now)
    (g.O.Site.trace c.lay_banks.new.site)
    (c.lay_banks.ensures.any_moment told)

pub returns-in_err-store-clause-any_moment : goal.returns-in_err-store-clause-any_moment
returns-in_err-store-clause-any_moment g c = λ told.
    octet_moments c.args.layout FIRST_GENERATION c.args.content.now (g.O.Site.trace c.args.site.now)
    (g.O.Site.trace c.lay_banks.new.site)
    (g.O.Site.trace c.store.new.site) (c.lay_banks.ensures.any_moment told) (c.in_ok-lay_banks.ensures.laid told).1
    (c.store.ensures.any_moment told)

pub returns-clause-any_moment : goal.returns-clause-any_moment
returns-clause-any_moment g c = λ told.
    let laid = (c.in_ok-lay_banks.ensures.laid told).1 in
    erased_moments c.args.layout FIRST_GENERATION c.args.content.now (g.O.Site.trace c.args.site.now)
    (g.O.Site.trace c.lay_banks.new.site) (g.O.Site.trace c.store.new.site) (g.O.Site.trace c.clear.new.site)
    (octet_moments c.args.layout FIRST_GENERATION c.args.content.now (g.O.Site.trace c.args.site.now)
    (g.O.Site.trace c.lay_banks.new.site)
    (g.O.Site.trace c.store.new.site) (c.lay_banks.ensures.any_moment told) laid (c.store.ensures.any_moment told))
    laid (c.in_ok-store.ensures.stored told).1 (c.clear.ensures.any_moment told)

pub returns-clause-migrated : goal.returns-clause-migrated
returns-clause-migrated g c = λ told.
    migrated_ok c.clear.result c.args.layout FIRST_GENERATION c.args.content.now
    (g.O.Site.trace c.args.site.now).now.image (g.O.Site.trace c.lay_banks.new.site) (g.O.Site.trace c.store.new.site)
    (g.O.Site.trace c.clear.new.site) (c.in_ok-lay_banks.ensures.laid told).1 (c.in_ok-store.ensures.stored told).1
    (c.clear.ensures.cleared told)
