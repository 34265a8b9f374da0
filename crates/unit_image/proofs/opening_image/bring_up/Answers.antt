use Rattle.std.proofs.Common.{◌∙◌, refl, sym}
use Rattle.sdls_base.specs.declared.version.Version.TheVariants.{One}
use Rattle.unit_image.proofs.Bringing.{brings_none, brings_two, is_content, version_is}
use Rattle.unit_image.proofs.Outside.{outside_after, outside_same}
use Rattle.unit_image.proofs.Stored.{both}
use Rattle.unit_image.proofs.opening_image.bring_up.Goals as goal

pub returns-in-Two-clause-brings : goal.returns-in-Two-clause-brings
returns-in-Two-clause-brings g c =
    λ told. brings_none c.args.state.now _ c.args.journal.now (g.O.Site.trace c.args.site.now) (c.requires.settled told)

pub returns-in-One-clause-brings : goal.returns-in-One-clause-brings
returns-in-One-clause-brings g c = λ told.
    let old = g.O.Site.trace c.args.site.now in
    brings_two c.args.state.now c.write_content_two.new.out c.migrate.result c.migrate.new.self old
    (g.O.Site.trace c.migrate.new.site)
    (version_is old c.args.journal.now One (c.requires.settled told) (sym c.in-One.is ∙ c.content_version.ensures.is))
    c.write_content_two.ensures.written
    (is_content old.now.image c.args.state.now (c.requires.shows told) c.requires.rules
    c.write_content_two.ensures.rows)
    (c.migrate.ensures.becomes told)
    (both _ _ c.migrate.result (c.migrate.ensures.stored told) (c.migrate.ensures.holds told))

pub returns-in-Two-clause-outside : goal.returns-in-Two-clause-outside
returns-in-Two-clause-outside g c = λ told before keeps.
    outside_same c.args.journal.now before (g.O.Site.trace c.args.site.now).now.image
    (c.requires.settled told).of_image.closed.of_image keeps

pub returns-in-One-clause-outside : goal.returns-in-One-clause-outside
returns-in-One-clause-outside g c = λ told.
    outside_after c.migrate.result c.args.journal.now _ c.migrate.new.self (g.O.Site.trace c.args.site.now).now.image
    (g.O.Site.trace c.migrate.new.site).now.image (c.requires.settled told).of_image.closed.of_image
    (c.content_version.ensures.one c.in-One.is) refl (c.migrate.ensures.before told) (c.migrate.ensures.past told)
    c.migrate.ensures.counted
