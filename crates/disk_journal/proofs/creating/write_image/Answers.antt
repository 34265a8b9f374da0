use Rattle.disk_journal.proofs.Beginning.{first_refused, then_refused, laid_late, created_ok, gate_within}
use Rattle.std.proofs.Common.{inl, refl}
use Rattle.disk_journal.proofs.creating.write_image.Goals as goal

pub returns-in_err-shut-clause-any_moment : goal.returns-in_err-shut-clause-any_moment
returns-in_err-shut-clause-any_moment g c = λ told. (
  g.O.Site.trace c.shut.new.site,
  record {
    early = first_refused (g.O.Site.trace c.args.site.now) (g.O.Site.trace c.shut.new.site)
        (c.shut.ensures.any_moment told);
    late = inl refl;
  },
)

pub returns-in_err-lay-clause-any_moment : goal.returns-in_err-lay-clause-any_moment
returns-in_err-lay-clause-any_moment g c = λ told. (
  g.O.Site.trace c.lay.new.site,
  record {
    early = then_refused (g.O.Site.trace c.args.site.now) (g.O.Site.trace c.shut.new.site)
        (g.O.Site.trace c.lay.new.site)
        (c.shut.ensures.any_moment told) (c.lay.ensures.any_moment told);
    late = inl refl;
  },
)

pub store-requires-clause-within : goal.store-requires-clause-within
store-requires-clause-within g c = λ told.
    gate_within c.args.form c.args.plan.now c.args.slots c.args.content.now (g.O.Site.trace c.lay.new.site).now.image
    (c.in_ok-lay.ensures.laid told).1

pub returns-clause-created : goal.returns-clause-created
returns-clause-created g c = λ told.
    created_ok c.store.result c.args.form c.args.plan.now c.args.slots c.args.content.now
    (g.O.Site.trace c.lay.new.site) (g.O.Site.trace c.store.new.site)
    (c.in_ok-lay.ensures.laid told).1 (c.store.ensures.stored told)

pub returns-clause-any_moment : goal.returns-clause-any_moment
returns-clause-any_moment g c = λ told. (
  g.O.Site.trace c.lay.new.site,
  laid_late c.args.form c.args.plan.now c.args.slots c.args.content.now (g.O.Site.trace c.args.site.now)
      (g.O.Site.trace c.lay.new.site) (g.O.Site.trace c.store.new.site)
      (then_refused (g.O.Site.trace c.args.site.now) (g.O.Site.trace c.shut.new.site) (g.O.Site.trace c.lay.new.site)
      (c.shut.ensures.any_moment told) (c.lay.ensures.any_moment told))
      (c.in_ok-lay.ensures.laid told).0 (c.in_ok-lay.ensures.laid told).1 (c.store.ensures.any_moment told),
)
