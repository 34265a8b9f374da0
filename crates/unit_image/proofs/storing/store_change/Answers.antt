use Rattle.std.proofs.Common.{◌≡◌, None, Some, refl, sym, subst}
use Rattle.unit_state.specs.Restart.{stored_as}
use Rattle.unit_state.proofs.Alike.{stores_well}
use Rattle.unit_image.specs.Storing.{Destroys}
use Rattle.unit_image.proofs.Stored.{none_stored, stored_for}
use Rattle.unit_image.proofs.storing.store_change.Goals as goal

pub store_storable-requires-clause-allowed : goal.store_storable-requires-clause-allowed
store_storable-requires-clause-allowed g c =
    (stores_well c.args.state.now c.args.change.now c.in-Some.marks c.requires.rules c.requires.allowed
    (subst (λ change. stored_as c.args.state.now change ≡ Some c.in-Some.marks) (sym c.in-Accepted.is)
    (sym c.in-Some.ensures))).allowed

pub returns-in-Nothing-clause-stores : goal.returns-in-Nothing-clause-stores
returns-in-Nothing-clause-stores g c = none_stored g.O.Site.told c.args.state.now c.args.change.now _ c.args.journal.now
    (g.O.Site.trace c.args.site.now) c.requires.rules c.requires.allowed
    (subst (λ change. stored_as c.args.state.now change ≡ None) (sym c.in-Nothing.is) refl) c.requires.settled

pub returns-in-Some-clause-stores : goal.returns-in-Some-clause-stores
returns-in-Some-clause-stores g c =
    stored_for g.O.Site.told c.args.state.now c.args.change.now c.in-Some.marks c.store_storable.result
    c.args.journal.now c.store_storable.new.journal (g.O.Site.trace c.args.site.now)
    (g.O.Site.trace c.store_storable.new.site)
    c.requires.rules c.requires.allowed
    (subst (λ change. stored_as c.args.state.now change ≡ Some c.in-Some.marks) (sym c.in-Accepted.is)
    (sym c.in-Some.ensures))
    (subst Destroys c.in-Accepted.is) c.store_storable.ensures.stores

pub returns-in-None-clause-stores : goal.returns-in-None-clause-stores
returns-in-None-clause-stores g c = none_stored g.O.Site.told c.args.state.now c.args.change.now _ c.args.journal.now
    (g.O.Site.trace c.args.site.now) c.requires.rules c.requires.allowed
    (subst (λ change. stored_as c.args.state.now change ≡ None) (sym c.in-Accepted.is) (sym c.in-None.ensures))
    c.requires.settled
