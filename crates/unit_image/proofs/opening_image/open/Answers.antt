use Rattle.std.proofs.Common.{refl, sym, subst}
use Rattle.unit_image.specs.OpeningImage.{IsBroughtUp, LeavesShown}
use Rattle.disk_journal.specs.Image.{held}
use Rattle.unit_image.proofs.Bringing.{next_shows, opening_then}
use Rattle.unit_image.proofs.OpenFaults.{left_by_fault}
use Rattle.unit_image.proofs.Outside.{brought_plan}
use Rattle.unit_image.proofs.opening_image.open.Goals as goal

pub returns-in-Ok-bring_up-clause-shows : goal.returns-in-Ok-bring_up-clause-shows
returns-in-Ok-bring_up-clause-shows g c = λ told.
    let mid = g.O.Site.trace c.show.new.site in
    let new = g.O.Site.trace c.bring_up.new.site in
    let brings = c.in-Ok-bring_up.ensures.brings told in (
      (c.in-Ok-show.ensures.shows told).0,
      next_shows mid.now.image new.now.image c.in-Ok-show.opened.state (c.in-Ok-show.ensures.shows told).1
          (record { opens = brings.done.0.of_image.closed.of_image.opens; is = refl })
          (subst (IsBroughtUp c.in-Ok-show.opened.state (held mid.now.image)) (sym brings.done.1) brings.is),
    )

pub returns-in-Ok-bring_up-clause-any_moment : goal.returns-in-Ok-bring_up-clause-any_moment
returns-in-Ok-bring_up-clause-any_moment g c = λ told.
    let old = g.O.Site.trace c.args.site.now in
    let mid = g.O.Site.trace c.show.new.site in
    let brings = c.in-Ok-bring_up.ensures.brings told in
    opening_then old mid (g.O.Site.trace c.bring_up.new.site) c.in-Ok-show.opened.state brings.next
    (c.in-Ok-show.ensures.holds told)
    (c.in-Ok-show.ensures.shows told).0 brings.is c.in-Ok-show.opened.journal (c.in-Ok-show.ensures.settled told)
    (c.in-Ok-show.ensures.any_moment told) brings.moments

pub returns-clause-any_moment : goal.returns-clause-any_moment
returns-clause-any_moment g c = λ told.
    let old = g.O.Site.trace c.args.site.now in
    let mid = g.O.Site.trace c.show.new.site in
    let brings = c.bring_up.ensures.brings told in
    opening_then old mid (g.O.Site.trace c.bring_up.new.site) c.in-Ok-show.opened.state brings.next
    (c.in-Ok-show.ensures.holds told)
    (c.in-Ok-show.ensures.shows told).0 brings.is c.in-Ok-show.opened.journal (c.in-Ok-show.ensures.settled told)
    (c.in-Ok-show.ensures.any_moment told) brings.moments

pub returns-clause-left : goal.returns-clause-left
returns-clause-left g c = λ told.
    let old = g.O.Site.trace c.args.site.now in
    let new = g.O.Site.trace c.bring_up.new.site in
    subst (LeavesShown old new) (sym c.open_fault.ensures)
    (left_by_fault c.refused_with_one.ensures.none old new c.in-Ok-show.opened.state _ _ c.in-Err-bring_up.fault
    (c.in-Ok-show.ensures.shows told).0
    c.in-Err-bring_up.ensures.fault.cause)

pub returns-in-Ok-bring_up-clause-outside : goal.returns-in-Ok-bring_up-clause-outside
returns-in-Ok-bring_up-clause-outside g c = λ told.
    c.in-Ok-bring_up.ensures.outside told (g.O.Site.trace c.args.site.now).now.image (c.in-Ok-show.ensures.beside told)

pub returns-in-Ok-bring_up-clause-same_plan : goal.returns-in-Ok-bring_up-clause-same_plan
returns-in-Ok-bring_up-clause-same_plan g c = λ told.
    let brings = c.in-Ok-bring_up.ensures.brings told in
    brought_plan c.in-Ok-show.opened.state (g.O.Site.trace c.args.site.now).now.image
    (g.O.Site.trace c.show.new.site).now.image
    (g.O.Site.trace c.bring_up.new.site).now.image brings.next (c.in-Ok-show.ensures.holds told) brings.is brings.done.1
