use Rattle.std.proofs.Common.{sym, subst}
use Rattle.unit_image.specs.OpeningImage.{LeavesShown}
use Rattle.unit_image.proofs.OpenFaults.{left_by_fault}
use Rattle.unit_image.proofs.opening_image.show.Goals as goal

pub returns-in-Err-settle-clause-left : goal.returns-in-Err-settle-clause-left
returns-in-Err-settle-clause-left g c = λ told.
    let old = g.O.Site.trace c.args.site.now in
    let new = g.O.Site.trace c.settle.new.site in
    subst (LeavesShown old new) (sym c.open_fault.ensures)
    (left_by_fault c.refused_with_one.ensures.none old new c.in-Ok.opened.state _ _ c.in-Err-settle.fault
    (c.in-Ok.ensures.shows told)
    c.in-Err-settle.ensures.fault.cause)
