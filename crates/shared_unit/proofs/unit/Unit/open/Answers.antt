use Rattle.std.proofs.Common.{subst}
use Rattle.run_promise.specs.Call.{SiteSeen}
use Rattle.unit_image.specs.declared.opening_image.OpenFault.TheVariants.{NoMemory}
use Rattle.unit_image.specs.OpeningImage.{LeavesShown}
use Rattle.unit_image.proofs.OpenFaults.{left_shown}
use Rattle.shared_unit.proofs.unit.Unit.open.Goals as goal

pub returns-in-Err-share_book-clause-left : goal.returns-in-Err-share_book-clause-left
returns-in-Err-share_book-clause-left g c = λ told.
    let old = g.O.Site.trace c.args.site in
    let book = c.in-Ok.book in
    subst (λ (site : SiteSeen). LeavesShown old site.trace NoMemory) c.in-Err-share_book.ensures.refused
    (left_shown c.shows_one.ensures c.refused_with_one.ensures.none old book.site.trace book.start NoMemory
    (c.in-Ok.ensures.shows told).0 (c.in-Ok.ensures.shows told).1)
