use Rattle.std.proofs.Common.{◌∙◌, ap}
use Rattle.unit_book.specs.Book.{BookView}
use Rattle.unit_book.proofs.Opened.{shown_restarted, used_held}
use Rattle.unit_book.proofs.book.Book.open.Goals as goal

pub new-requires-clause-shows : goal.new-requires-clause-shows
new-requires-clause-shows g c =
    λ told. shown_restarted (g.O.Site.trace c.start.new.site).now.image c.in-Ok.field-0.found.state
    (c.in-Ok.ensures.shows told).1

pub returns-in-Ok-clause-used : goal.returns-in-Ok-clause-used
returns-in-Ok-clause-used g c = λ told.
    ap (λ (b : BookView). b.journal.used) c.new.ensures.view
    ∙ used_held (g.O.Site.trace c.start.new.site) c.in-Ok.field-0.found.journal (g.O.Site.trace c.args.site).now.image
    (c.in-Ok.ensures.settled told) c.in-Ok.ensures.version (c.in-Ok.ensures.holds told)
