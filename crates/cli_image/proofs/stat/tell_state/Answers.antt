use Rattle.std.proofs.Common.{IsTrue, subst}
use Rattle.sdls_outside.specs.Moments.{EachMoment}
use Rattle.unit_image.specs.Image.{held}
use Rattle.run_promise.specs.Call.{SiteSeen}
use Rattle.run_promise.specs.Sound.{HasPlan}
use Rattle.cli_image.specs.Stat.{ShowsAlone}
use Rattle.cli_image.proofs.Telling.{book_moments, book_plans}
use Rattle.cli_image.proofs.stat.tell_state.Goals as goal

pub returns-clause-moments : goal.returns-clause-moments
returns-clause-moments g c =
    subst (λ (o : SiteSeen). IsTrue g.O.Site.told
    → EachMoment c.args.book.site.trace o.trace (λ image sunk. ShowsAlone c.args.book.start image))
    c.into_site-site.ensures.site
    (book_moments g.O.Site.told c.args.book c.put_state-status.new.book c.put_state-status.ensures.made.0
    c.put_state-status.ensures.made.1
    c.requires.first.0 c.requires.first.1 c.put_state-status.ensures.kept)

pub returns-clause-plans : goal.returns-clause-plans
returns-clause-plans g c =
    subst (λ (o : SiteSeen). IsTrue g.O.Site.told
    → EachMoment c.args.book.site.trace o.trace (λ image sunk. HasPlan (held c.args.book.image).plan image))
    c.into_site-site.ensures.site
    (book_plans g.O.Site.told c.args.book c.put_state-status.new.book c.put_state-status.ensures.made.0
    c.put_state-status.ensures.made.1
    c.requires.first.1 c.put_state-status.ensures.kept)
