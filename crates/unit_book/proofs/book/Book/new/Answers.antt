use Rattle.std.proofs.Common.{ap}
use Rattle.run_promise.specs.Call.{SiteSeen, site_seen}
use Rattle.unit_book.proofs.Fresh.{fresh_shown}
use Rattle.unit_book.proofs.book.Book.new.Goals as goal

pub returns-clause-kept : goal.returns-clause-kept
returns-clause-kept g c =
    let seen : g.row.O.Denot → SiteSeen = site_seen g.O.Site.trace g.O.Site.faults g.O.Site.put_faults in
    fresh_shown g.O.Site.told (seen c.args.site) (seen c.of.result.value) (g.O.Site.trace c.args.taken.value).now.image
    c.args.found.plan
    c.args.found.state c.of-2.result.value c.args.found.journal (ap seen c.of.ensures) c.of-2.ensures c.requires.rules
    c.requires.settled
    c.requires.shows c.requires.same_plan
