use Rattle.std.proofs.Common.{ap}
use Rattle.run_promise.specs.Call.{SiteSeen, site_seen}
use Rattle.unit_book.proofs.Serving.{sank_puts}
use Rattle.unit_book.proofs.Keeping.{entries_put, kept_put_shown}
use Rattle.unit_book.proofs.book.Book.put.Goals as goal

pub invariant_of-self : goal.invariant_of-self
invariant_of-self g c =
    let (same, is, low, few, room, sized, two) = c.self.invariant in
    (same, entries_put _ _ _ _ is (c.with_piece.ensures g.O.Site.trace), low, few, room, sized, two)

pub returns-clause-kept : goal.returns-clause-kept
returns-clause-kept g c =
    let trace = g.O.Site.trace in
    let after : SiteSeen = site_seen g.O.Site.trace g.O.Site.faults g.O.Site.put_faults c.put-result.new.self in
    kept_put_shown g.O.Site.told c.args.octets.now c.args.self.now _ after _ _ c.self.view_is
    (ap trace c.of-before.ensures)
    (c.with_piece.ensures trace) c.put-result.ensures.cause.later
    (λ told. sank_puts c.args.octets.now c.put-result.result (trace c.self.inside.site) (trace c.put-result.new.self)
    (c.put-result.ensures.put told))
    c.requires.kept
