use Rattle.std.proofs.Common.{arith, rules}
use Rattle.text_streams.proofs.FirstLines.{fed, last_taken, one_taken, still_lacks, too_long}
use Rattle.text_streams.proofs.streams.next_line.Goals as goal

pub octets-preserved : goal.octets-preserved
octets-preserved g c =
    let pushed = c.in_ok-push.ensures.items in (
      still_lacks _ _ c.in-Some.octet c.octets.invariant.0 c.if-octet-eq10.false pushed,
      λ told. one_taken _ _ _ _ _ _ (c.octets.invariant.1 told) (rw c.in-Some.is at (c.in-Ok.ensures.next told)) pushed,
      (let low = c.octets.invariant.2 in let more = c.next_octet.ensures.cause.later in omega arith),
    )

pub returns-in_default-next-clause-takes : goal.returns-in_default-next-clause-takes
returns-in_default-next-clause-takes g c told =
    let none = rw c.in_default-next.is at (c.in-Ok.ensures.next told) in
    last_taken c.last_line.result _ c.octets.line.items _ _ c.octets.invariant.0 (c.octets.invariant.1 told) none.0
    none.1 c.last_line.ensures

pub returns-then-octet-eq10-clause-takes : goal.returns-then-octet-eq10-clause-takes
returns-then-octet-eq10-clause-takes g c told =
    fed _ _ _ _ c.in-Some.octet c.octets.invariant.0 (c.octets.invariant.1 told)
    (rw c.in-Some.is at (c.in-Ok.ensures.next told)) c.if-octet-eq10.true

pub returns-clause-takes : goal.returns-clause-takes
returns-clause-takes g c told =
    let test = c.octets-test.false in
    let len = c.len.ensures in
    too_long _ c.octets.line.items _ (first_of (omega (arith, test, len), search rules)) c.octets.invariant.0
    (c.octets.invariant.1 told)
