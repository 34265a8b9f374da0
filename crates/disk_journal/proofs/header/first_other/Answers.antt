use Rattle.std.proofs.Common.{◌+◌, ◌≤◌, subst, arith}
use Rattle.sdls_outside.specs.Moments.{Trace}
use Rattle.disk_journal.specs.Banks.{slot_gate}
use Rattle.disk_journal.specs.Gates.{IsFirstOther}
use Rattle.disk_journal.proofs.GateRuns.{other_behind}
use Rattle.disk_journal.proofs.header.first_other.Goals as goal

pub returns-then-index-end-clause-found : goal.returns-then-index-end-clause-found
returns-then-index-end-clause-found g c = λ told.
    let kept = c.loop-first.invariant in
    let first = c.loop-first.first in
    let end = first + c.min-count.result in
    let image = (g.O.Site.trace c.args.site.now).now.image in
    let found = subst (λ (trace : Trace). IsFirstOther
    (slot_gate c.args.layout trace.now.image c.args.bank) c.args.gate first end c.in_ok-index.index)
    (kept.same told) (c.in_ok-index.ensures.found told) in
    let high : end ≤ c.args.layout.slots = omega arith in
    other_behind (slot_gate c.args.layout image c.args.bank) c.args.gate c.args.from first end c.args.layout.slots
    c.in_ok-index.index
    kept.low high c.if-index-end.true (kept.before told) found
