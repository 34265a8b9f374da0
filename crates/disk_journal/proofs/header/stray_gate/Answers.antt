use Rattle.std.proofs.Common.{ℕ, ◌+◌, ◌-◌, ◌<◌, ◌∙◌, Some, sym, ap, arith}
use Rattle.disk_journal.specs.Banks.{slot_gate}
use Rattle.disk_journal.proofs.GateChecks.{first_other, closed_pass}
use Rattle.disk_journal.proofs.header.stray_gate.Goals as goal

pub returns-then-index-layout-clause-found : goal.returns-then-index-layout-clause-found
returns-then-index-layout-clause-found g c = λ told.
    let gate = slot_gate c.args.layout (g.O.Site.trace c.args.site.now).now.image c.args.bank in
    let found = c.in_ok-index.ensures.found told in
    let below = c.if-index-layout.true in
    let low = found.reached below in
    let high : c.in_ok-index.index < c.args.from + (c.args.layout.slots - c.args.from) = omega (arith, low, below) in
    ap (λ (at : ℕ). Some at) c.slot_at.ensures
    ∙ sym (first_other c.args.layout c.args.bank gate
    (c.args.layout.slots - c.args.from) c.args.from c.in_ok-index.index
    low high found.before (found.other below))

pub returns-clause-found : goal.returns-clause-found
returns-clause-found g c = λ told.
    let gate = slot_gate c.args.layout (g.O.Site.trace c.args.site.now).now.image c.args.bank in
    let found = c.in_ok-index.ensures.found told in
    let all = c.if-index-layout.false in
    sym (closed_pass c.args.layout c.args.bank gate (c.args.layout.slots - c.args.from) c.args.from
    (λ k low high. let below : k < c.in_ok-index.index = omega (arith, all) in found.before k low below))
