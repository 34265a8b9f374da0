use Rattle.std.proofs.Common.{◌-◌, ◌≤◌, lit<, ap, sym, subst, ◌++◌, arith, rules, refl}
use Rattle.record_io.specs.Steps.{Wants}
use Rattle.record_io.specs.Input.{MOST_OCTETS}
use Rattle.record_io.proofs.Takings.{breaks_at_head, continues_at_fence, fails_behind, breaks_in_octets, wants_octets}
use Rattle.record_io.proofs.Takings.{on_err}
use Rattle.record_io.proofs.reader.Reader.read_behind.Goals as goal

pub returns-in_err-take_octets-in-Some-Recorded-clause-wants :
    goal.returns-in_err-take_octets-in-Some-Recorded-clause-wants
returns-in_err-take_octets-in-Some-Recorded-clause-wants g c =
    let few : c.args.self.now.taken ≤ MOST_OCTETS =
    omega (arith, c.self.invariant.1, ap (λ p. p.taken) c.self.view_is) in
    on_err c.from_residual.result _
    (subst (λ left. Wants g.S.Source.told (c.args.self.now.taken - 6)
    (c.args.header ++ g.S.Source.left c.args.source.now) left)
    (sym (c.in_err-take_octets-in-Some-Recorded.ensures.untaken).1)
    (wants_octets g.S.Source.told (c.args.self.now.taken - 6) c.args.header (g.S.Source.left c.args.source.now)
    c.in-Some-Recorded.field-0 _ refl c.in-Some-Recorded.ensures
    (omega (arith, c.requires))))

pub returns-in-None-clause-read : goal.returns-in-None-clause-read
returns-in-None-clause-read g c =
    let few : c.args.self.now.taken ≤ MOST_OCTETS =
    omega (arith, c.self.invariant.1, ap (λ p. p.taken) c.self.view_is) in (
      lit< tt,
      breaks_at_head g.S.Source.told _ c.args.header (g.S.Source.left c.args.source.now) _ (search rules)
          (omega (arith, c.requires)) (search rules) c.in-None.ensures,
    )

pub returns-in-Some-Fence-clause-read : goal.returns-in-Some-Fence-clause-read
returns-in-Some-Fence-clause-read g c =
    continues_at_fence g.S.Source.told _ _ c.args.header (g.S.Source.left c.args.source.now) c.in-Some-Fence.field-0
    c.in-Some-Fence.ensures (search rules)
    (omega (arith, c.requires)) (omega (arith, c.self.invariant.1, ap (λ p. p.taken) c.self.view_is))

pub returns-in-Err-clause-read : goal.returns-in-Err-clause-read
returns-in-Err-clause-read g c =
    let short = rw c.in-Err.is at c.in_ok-take_octets-in-Some-Recorded.ensures.short in (
      lit< tt,
      (
        _,
        fails_behind g.S.Source.told _ _ c.args.header _ _ c.in-Some-Recorded.field-0 c.in-Some-Recorded.ensures
            (omega (arith, c.requires)) short,
      ),
    )

pub returns-in-Ok-clause-read : goal.returns-in-Ok-clause-read
returns-in-Ok-clause-read g c =
    let counted = rw c.in-Ok.is at c.in_ok-take_octets-in-Some-Recorded.ensures.counted in
    let ended = c.in_ok-take_octets-in-Some-Recorded.ensures.ended in
    let few = rw c.in-Ok.is at c.in_ok-take_octets-in-Some-Recorded.ensures.few in (
      lit< tt,
      breaks_in_octets g.S.Source.told _ _ c.args.header c.in-Ok.octets.items _ _ c.in-Some-Recorded.field-0
          _ (search rules) c.in-Some-Recorded.ensures
          (omega arith)
          (λ t. rw c.in-Ok.is at (c.in_ok-take_octets-in-Some-Recorded.ensures.moved t))
          (omega (arith, ap (λ p. p.taken) counted, c.requires))
          few
          (λ t. let e = rw c.in-Ok.is at (ended t) in e (omega arith)),
    )
