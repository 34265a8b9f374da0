use Rattle.replay_window.proofs.Bits.{ahead_above, seen_ahead, late_above, seen_late, late_place}
use Rattle.replay_window.proofs.window.Window.accept.Goals as goal

pub invariant_of-self : goal.invariant_of-self
invariant_of-self c = ahead_above c.self.inside.base c.self.inside.high c.self.inside.taken c.args.n
    c.risen-self-inside.result
    c.self.invariant c.if-self-n.true c.risen-self-inside.ensures.near c.risen-self-inside.ensures.far

pub invariant_of-self-else-self-n : goal.invariant_of-self-else-self-n
invariant_of-self-else-self-n c =
    let late = late_place c.self.inside.high c.self.inside.width c.self.inside.base c.self.inside.back
    c.self.inside.taken c.args.n
    (rw c.self.view_is (record { back = c.requires.back; fresh = c.requires.fresh })) c.if-self-n.false in
    late_above c.self.inside.base c.self.inside.high c.self.inside.taken c.args.n c.self.invariant late.0
    c.if-self-n.false late.1

pub returns-then-self-n : goal.returns-then-self-n
returns-then-self-n c = rw (← c.self.view_is)
    (seen_ahead c.self.inside.high c.self.inside.width c.self.inside.base c.self.inside.back c.self.inside.taken
    c.args.n
    c.risen-self-inside.result c.self.invariant c.if-self-n.true c.risen-self-inside.ensures.near
    c.risen-self-inside.ensures.far)

pub returns-else-self-n : goal.returns-else-self-n
returns-else-self-n c =
    let late = late_place c.self.inside.high c.self.inside.width c.self.inside.base c.self.inside.back
    c.self.inside.taken c.args.n
    (rw c.self.view_is (record { back = c.requires.back; fresh = c.requires.fresh })) c.if-self-n.false in
    rw (← c.self.view_is)
    (seen_late c.self.inside.high c.self.inside.width c.self.inside.base c.self.inside.back c.self.inside.taken c.args.n
    c.self.invariant late.0 c.if-self-n.false late.1)
