use Rattle.std.proofs.Common.{◌-◌, ◌<◌, ◌≤◌, sym, subst}
use Rattle.replay_window.specs.declared.TheConstants.{MOST_BACK}
use Rattle.replay_window.specs.declared.window.Window.{Window}
use Rattle.replay_window.proofs.Bits.{late_unset}
use Rattle.replay_window.proofs.window.Window.is_late.Goals as goal

pub returns-then-lies_back : goal.returns-then-lies_back
returns-then-lies_back c =
    let back = subst (λ (w : Window). w.back ≤ MOST_BACK) (sym c.self.view_is) c.requires in
    let lies = subst (λ (w : Window). (w.base < c.args.n) × (c.args.n ≤ w.high) × (w.high - c.args.n < w.back))
    (sym c.self.view_is)
    (c.lies_back.ensures.0 c.if-lies_back.true) in
    rw (← c.self.view_is)
    (late_unset c.self.inside.high c.self.inside.width c.self.inside.base c.self.inside.back c.self.inside.taken
    c.args.n
    c.is_set.result c.self.invariant back lies c.is_set.ensures)
