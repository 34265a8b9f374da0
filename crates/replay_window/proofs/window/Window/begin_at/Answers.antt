use Rattle.replay_window.proofs.Bits.{seen_begun}
use Rattle.replay_window.proofs.window.Window.begin_at.Goals as goal

pub returns : goal.returns
returns c = rw (← c.self.view_is)
    (seen_begun c.self.inside.high c.self.inside.width c.self.inside.base c.self.inside.back c.self.inside.taken
    c.args.high)
