use Rattle.replay_window.proofs.Bits.{seen_begun}
use Rattle.replay_window.proofs.window.Window.new.Goals as goal

pub returns : goal.returns
returns c = rw (← c.width_of.ensures, ← c.back_of.ensures)
    (seen_begun 0 c.width_of.result 0 c.back_of.result 0 c.args.high)
