use Rattle.replay_window.proofs.Turns.{ascend}
use Rattle.replay_window.proofs.laws.ascending_without_a_back_window.Goals as goal

pub returns : goal.returns
returns c = ascend
