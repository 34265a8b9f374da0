use Rattle.replay_window.proofs.Turns.{once}
use Rattle.replay_window.proofs.laws.accepted_once.Goals as goal

pub returns : goal.returns
returns c = once
