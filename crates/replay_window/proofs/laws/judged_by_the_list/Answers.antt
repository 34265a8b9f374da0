use Rattle.replay_window.proofs.Turns.{by_the_list}
use Rattle.replay_window.proofs.laws.judged_by_the_list.Goals as goal

pub returns : goal.returns
returns c = by_the_list
