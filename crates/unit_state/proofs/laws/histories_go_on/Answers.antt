use Rattle.unit_state.proofs.Histories.{after_more}
use Rattle.unit_state.proofs.laws.histories_go_on.Goals as goal

pub returns : goal.returns
returns c = after_more
