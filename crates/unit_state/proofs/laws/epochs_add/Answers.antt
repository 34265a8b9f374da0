use Rattle.unit_state.proofs.Histories.{epochs_more}
use Rattle.unit_state.proofs.laws.epochs_add.Goals as goal

pub returns : goal.returns
returns c = epochs_more
