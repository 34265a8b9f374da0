use Rattle.unit_state.proofs.Histories.{at_epoch_more}
use Rattle.unit_state.proofs.laws.epochs_stay.Goals as goal

pub returns : goal.returns
returns c = at_epoch_more
