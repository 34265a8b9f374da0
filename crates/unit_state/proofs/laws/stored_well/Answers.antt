use Rattle.unit_state.proofs.Alike.{stores_well}
use Rattle.unit_state.proofs.laws.stored_well.Goals as goal

pub returns : goal.returns
returns c = stores_well
