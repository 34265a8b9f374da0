use Rattle.unit_state.proofs.Alike.{unstored_alike}
use Rattle.unit_state.proofs.laws.unstored_stays.Goals as goal

pub returns : goal.returns
returns c = unstored_alike
