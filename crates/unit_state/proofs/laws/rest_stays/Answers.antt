use Rattle.unit_state.proofs.StateLaws.{light_still}
use Rattle.unit_state.proofs.laws.rest_stays.Goals as goal

pub returns : goal.returns
returns c = light_still
