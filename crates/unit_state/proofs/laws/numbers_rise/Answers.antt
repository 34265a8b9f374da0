use Rattle.unit_state.proofs.StateLaws.{rises}
use Rattle.unit_state.proofs.laws.numbers_rise.Goals as goal

pub returns : goal.returns
returns c = rises
