use Rattle.unit_state.proofs.StateLaws.{restarted_twice}
use Rattle.unit_state.proofs.laws.restarts_once.Goals as goal

pub returns : goal.returns
returns c = restarted_twice
