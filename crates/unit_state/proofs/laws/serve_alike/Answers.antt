use Rattle.unit_state.proofs.StateLaws.{serves_alike}
use Rattle.unit_state.proofs.laws.serve_alike.Goals as goal

pub returns : goal.returns
returns c = serves_alike
