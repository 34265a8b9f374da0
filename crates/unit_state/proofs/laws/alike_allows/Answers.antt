use Rattle.unit_state.proofs.Allowed.{allowed_alike}
use Rattle.unit_state.proofs.laws.alike_allows.Goals as goal

pub returns : goal.returns
returns c = allowed_alike
