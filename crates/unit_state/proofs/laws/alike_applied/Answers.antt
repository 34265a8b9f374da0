use Rattle.unit_state.proofs.Again.{applied_alike}
use Rattle.unit_state.proofs.laws.alike_applied.Goals as goal

pub returns : goal.returns
returns c = applied_alike
