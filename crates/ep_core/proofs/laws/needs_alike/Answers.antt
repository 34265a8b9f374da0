use Rattle.ep_core.proofs.NeedsAlike.{same_need}
use Rattle.ep_core.proofs.laws.needs_alike.Goals as goal

pub returns : goal.returns
returns c = same_need
