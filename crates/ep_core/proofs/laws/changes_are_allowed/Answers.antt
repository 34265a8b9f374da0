use Rattle.ep_core.proofs.Allowed.{change_allowed}
use Rattle.ep_core.proofs.laws.changes_are_allowed.Goals as goal

pub returns : goal.returns
returns c = change_allowed
