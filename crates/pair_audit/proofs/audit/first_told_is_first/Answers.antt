use Rattle.pair_audit.proofs.Repeating.{first_told}
use Rattle.pair_audit.proofs.audit.first_told_is_first.Goals as goal

pub returns : goal.returns
returns c = first_told
