use Rattle.pair_audit.proofs.Fronts.{counts}
use Rattle.pair_audit.proofs.audit.fronts_count.Goals as goal

pub returns : goal.returns
returns c = counts c.answers_shown_once.ensures
