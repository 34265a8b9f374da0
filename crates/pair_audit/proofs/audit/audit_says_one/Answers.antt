use Rattle.pair_audit.proofs.OneEnd.{one_end}
use Rattle.pair_audit.proofs.audit.audit_says_one.Goals as goal

pub returns : goal.returns
returns c = one_end c.answers_shown_once.ensures
