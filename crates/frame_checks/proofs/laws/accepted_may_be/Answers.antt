use Rattle.frame_checks.proofs.Replies.{any_reply_may}
use Rattle.frame_checks.proofs.laws.accepted_may_be.Goals as goal

pub returns : goal.returns
returns c = any_reply_may
