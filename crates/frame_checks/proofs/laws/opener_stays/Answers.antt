use Rattle.frame_checks.proofs.Alike.{opener_stays}
use Rattle.frame_checks.proofs.laws.opener_stays.Goals as goal

pub returns : goal.returns
returns c = λ plan one other opener same. opener_stays plan one other opener (c.serve_alike.ensures one other same) same
