use Rattle.frame_checks.proofs.Alike.{checks_alike}
use Rattle.frame_checks.proofs.laws.binding_stays.Goals as goal

pub returns : goal.returns
returns c = λ plan one other link clear same.
    checks_alike plan one other link clear (c.serve_alike.ensures one other same)
