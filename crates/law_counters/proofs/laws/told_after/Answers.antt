use Rattle.law_counters.proofs.Moves.{told_after}
use Rattle.law_counters.proofs.laws.told_after.Goals as goal

pub returns : goal.returns
returns g c = told_after g.B.Counted.told
