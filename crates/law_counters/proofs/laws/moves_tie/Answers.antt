use Rattle.law_counters.proofs.Moves.{moves_tie}
use Rattle.law_counters.proofs.laws.moves_tie.Goals as goal

pub returns : goal.returns
returns g c = moves_tie g.B.Counted.told
