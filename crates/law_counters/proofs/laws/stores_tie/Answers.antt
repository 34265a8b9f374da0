use Rattle.law_counters.proofs.Moves.{stores_tie}
use Rattle.law_counters.proofs.laws.stores_tie.Goals as goal

pub returns : goal.returns
returns g c = stores_tie g.B.Counted.told
