use Rattle.law_counters.proofs.Ruled.{ruled_kept}
use Rattle.law_counters.proofs.laws.kept_where_ruled.Goals as goal

pub returns : goal.returns
returns g c = ruled_kept g.B.Counted.told
