use Rattle.law_counters.proofs.Runs.{runs_tie}
use Rattle.law_counters.proofs.laws.runs_tie.Goals as goal

pub returns : goal.returns
returns g c = runs_tie g.B.Counted.told
