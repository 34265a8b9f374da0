use Rattle.law_counters.proofs.Spent.{join_ties}
use Rattle.law_counters.proofs.laws.join_ties.Goals as goal

pub returns : goal.returns
returns c = join_ties
