use Rattle.law_counters.proofs.Spent.{split_ties}
use Rattle.law_counters.proofs.laws.split_ties.Goals as goal

pub returns : goal.returns
returns c = split_ties
