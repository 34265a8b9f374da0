use Rattle.law_counters.proofs.Spent.{spent_stays}
use Rattle.law_counters.proofs.laws.spent_stay.Goals as goal

pub returns : goal.returns
returns c = spent_stays
