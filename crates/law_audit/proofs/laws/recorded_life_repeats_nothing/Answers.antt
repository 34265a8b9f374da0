use Rattle.law_audit.proofs.Recorded.{in_order, repeats_nothing}
use Rattle.law_audit.proofs.laws.recorded_life_repeats_nothing.Goals as goal

pub returns-clause-in_order : goal.returns-clause-in_order
returns-clause-in_order c = in_order c.fronts_show.ensures c.fronts_count.ensures

pub returns-clause-once : goal.returns-clause-once
returns-clause-once c = λ image runs kept answers life counts.
    repeats_nothing c.fronts_count.ensures c.used_once_in_a_life.ensures image runs kept answers life counts
