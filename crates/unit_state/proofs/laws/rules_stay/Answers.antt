use Rattle.unit_state.proofs.RulesKept.{rules_kept}
use Rattle.unit_state.proofs.laws.rules_stay.Goals as goal

pub returns : goal.returns
returns c = rules_kept
