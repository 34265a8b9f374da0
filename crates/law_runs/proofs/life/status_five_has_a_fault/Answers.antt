use Rattle.law_runs.proofs.Statuses.{five_rose}
use Rattle.law_runs.proofs.life.status_five_has_a_fault.Goals as goal

pub returns : goal.returns
returns c = λ call run. five_rose call run
