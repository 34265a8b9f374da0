use Rattle.law_runs.proofs.Statuses.{fault_told}
use Rattle.law_runs.proofs.life.faults_are_told.Goals as goal

pub returns : goal.returns
returns c = λ call run. fault_told call run
