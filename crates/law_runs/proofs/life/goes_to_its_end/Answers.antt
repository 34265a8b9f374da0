use Rattle.law_runs.proofs.Statuses.{to_its_end}
use Rattle.law_runs.proofs.life.goes_to_its_end.Goals as goal

pub returns : goal.returns
returns c = λ call run. to_its_end call run
