use Rattle.law_runs.proofs.Statuses.{full_told}
use Rattle.law_runs.proofs.life.full_is_told.Goals as goal

pub returns : goal.returns
returns c = λ call run. full_told call run
