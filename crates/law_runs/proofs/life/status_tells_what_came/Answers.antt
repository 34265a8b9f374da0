use Rattle.law_runs.proofs.Statuses.{what_came}
use Rattle.law_runs.proofs.life.status_tells_what_came.Goals as goal

pub returns : goal.returns
returns c = λ call run. what_came call run
