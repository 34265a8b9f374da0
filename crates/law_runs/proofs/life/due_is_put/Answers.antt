use Rattle.law_runs.proofs.Statuses.{put_due}
use Rattle.law_runs.proofs.life.due_is_put.Goals as goal

pub returns : goal.returns
returns c = λ call run. put_due call run
