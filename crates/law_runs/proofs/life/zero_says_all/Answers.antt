use Rattle.law_runs.proofs.Statuses.{all_done}
use Rattle.law_runs.proofs.life.zero_says_all.Goals as goal

pub returns : goal.returns
returns c = λ call run. all_done call run
