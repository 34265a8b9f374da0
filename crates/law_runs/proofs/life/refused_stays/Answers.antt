use Rattle.law_runs.proofs.Statuses.{refused_left}
use Rattle.law_runs.proofs.life.refused_stays.Goals as goal

pub returns : goal.returns
returns c = λ call run. refused_left call run c.refused_with_one.ensures.none
