use Rattle.law_runs.proofs.Lives.{once_in_life}
use Rattle.law_runs.proofs.life.used_once_in_a_life.Goals as goal

pub returns : goal.returns
returns c = once_in_life c.shows_one.ensures
