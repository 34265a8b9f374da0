use Rattle.law_runs.proofs.Beginnings.{initial_begins, rest_begins}
use Rattle.law_runs.proofs.Lives.{left_begins}
use Rattle.law_runs.proofs.life.life_may_begin.Goals as goal

pub returns : goal.returns
returns c = record { made = initial_begins; rests = rest_begins; left = left_begins c.shows_one.ensures }
