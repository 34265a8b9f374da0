use Rattle.law_runs.proofs.Lives.{known_in_life, shown_in_life}
use Rattle.law_runs.proofs.life.covered_in_a_life.Goals as goal

pub returns : goal.returns
returns c = record { shown = shown_in_life c.shows_one.ensures; known = known_in_life c.shows_one.ensures }
