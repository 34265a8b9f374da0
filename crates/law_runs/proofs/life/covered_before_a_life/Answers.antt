use Rattle.law_runs.proofs.Before.{unaccepted_in_life, unused_in_life}
use Rattle.law_runs.proofs.life.covered_before_a_life.Goals as goal

pub returns : goal.returns
returns c = record { used = unused_in_life c.shows_one.ensures; accepted = unaccepted_in_life c.shows_one.ensures }
