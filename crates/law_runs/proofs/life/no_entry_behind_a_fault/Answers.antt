use Rattle.law_runs.proofs.Stopping.{stops_behind}
use Rattle.law_runs.proofs.life.no_entry_behind_a_fault.Goals as goal

pub returns : goal.returns
returns c = stops_behind c.refused_with_one.ensures.none c.shows_one.ensures
