use Rattle.replay_window.proofs.Past.{past_taken, past_accepting}
use Rattle.replay_window.proofs.laws.past_stays.Goals as goal

pub returns-clause-taken : goal.returns-clause-taken
returns-clause-taken c = past_taken

pub returns-clause-accepting : goal.returns-clause-accepting
returns-clause-accepting c = past_accepting
