use Rattle.record_io.proofs.OneAnswer.{shown_once}
use Rattle.record_io.proofs.laws.answers_shown_once.Goals as goal

pub returns : goal.returns
returns c = shown_once
