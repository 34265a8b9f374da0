use Rattle.law_history.proofs.OneStep.{step_one}
use Rattle.law_history.proofs.one.messages_have_one_step.Goals as goal

pub returns : goal.returns
returns c = step_one
