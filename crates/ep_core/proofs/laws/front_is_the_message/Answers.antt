use Rattle.ep_core.proofs.Fronts.{message_front}
use Rattle.ep_core.proofs.laws.front_is_the_message.Goals as goal

pub returns : goal.returns
returns c = message_front
