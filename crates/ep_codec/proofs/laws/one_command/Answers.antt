use Rattle.ep_codec.proofs.CommandReadings.{one_value}
use Rattle.ep_codec.proofs.laws.one_command.Goals as goal

pub returns : goal.returns
returns c = one_value
