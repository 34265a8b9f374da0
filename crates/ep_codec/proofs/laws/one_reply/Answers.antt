use Rattle.ep_codec.proofs.ReplyReadings.{one_value}
use Rattle.ep_codec.proofs.laws.one_reply.Goals as goal

pub returns : goal.returns
returns c = one_value
