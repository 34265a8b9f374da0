use Rattle.ep_core.proofs.ReplyLengths.{reply_within}
use Rattle.ep_core.proofs.step.write.Goals as goal

pub new-requires : goal.new-requires
new-requires c = reply_within c.args.pdu.now c.in_ok-octets.octets c.in_ok-octets.ensures.message
