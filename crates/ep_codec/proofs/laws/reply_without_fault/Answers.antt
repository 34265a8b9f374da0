use Rattle.ep_codec.proofs.ReplyReadings.{none_has_message, message_has_none}
use Rattle.ep_codec.proofs.laws.reply_without_fault.Goals as goal

pub returns : goal.returns
returns c = λ octets are. (none_has_message octets are, λ found. message_has_none found.0 octets found.1)
