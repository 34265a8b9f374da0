use Rattle.fsr_log.proofs.Reading.{message_has_none, none_is_message}
use Rattle.fsr_log.proofs.log.message_without_fault.Goals as goal

pub returns : goal.returns
returns c = λ octets are. (none_is_message octets are, λ found. message_has_none found.0 octets found.1)
