use Rattle.unit_drill.proofs.Read.{sender_read, receiver_read}
use Rattle.unit_drill.proofs.laws.plans_are_read.Goals as goal

pub returns-clause-sender : goal.returns-clause-sender
returns-clause-sender c = sender_read

pub returns-clause-receiver : goal.returns-clause-receiver
returns-clause-receiver c = receiver_read
