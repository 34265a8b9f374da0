use Rattle.sdls_outside.proofs.Delivering.{delivers_put}
use Rattle.command_words.proofs.reading.put_text.Goals as goal

pub returns-clause-delivered : goal.returns-clause-delivered
returns-clause-delivered g c = λ told. delivers_put _ _ _ _ (c.put.ensures.put told)
