use Rattle.sdls_outside.proofs.Delivering.{delivers_put}
use Rattle.text_streams.proofs.recording.begin_recording.Goals as goal

pub returns-clause-written : goal.returns-clause-written
returns-clause-written g c = λ told. delivers_put _ _ _ _ (c.put.ensures.put told)
