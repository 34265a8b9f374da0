use Rattle.sdls_run.proofs.Reading.{reads_alone}
use Rattle.sdls_run.proofs.laws.stat_keeps_lives.Goals as goal

pub returns : goal.returns
returns c = λ call none ends. c.reading_keeps_lives.ensures call none (reads_alone call ends)
