use Rattle.pair_audit.proofs.Fronts.{front_of}
use Rattle.pair_audit.proofs.audit.fronts_show.Goals as goal

pub returns : goal.returns
returns c = λ answers are count. let front = front_of answers are count in (front.counted, front.counts)
