use Rattle.pair_audit.specs.Repeats.{AreUnlike}
use Rattle.pair_audit.proofs.Pairs.{pairs_push}
use Rattle.pair_audit.proofs.audit.none_told_repeats_nothing.Goals as goal

pub returns : goal.returns
returns c = λ fed answer nothing unlike. pairs_push AreUnlike fed answer nothing unlike
