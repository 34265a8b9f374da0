use Rattle.std.proofs.Common.{take, All}
use Rattle.std.specs.Prelude.{Contains}
use Rattle.unit_image.proofs.rows.share_none.Given as goal

abbrev pub invariant-loop-channel : goal.invariant-loop-channel
invariant-loop-channel l = All (λ channel. ¬ Contains l.others channel) (take l.channel-index l.channels)
