use Rattle.std.proofs.Common.{◌≡◌, map}
use Rattle.std.specs.List.{range_with_len}
use Rattle.gcm.specs.Folded.{folded}
use Rattle.gcm.specs.Gcm.{block_at}
use Rattle.gcm.proofs.hash.fold_whole.Given as goal

abbrev pub invariant-blocks-2 : goal.invariant-blocks-2
invariant-blocks-2 l = l.y ≡ folded l.table l.start (map (block_at l.octets) (range_with_len 0 l.i))
