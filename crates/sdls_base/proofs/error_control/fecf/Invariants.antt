use Rattle.std.proofs.Common.{◌≡◌, length}
use Rattle.std.specs.Prelude.{fold}
use Rattle.sdls_base.specs.ErrorControl.{after_octet, frame_error_control}
use Rattle.sdls_base.proofs.error_control.fecf.Given as goal

-- the octets that are left take the register to the end
abbrev pub invariant-eights : goal.invariant-eights
invariant-eights l = fold after_octet l.register l.rest ≡ frame_error_control l.octets

abbrev pub decreases-eights : goal.decreases-eights
decreases-eights l = length l.rest

abbrev pub invariant-fours : goal.invariant-fours
invariant-fours l = fold after_octet l.register l.rest ≡ frame_error_control l.octets

abbrev pub decreases-fours : goal.decreases-fours
decreases-fours l = length l.rest
