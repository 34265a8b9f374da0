-- The table is the register at all 256 octets.
use Rattle.std.proofs.Common.{◌∷◌, [], refl}
use Rattle.std.specs.Prelude.{fold}
use Rattle.sdls_base.specs.ErrorControl.{times_x, after_octet}
use Rattle.sdls_base.proofs.OctetSteps.{value_at}
use Rattle.sdls_base.proofs.error_control.and_seven_of_zeros.Goals as goal

pub returns : goal.returns
unfolding times_x after_octet
returns c = value_at (λ x. fold after_octet 0 (x ∷ 0 ∷ 0 ∷ 0 ∷ 0 ∷ 0 ∷ 0 ∷ 0 ∷ [])) 256 c.args.octet _ refl
    c.ranges.octet.fits
