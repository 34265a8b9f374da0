-- The table is the register at all 256 octets.
use Rattle.std.proofs.Common.{refl}
use Rattle.sdls_base.specs.ErrorControl.{times_x, after_octet}
use Rattle.sdls_base.proofs.OctetSteps.{value_at}
use Rattle.sdls_base.proofs.error_control.from_zeros.Goals as goal

pub returns : goal.returns
unfolding times_x after_octet
returns c = value_at (after_octet 0) 256 c.args.octet _ refl c.ranges.octet.fits
