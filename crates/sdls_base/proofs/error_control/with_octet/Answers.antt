use Rattle.sdls_base.proofs.OctetSteps.{by_look_up}
use Rattle.sdls_base.proofs.error_control.with_octet.Goals as goal

pub returns : goal.returns
returns c = rw (c.from_zeros.ensures, c.to_be_bytes.ensures)
    (by_look_up c.args.register c.args.octet c.ranges.register.fits c.ranges.octet.fits)
