use Rattle.sdls_base.proofs.OctetSteps.{by_four_look_ups}
use Rattle.sdls_base.proofs.error_control.with_four.Goals as goal

pub returns : goal.returns
returns c =
    rw (
      c.and_three_of_zeros.ensures,
      c.and_two_of_zeros.ensures,
      c.and_one_of_zeros.ensures,
      c.from_zeros.ensures,
      c.to_be_bytes.ensures,
    )
    (by_four_look_ups c.args.register c.args.a c.args.b c.args.c c.args.d c.ranges.register.fits c.ranges.a.fits
    c.ranges.b.fits
    c.ranges.c.fits c.ranges.d.fits)
