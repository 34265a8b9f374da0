use Rattle.sdls_base.proofs.OctetSteps.{by_eight_look_ups}
use Rattle.sdls_base.proofs.error_control.with_eight.Goals as goal

pub returns : goal.returns
returns c =
    rw (
      c.and_seven_of_zeros.ensures,
      c.and_six_of_zeros.ensures,
      c.and_five_of_zeros.ensures,
      c.and_four_of_zeros.ensures,
      c.and_three_of_zeros.ensures,
      c.and_two_of_zeros.ensures,
      c.and_one_of_zeros.ensures,
      c.from_zeros.ensures,
      c.to_be_bytes.ensures,
    )
    (by_eight_look_ups c.args.register c.args.a c.args.b c.args.c c.args.d c.args.e c.args.f c.args.g c.args.h
    c.ranges.register.fits c.ranges.a.fits c.ranges.b.fits c.ranges.c.fits c.ranges.d.fits c.ranges.e.fits
    c.ranges.f.fits
    c.ranges.g.fits c.ranges.h.fits)
