use Rattle.std.proofs.Common.{w64, Fits, arith}
use Rattle.std.proofs.lemmas.Simd.{Each1-get_or}
use Rattle.gcm.proofs.PairFacts.{reduced_sum}
use Rattle.gcm.proofs.hash.reduced.Goals as goal

pub returns : goal.returns
returns c =
    reduced_sum c.args.high c.args.middle c.args.low c.joined.result c.joined-rest.result
    (Each1-get_or (Fits w64) c.args.high 0 0 (omega (arith, c.fits-high.0)) c.fits-high.1).fits
    (Each1-get_or (Fits w64) c.args.middle 0 0 (omega (arith, c.fits-middle.0)) c.fits-middle.1).fits
    (Each1-get_or (Fits w64) c.args.middle 1 0 (omega (arith, c.fits-middle.0)) c.fits-middle.1).fits
    (Each1-get_or (Fits w64) c.args.low 0 0 (omega (arith, c.fits-low.0)) c.fits-low.1).fits
    (Each1-get_or (Fits w64) c.args.low 1 0 (omega (arith, c.fits-low.0)) c.fits-low.1).fits
    c.joined.ensures c.joined-rest.ensures c.requires
