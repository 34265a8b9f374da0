use Rattle.gcm.proofs.PairFacts.{rows_more}
use Rattle.gcm.proofs.hash.with_rows.Goals as goal

pub returns : goal.returns
returns c =
    rows_more c.args.high c.args.middle c.args.low c.args.upper c.args.lower c.args.shift c.fits-high.0 c.fits-middle.0
    c.fits-low.0 c.fits-upper.0 c.fits-lower.0 c.requires.less
