use Rattle.cmac.proofs.NumberFacts.{doubled_is}
use Rattle.cmac.proofs.block.doubled.Goals as goal

pub returns : goal.returns
returns c = doubled_is c.args.n c.ranges.n.fits
