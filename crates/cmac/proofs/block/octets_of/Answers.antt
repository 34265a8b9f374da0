use Rattle.std.proofs.Common.{arith}
use Rattle.cmac.proofs.NumberFacts.{octets_in_vector}
use Rattle.cmac.proofs.block.octets_of.Goals as goal

pub returns : goal.returns
returns c = octets_in_vector c.args.n _ _ (omega arith)
