use Rattle.aes_block.specs.Basis.{sub_linear}
use Rattle.aes_block.specs.declared.substitution.TheConstants.{ONCE_FIRST, ONCE_SECOND}
use Rattle.aes_block.proofs.BasisFacts.{once_at, summed_is}
use Rattle.aes_block.proofs.substitution.sub_once.Goals as goal

pub returns : goal.returns
returns c =
    summed_is ONCE_FIRST ONCE_SECOND sub_linear once_at c.args.numbers c.summed.result c.fits-numbers.1 c.summed.ensures
