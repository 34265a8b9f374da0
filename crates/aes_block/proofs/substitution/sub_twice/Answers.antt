use Rattle.aes_block.specs.Basis.{sub_linear_doubled}
use Rattle.aes_block.specs.declared.substitution.TheConstants.{TWICE_FIRST, TWICE_SECOND}
use Rattle.aes_block.proofs.BasisFacts.{twice_at, summed_is}
use Rattle.aes_block.proofs.substitution.sub_twice.Goals as goal

pub returns : goal.returns
returns c =
    summed_is TWICE_FIRST TWICE_SECOND sub_linear_doubled twice_at c.args.numbers c.summed.result c.fits-numbers.1
    c.summed.ensures
