use Rattle.std.proofs.Common.{◌∙◌}
use Rattle.aes_block.specs.Basis.{element, sub_linear}
use Rattle.aes_block.specs.declared.substitution.TheConstants.{OCTET_FIRST, OCTET_SECOND}
use Rattle.aes_block.proofs.BasisFacts.{map_octets, octet_at, sum_at}
use Rattle.aes_block.proofs.substitution.sub_octets.Goals as goal

pub returns : goal.returns
returns c =
    c.summed.ensures
    ∙ map_octets (sum_at OCTET_FIRST OCTET_SECOND) (λ y. sub_linear
    (element y)) octet_at c.args.numbers c.fits-numbers.1
