use Rattle.aes_block.proofs.BasisFacts.{lower_bits, lower_fits, on_basis_is, upper_bits, upper_fits}
use Rattle.aes_block.proofs.substitution.on_basis.Goals as goal

pub look_up-lower-requires : goal.look_up-lower-requires
look_up-lower-requires c = lower_fits c.args.octets c.fits-octets.1 _ (lower_bits c.args.octets c.fits-octets.0)

pub look_up-upper-requires : goal.look_up-upper-requires
look_up-upper-requires c = upper_fits c.args.octets c.fits-octets.1 _ (upper_bits c.args.octets c.fits-octets.0)

pub returns : goal.returns
returns c =
    on_basis_is c.args.octets c.look_up-lower.result c.look_up-upper.result c.fits-octets.0 c.fits-octets.1
    c.look_up-lower.ensures c.look_up-upper.ensures
