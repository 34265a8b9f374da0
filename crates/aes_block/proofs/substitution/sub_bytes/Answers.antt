use Rattle.aes_block.proofs.RoundFacts.{sub_bytes_are}
use Rattle.aes_block.proofs.substitution.sub_bytes.Goals as goal

pub returns : goal.returns
returns c =
    sub_bytes_are c.args.octets c.on_basis.result c.sub_octets.result c.fits-octets.0 c.on_basis.ensures
    c.sub_octets.ensures
