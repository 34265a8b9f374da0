use Rattle.std.proofs.Common.{ap, ◌∙◌}
use Rattle.cmac.specs.Cmac.{doubled}
use Rattle.cmac.proofs.NumberFacts.{doubled_from_octets}
use Rattle.cmac.proofs.block.first_subkey.Goals as goal

pub returns : goal.returns
returns c =
    c.doubled.ensures
    ∙ doubled_from_octets c.from_be_bytes.result c.enciphered_zeros.result c.from_be_bytes.type_inv
    c.from_be_bytes.ensures
    ∙ ap doubled c.enciphered_zeros.ensures
