use Rattle.std.proofs.Common.{◌∙◌, ap, map}
use Rattle.aes_block.specs.Basis.{element, sub_linear}
use Rattle.aes_block.proofs.RoundFacts.{last_round_is}
use Rattle.aes_block.proofs.cipher.last_round.Goals as goal

pub returns : goal.returns
returns c = λ k key_is.
    last_round_is c.args.state c.sub_octets.result c.args.key k c.fits-state.0 c.fits-key.0
    (c.sub_octets.ensures ∙ ap (map (λ y. sub_linear (element y))) c.shift_rows.ensures) key_is
