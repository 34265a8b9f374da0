use Rattle.std.proofs.Common.{◌∙◌}
use Rattle.aes_block.proofs.RoundFacts.{added}
use Rattle.aes_block.proofs.cipher.first_round.Goals as goal

pub returns : goal.returns
returns c = c.on_basis.ensures ∙ added c.args.block c.args.key c.fits-block.0 c.fits-key.0
