use Rattle.std.proofs.Common.{ap, ◌∙◌}
use Rattle.std.specs.Int.{w128, from_be_bytes}
use Rattle.gcm.proofs.SealFacts.{tag_is}
use Rattle.gcm.proofs.seal.tag_of.Goals as goal

pub returns : goal.returns
returns c = λ iv mask_is.
    c.to_be_bytes.ensures
    ∙ tag_is c.args.key.now iv c.args.aad.now c.args.text.now c.new-table.result c.from_be_bytes.result c.hash.result
    (c.new-table.ensures ∙ ap (from_be_bytes w128) c.enciphered_zeros.ensures)
    (c.from_be_bytes.ensures ∙ ap (from_be_bytes w128) mask_is)
    c.hash.ensures
