use Rattle.std.proofs.Common.{◌∙◌, ap, map}
use Rattle.aes_block.specs.Basis.{element, sub_linear, sub_linear_doubled}
use Rattle.aes_block.proofs.RoundFacts.{next_round_of}
use Rattle.aes_block.proofs.cipher.next_round.Goals as goal

pub returns : goal.returns
returns c = λ k key_is.
    next_round_of c.args.state c.sub_once-once.result c.sub_twice.result c.args.key k c.fits-state.0 c.fits-key.0
    (c.sub_once-once.ensures ∙ ap (map (λ y. sub_linear (element y))) c.shift_rows-shifted.ensures)
    (c.sub_twice.ensures ∙ ap (map (λ y. sub_linear_doubled (element y))) c.shift_rows-shifted.ensures) key_is
    c.row_below.result c.row_below-2.result c.row_above.result c.row_below-2.ensures c.row_above.ensures
    c.row_below.ensures
