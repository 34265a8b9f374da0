use Rattle.std.proofs.Common.{ap, arith, sym, refl, ◌∙◌}
use Rattle.text_streams.specs.StateText.{IsStateLine}
use Rattle.text_streams.proofs.StateWords.{rest_is, some_is}
use Rattle.text_streams.proofs.state_line.association.Goals as goal

pub returns-clause-only : goal.returns-clause-only
unfolding IsStateLine
returns-clause-only c spi direction suite state key window back is are =
    let some = is.0 in let small = is.1 in
    let behind = rest_is (sym c.in_ok-spi.ensures.read.0 ∙ are) in
    let later = rest_is (rest_is (rest_is (sym c.in_ok-direction.ensures.read ∙ behind))) in
    let first = some_is (c.in_ok-spi.ensures.only spi _ (omega (arith, some)) (omega (arith, small)) are) in
    let words = some_is (c.in_ok-direction.ensures.only direction suite state _ behind) in
    let others = some_is (c.in_ok-key.ensures.only key window back is.2 is.3 is.4 later) in
    rw (
      first,
      ap (λ read. read.0) words,
      ap (λ read. read.1) words,
      ap (λ read. read.2) words,
      ap (λ read. read.0) others,
      ap (λ read. read.1) others,
      ap (λ read. read.2) others,
    ) refl
