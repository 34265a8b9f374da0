use Rattle.std.proofs.Common.{refl, ap}
use Rattle.input_text.specs.Command.{value_words}
use Rattle.input_text.proofs.Texts.{tail_is}
use Rattle.input_text.proofs.commands.create.Goals as goal

pub returns-clause-only : goal.returns-clause-only
unfolding value_words
returns-clause-only c sa index width are small is =
    let behind = tail_is _ _ _ _ _ c.in_ok-spi.ensures.read.0 is in
    let first = c.in_ok-spi.ensures.only sa.spi _ index is in
    let others = c.in_ok-direction.ensures.only sa.direction sa.suite sa.window sa.channels width are small behind in
    rw (
      first,
      ap (λ read. read.0) others,
      ap (λ read. read.1) others,
      ap (λ read. read.2) others,
      ap (λ read. read.3) others,
    ) refl
