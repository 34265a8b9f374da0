use Rattle.std.proofs.Common.{sym, ◌∙◌}
use Rattle.text_streams.specs.StateText.{IsStateLine, state_words}
use Rattle.text_streams.proofs.StateWords.{rest_is}
use Rattle.text_streams.proofs.state_line.line_of.Goals as goal

pub returns-in-Some-2-clause-key : goal.returns-in-Some-2-clause-key
unfolding IsStateLine state_words
returns-in-Some-2-clause-key c id state mark floor is are =
    c.key.ensures.only id state mark floor is.0 is.1 is.2 is.3 (rest_is (sym c.in-Some-2.ensures.steps ∙ are))

pub returns-in-Some-3-clause-association : goal.returns-in-Some-3-clause-association
unfolding state_words
returns-in-Some-3-clause-association c spi direction suite state key window back is are =
    c.association.ensures.only spi direction suite state key window back is (rest_is (sym c.in-Some-3.ensures.steps ∙ are))
