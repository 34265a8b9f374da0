use Rattle.std.proofs.Common.{◌≡◌, length}
use Rattle.input_text.specs.Plain.{said_words}
use Rattle.input_text.proofs.fields.take_word.Given as goal

-- what was passed so far were spaces
abbrev pub invariant-loop-part : goal.invariant-loop-part
invariant-loop-part l = said_words l.words ≡ said_words l.initial.words

abbrev pub decreases-loop-part : goal.decreases-loop-part
decreases-loop-part l = length l.words
