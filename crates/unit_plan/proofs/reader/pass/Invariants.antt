use Rattle.std.proofs.Common.{◌≡◌}
use Rattle.unit_plan.specs.Lines.{words_of}
use Rattle.unit_plan.specs.Reading.{past}
use Rattle.unit_plan.proofs.reader.pass.Given as goal

abbrev pub invariant-loop-word : goal.invariant-loop-word
invariant-loop-word l = past (words_of l.expected) l.initial.words ≡ past l.word-iterator l.words
