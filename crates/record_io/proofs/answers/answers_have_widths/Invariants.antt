use Rattle.std.proofs.Common.{ℕ, ◌<◌}
use Rattle.std.specs.List.{slice_index_or}
use Rattle.record_io.specs.Answers.{IsAnswer}
use Rattle.record_io.specs.declared.answers.Answer.{Answer}
use Rattle.record_io.proofs.answers.answers_have_widths.Given as goal

abbrev pub invariant-loop-answer : goal.invariant-loop-answer
invariant-loop-answer l = (k : ℕ) (d : Answer) → k < l.answer-index → IsAnswer (slice_index_or l.answers k d)
