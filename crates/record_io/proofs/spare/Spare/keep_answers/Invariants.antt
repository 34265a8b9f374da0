use Rattle.std.proofs.Common.{◌≤◌, ◌+◌, vec_len}
use Rattle.record_io.proofs.spare.Spare.keep_answers.Given as goal

abbrev pub invariant-answers : goal.invariant-answers
invariant-answers l = record {
  none_lost : l.initial.self ≤ l.self;
  more : l.self + vec_len l.answers ≤ l.initial.self + vec_len l.initial.answers;
}

abbrev pub decreases-answers : goal.decreases-answers
decreases-answers l = goal.left-answers l
