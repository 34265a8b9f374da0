use Rattle.std.proofs.Common.{arith}
use Rattle.text_streams.proofs.AnswerProgress.{ends_as, forth}
use Rattle.text_streams.proofs.streams.put_answers.Goals as goal

pub returns-in-Some-clause-put : goal.returns-in-Some-clause-put
returns-in-Some-clause-put g c told sunk =
    ends_as c.args.form c.in-Some.end _ _ _ _ _ _ _ (c.answers.invariant.2 told sunk)
    (c.in-Some.ensures.fails told sunk)

pub answers-preserved : goal.answers-preserved
answers-preserved g c = (
  (let low = c.answers.invariant.0 in let more = c.put_next_answer.ensures.later in omega arith),
  (let low = c.answers.invariant.1 in let more = c.put_next_answer.ensures.later_sink in omega arith),
  λ told sunk. forth c.args.form _ _ _ _ _ _ _ _ _ (c.answers.invariant.2 told sunk)
      (c.in_default.ensures.puts told sunk),
)
