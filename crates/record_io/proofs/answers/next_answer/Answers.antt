use Rattle.std.proofs.Common.{◌++◌, ◌<◌, ◌≤◌, length, None, ap, ◌∙◌, rules}
use Rattle.record_io.specs.AnswerReading.{header_said}
use Rattle.record_io.specs.NextAnswer.{Stands, StandsBehind}
use Rattle.record_io.proofs.Fronts.{short_left, filled_left, nothing_left, some_left, stands_behind, ok_more}
use Rattle.record_io.proofs.answers.next_answer.Goals as goal

pub returns-in-Err-clause-stands : goal.returns-in-Err-clause-stands
unfolding Stands
returns-in-Err-clause-stands g c told = tt

pub returns-in-Ok-eq0-clause-stands : goal.returns-in-Ok-eq0-clause-stands
unfolding Stands
returns-in-Ok-eq0-clause-stands g c told =
    let taken = c.in-Ok-eq0.ensures.collected told in
    search (rules, nothing_left, taken)

pub returns-in-Ok-clause-stands : goal.returns-in-Ok-clause-stands
unfolding Stands
returns-in-Ok-clause-stands g c told =
    let taken = c.in-Ok.ensures.collected told in
    let short : c.in-Ok.count < length c.collect.new.buffer = search rules in
    let left = short_left _ _ _ _ taken short in
    let some : 0 < c.in-Ok.count = search rules in
    (some_left _ _ left some, (None, search (rules, left)))

pub returns-then-head-gt-MOST_BODY-clause-stands : goal.returns-then-head-gt-MOST_BODY-clause-stands
unfolding Stands
returns-then-head-gt-MOST_BODY-clause-stands g c told =
    let taken = c.in-Ok.ensures.collected told in
    let filled : length c.collect.new.buffer ≤ c.in-Ok.count = search rules in
    let left = filled_left _ _ _ _ taken filled in
    let rest = g.S.Source.left c.collect.new.source in (
      header_said c.answer_head-head.result,
      rest,
      left ∙ ap (λ xs. xs ++ rest) c.answer_head-head.ensures.spelled,
      c.if-head-gt-MOST_BODY.true,
    )

pub returns-else-head-gt-MOST_BODY-clause-stands : goal.returns-else-head-gt-MOST_BODY-clause-stands
returns-else-head-gt-MOST_BODY-clause-stands g c told =
    let taken = c.in-Ok.ensures.collected told in
    let filled : length c.collect.new.buffer ≤ c.in-Ok.count = search rules in
    let left = filled_left _ _ _ _ taken filled in
    let middle = g.S.Source.left c.collect.new.source in
    let header = header_said c.answer_head-head.result in
    let old = g.S.Source.left c.args.source.now in
    let new = g.S.Source.left c.take_body.new.source in
    let front = left ∙ ap (λ xs. xs ++ middle) c.answer_head-head.ensures.spelled in
    ok_more c.take_body.result (StandsBehind header middle new) (Stands old new)
    (λ next behind. stands_behind header old middle new next c.answer_head-head.ensures.widths
    c.if-head-gt-MOST_BODY.false front behind)
    (c.take_body.ensures.stands told)
