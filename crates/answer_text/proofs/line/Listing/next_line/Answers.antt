use Rattle.std.proofs.Common.{◌≡◌, inr, rules}
use Rattle.answer_text.specs.declared.line.TextError.TheVariants as errors
use Rattle.record_io.specs.declared.answers.NextAnswer.TheVariants as nexts
use Rattle.record_io.proofs.Fronts.{answer_stands}
use Rattle.answer_text.proofs.ValueParts.{no_line}
use Rattle.answer_text.proofs.line.Listing.next_line.Goals as goal

pub returns-in-Ok-clause-adds : goal.returns-in-Ok-clause-adds
returns-in-Ok-clause-adds g c told =
    let answer = c.in-Ok-Answer.answer in
    let is : c.in-Ok-Answer.field-0 ≡ nexts.Answer answer = search rules in
    let taken = answer_stands _ _ c.in-Ok-Answer.field-0 answer is (c.in-Ok-Answer.ensures.stands told) in
    record {
      answer = answer;
      taken = taken;
      put = search (rules, c.in-Ok.ensures.put);
      passed = search (rules, c.pass.ensures);
    }

pub returns-in-Err-NoAnswer-clause-ends : goal.returns-in-Err-NoAnswer-clause-ends
returns-in-Err-NoAnswer-clause-ends g c told =
    let answer = c.in-Ok-Answer.answer in
    let is : c.in-Ok-Answer.field-0 ≡ nexts.Answer answer = search rules in
    let taken = answer_stands _ _ c.in-Ok-Answer.field-0 answer is (c.in-Ok-Answer.ensures.stands told) in
    let error : c.in-Err-NoAnswer.field-0 ≡ errors.NoAnswer = search rules in (
      search rules,
      inr (record {
        answer = answer;
        taken = taken;
        foreign = no_line c.in-Err-NoAnswer.field-0 answer error c.in-Err-NoAnswer.ensures.lacks;
      }),
    )
