use Rattle.std.proofs.Common.{◌≡◌, ◌⊎◌, ◌∷◌, [], ◌++◌, List, Result, Ok, Err, codes, inl, inr}
use Rattle.std.specs.Prelude.{OnOk}
use Rattle.record_io.specs.declared.answers.Answer.{Answer}
use Rattle.record_io.specs.declared.code.AnswerCode.{AnswerCode}
use Rattle.record_io.specs.declared.code.AnswerCode.TheVariants.{Clear, Channel}
use Rattle.answer_text.specs.Part.{Part, parts_text}
use Rattle.answer_text.specs.Part.Part.{named}
use Rattle.answer_text.specs.Line.{HasValues, IsPlain}
use Rattle.answer_text.proofs.values.put_values.Goals as goal

ok_more : {X E : Type 0} (r : Result X E) (P Q : Type 0) → (P → Q) → OnOk r P → OnOk r Q
ok_more (Ok x) P Q more is = more is
ok_more (Err e) P Q more is = tt

has_position : (code : AnswerCode) (answer : Answer) (P : List Part → Type 0) → (code ≡ Clear) ⊎ (code ≡ Channel)
    → IsPlain answer × P (named (codes "position") answer.position ∷ []) → HasValues code answer P
unfolding HasValues
has_position code answer P (inl is) has = rw is has
has_position code answer P (inr is) has = rw is has

pub returns-in-Clear-clause-put : goal.returns-in-Clear-clause-put
returns-in-Clear-clause-put c =
    let old = c.args.text.now.items in
    let text = c.plain.new.text.items in
    let answer = c.args.answer.now in
    ok_more c.plain.result
    (IsPlain answer × (text ≡ old ++ parts_text c.args.form (named (codes "position") answer.position ∷ [])))
    (HasValues c.args.code answer (λ values. text ≡ old ++ parts_text c.args.form values))
    (λ has. has_position c.args.code answer (λ values. text ≡ old ++ parts_text c.args.form values) c.in-Clear.is has)
    c.plain.ensures.put
