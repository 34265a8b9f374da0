use Rattle.std.proofs.Common.{◌≡◌, ◌++◌, ℕ, List, sym, ap, ◌∙◌, append_assoc}
use Rattle.answer_text.specs.Part.{Part, parts_text}
use Rattle.answer_text.specs.Line.{end_text, front_text, line_text}
use Rattle.answer_text.proofs.ValueParts.{values_more}
use Rattle.answer_text.proofs.line.put_answer.Goals as goal

-- how it begins, then its parts, then how it ends
line_of : (old front parts end text_front text_parts text : List ℕ) → text_front ≡ old ++ front
    → text_parts ≡ text_front ++ parts
    → text ≡ text_parts ++ end → text ≡ old ++ (front ++ (parts ++ end))
line_of old front parts end text_front text_parts text a b d =
    d ∙ ap (λ xs. xs ++ end) (b ∙ ap (λ xs. xs ++ parts) a) ∙ append_assoc (old ++ front) parts end
    ∙ append_assoc old front (parts ++ end)

pub returns-clause-put : goal.returns-clause-put
returns-clause-put c =
    let old = c.args.text.now.items in
    let form = c.args.form in
    let index = c.args.index in
    let code = c.in-Some.code in
    let text = c.put_end.new.text.items in
    let made : (values : List Part) → c.put_values.new.text.items ≡ c.put_front.new.text.items ++ parts_text form values
    → text ≡ old ++ line_text form index code values =
    λ values is. line_of old (front_text form index code) (parts_text form values) (end_text form) _ _ text
    c.in_ok-put_front.ensures is
    c.in_ok-put_end.ensures in
    rw (sym c.of.ensures ∙ c.in-Some.is)
    (values_more code c.args.answer.now
    (λ values. c.put_values.new.text.items ≡ c.put_front.new.text.items ++ parts_text form values)
    (λ values. text ≡ old ++ line_text form index code values) made c.in_ok-put_values.ensures.put)
