use Rattle.std.proofs.Common.{◌≡◌, ◌++◌, ap, ◌∙◌}
use Rattle.answer_text.proofs.ValueParts.{line_more}
use Rattle.answer_text.proofs.line.put_whole.Goals as goal

pub returns-clause-put : goal.returns-clause-put
returns-clause-put c =
    let old = c.args.text.now.items in
    let text = c.extend_from_slice.new.self.items in
    line_more c.args.form c.args.index c.args.answer.now
    (λ line. c.put_answer.new.text.items ≡ c.new-line.result.items ++ line)
    (λ line. text ≡ old ++ line)
    (λ line is. c.in_ok-extend_from_slice.ensures.items ∙ ap (λ xs. old ++ xs)
    (c.deref.ensures.value ∙ is ∙ ap (λ xs. xs ++ line) c.new-line.ensures.items))
    c.in_ok-put_answer.ensures.put
