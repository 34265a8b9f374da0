-- Parts behind parts, for the calls that put a line piece by piece.
use Rattle.std.proofs.Common.{◌≡◌, ◌≢◌, ℕ, List, [], ◌∷◌, ◌++◌, refl, sym, ap, ◌∙◌, append_assoc}
use Rattle.std.proofs.lemmas.List.{append-nil}
use Rattle.std.specs.Fmt.{decimal}
use Rattle.std.specs.Prelude.{codes}
use Rattle.sdls_base.specs.Places.{number_at}
use Rattle.record_io.specs.declared.code.AnswerCode.{AnswerCode}
use Rattle.record_io.specs.declared.code.AnswerCode.TheVariants.{End}
use Rattle.answer_text.specs.declared.putting.Form.{Form}
use Rattle.answer_text.specs.declared.putting.Form.TheVariants.{Words, Json}
use Rattle.record_io.specs.declared.answers.Answer.{Answer}
use Rattle.ep_codec.specs.declared.reply_pdu.ReplyPdu.{ReplyPdu}
use Rattle.text_words.specs.Members.{member, quoted}
use Rattle.answer_text.specs.Part.{Part, part_text, parts_text}
use Rattle.text_words.specs.Words.{spaced}
use Rattle.answer_text.specs.Part.Part.{named}
use Rattle.answer_text.specs.Code.{code_word}
use Rattle.answer_text.specs.Reply.{reply_name, reply_values}
use Rattle.answer_text.specs.Line.{done_parts, drawn, front_text, window_parts}

pub parts_append : (form : Form) (xs ys : List Part)
    → parts_text form (xs ++ ys) ≡ parts_text form xs ++ parts_text form ys
parts_append form [] ys = refl
parts_append form (x ∷ xs) ys =
    ap (λ zs. part_text form x ++ zs) (parts_append form xs ys)
    ∙ sym (append_assoc (part_text form x) (parts_text form xs) (parts_text form ys))

-- two pieces put one behind the other are the whole
pub two_put : (old a b middle new all : List ℕ) → middle ≡ old ++ a → new ≡ middle ++ b → all ≡ a ++ b
    → new ≡ old ++ all
two_put old a b middle new all first second is =
    second ∙ ap (λ xs. xs ++ b) first ∙ append_assoc old a b ∙ ap (λ xs. old ++ xs) (sym is)

pub front_words : (index : ℕ) (code : AnswerCode) → code ≢ End
    → front_text Words index code ≡ decimal index ++ spaced (code_word code)
front_words index End not = absurd (not refl)
front_words index code not = refl

pub front_object : (index : ℕ) (code : AnswerCode) → code ≢ End → front_text Json index code
    ≡ codes "{"
    ++ (member (codes "record") (decimal index) ++ (codes "," ++ member (codes "code") (quoted (code_word code))))
front_object index End not = absurd (not refl)
front_object index code not = refl

pub done_text : (form : Form) (answer : Answer) (reply : ReplyPdu) → parts_text form (done_parts answer reply)
    ≡ parts_text form (reply_name reply) ++ (part_text form (named (codes "entry") answer.position)
    ++ (parts_text form (drawn answer) ++ parts_text form (reply_values reply)))
done_text form answer reply =
    let entry = named (codes "entry") answer.position in
    parts_append form (reply_name reply) (entry ∷ (drawn answer ++ reply_values reply))
    ∙ ap (λ text. parts_text form (reply_name reply) ++ (part_text form entry ++ text))
    (parts_append form (drawn answer) (reply_values reply))

pub window_text : (form : Form) (body : List ℕ) (high width : ℕ) → high ≡ number_at 0 body → width ≡ number_at 8 body
    → parts_text form (window_parts body) ≡ part_text form (named (codes "high") high)
    ++ part_text form (named (codes "width") width)
unfolding window_parts
window_text form body high width high_is width_is =
    ap (λ text. part_text form (named (codes "high") (number_at 0 body)) ++ text)
    (append-nil (part_text form (named (codes "width") (number_at 8 body))))
    ∙ ap (λ n. part_text form (named (codes "high") n) ++ part_text form (named (codes "width") (number_at 8 body)))
    (sym high_is)
    ∙ ap (λ n. part_text form (named (codes "high") high) ++ part_text form (named (codes "width") n)) (sym width_is)
