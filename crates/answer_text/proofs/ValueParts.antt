-- What holds of the parts of an answer, for `put_answer`.
use Rattle.std.proofs.Common.{◌≡◌, ◌∷◌, [], ◌++◌, ℕ, List, Option, Some, None}
use Rattle.std.specs.Prelude.{IsSomeAnd, MatchOption, codes}
use Rattle.record_io.specs.declared.answers.Answer.{Answer}
use Rattle.record_io.specs.declared.code.AnswerCode.{AnswerCode}
use Rattle.record_io.specs.declared.code.AnswerCode.TheVariants.{Protected, Accepted, Clear, Done, Refused, Monitored}
use Rattle.record_io.specs.declared.code.AnswerCode.TheVariants.{MonitorFault, Layout, Channel, Spi, Direction, State}
use Rattle.record_io.specs.declared.code.AnswerCode.TheVariants.{Coverage, Mac, Number, Exhausted, SiteFault, Stopped}
use Rattle.record_io.specs.declared.code.AnswerCode.TheVariants.{NoMemory, End}
use Rattle.answer_text.specs.declared.line.TextError.{TextError}
use Rattle.answer_text.specs.declared.line.TextError.TheVariants as errors
use Rattle.answer_text.specs.declared.putting.Form.{Form}
use Rattle.answer_text.specs.Part.{Part}
use Rattle.answer_text.specs.Part.Part.{named, number, word}
use Rattle.answer_text.specs.Code.{word_of, layout_details, state_details, refusal_details, end_numbers}
use Rattle.record_io.specs.Codes.{code_at}
use Rattle.answer_text.specs.Monitor.{monitor_reply}
use Rattle.answer_text.specs.Line.{HasLine, HasValues, IsOfFormats, LacksLine, line_text, monitored_parts}

some_more : {X : Type 0} (o : Option X) (P Q : X → Type 0) → ((x : X) → P x → Q x) → IsSomeAnd o P → IsSomeAnd o Q
some_more None P Q more has = has
some_more (Some x) P Q more has = more x has

match_more : {X : Type 0} (o : Option X) (A B : Type 0) (P Q : X → Type 0) → (A → B) → ((x : X) → P x → Q x)
    → MatchOption o A P → MatchOption o B Q
match_more None A B P Q none more has = none has
match_more (Some x) A B P Q none more has = more x has

-- what follows from P holds where P does
pub values_more : (code : AnswerCode) (answer : Answer) (P Q : List Part → Type 0)
    → ((values : List Part) → P values → Q values)
    → HasValues code answer P → HasValues code answer Q
unfolding HasValues
values_more Protected answer P Q more has = (has.0, more _ has.1)
values_more Accepted answer P Q more has = (has.0, more _ has.1)
values_more Clear answer P Q more has = (has.0, more _ has.1)
values_more Done answer P Q more has = (has.0, has.1, (has.2.0, has.2.1, more _ has.2.2))
values_more Refused answer P Q more has =
    let parts : List ℕ → List Part = λ refusal. word (codes "refusal") refusal ∷ number (codes "number") answer.number
    ∷ named (codes "entry") answer.position ∷ [] in (
      has.0,
      some_more {X = List ℕ} (word_of refusal_details answer.detail) (λ refusal. P (parts refusal))
          (λ refusal. Q (parts refusal)) (λ refusal is. more (parts refusal) is) has.1,
    )
values_more Monitored answer P Q more has = (
  has.0,
  some_more (monitor_reply answer.body) (λ reply. P (monitored_parts answer reply))
      (λ reply. Q (monitored_parts answer reply))
      (λ reply is. more (monitored_parts answer reply) is) has.1,
)
values_more MonitorFault answer P Q more has = (has.0, more _ has.1)
values_more Layout answer P Q more has =
    let parts : List ℕ → List Part = λ fault. word (codes "fault") fault ∷ named (codes "position") answer.position
    ∷ [] in (
      has.0,
      has.1,
      some_more {X = List ℕ} (word_of layout_details answer.detail) (λ fault. P (parts fault))
          (λ fault. Q (parts fault)) (λ fault is. more (parts fault) is) has.2,
    )
values_more Channel answer P Q more has = (has.0, more _ has.1)
values_more Spi answer P Q more has = (has.0, more _ has.1)
values_more Direction answer P Q more has = (has.0, more _ has.1)
values_more State answer P Q more has =
    let parts : List ℕ → List Part = λ state. word (codes "state") state ∷ named (codes "position") answer.position
    ∷ [] in (
      has.0,
      has.1,
      some_more {X = List ℕ} (word_of state_details answer.detail) (λ state. P (parts state))
          (λ state. Q (parts state)) (λ state is. more (parts state) is) has.2,
    )
values_more Coverage answer P Q more has = (has.0, more _ has.1)
values_more Mac answer P Q more has = (has.0, more _ has.1)
values_more Number answer P Q more has = (has.0, has.1, more _ has.2)
values_more Exhausted answer P Q more has = (has.0, has.1, more _ has.2)
values_more SiteFault answer P Q more has = (has.0, more _ has.1)
values_more Stopped answer P Q more has = (has.0, more _ has.1)
values_more NoMemory answer P Q more has = (has.0, has.1, more _ has.2)
values_more End answer P Q more has =
    let known : List Part = named (codes "status") answer.detail ∷ named (codes "entries") answer.position ∷ [] in
    let none : (answer.number ≡ 0) × P known → (answer.number ≡ 0) × Q known = λ is. (is.0, more known is.1) in (
      has.0,
      has.1,
      match_more (word_of end_numbers answer.detail) ((answer.number ≡ 0) × P known) ((answer.number ≡ 0) × Q known)
          (λ name. P (known ++ named name answer.number ∷ [])) (λ name. Q (known ++ named name answer.number ∷ [])) none
          (λ name is. more (known ++ named name answer.number ∷ []) is) has.2,
    )

-- the same of a line
pub line_more : (form : Form) (index : ℕ) (answer : Answer) (P Q : List ℕ → Type 0)
    → ((line : List ℕ) → P line → Q line)
    → HasLine form index answer P → HasLine form index answer Q
line_more form index answer P Q more has =
    match_more (code_at answer.code) ⊥ ⊥
    (λ code. HasValues code answer (λ values. P (line_text form index code values)))
    (λ code. HasValues code answer (λ values. Q (line_text form index code values))) (λ none. none)
    (λ code is. values_more code answer (λ values. P (line_text form index code values))
    (λ values. Q (line_text form index code values)) (λ values. more (line_text form index code values)) is) has

-- what is said not to be an answer is none of the formats
pub no_line : (error : TextError) (answer : Answer) → error ≡ errors.NoAnswer → LacksLine answer error
    → ¬ IsOfFormats answer
no_line error answer is lacks = let fact : LacksLine answer errors.NoAnswer = rw is at lacks in fact
