-- The lines of the answers of a source, one after the other (profile).
use Rattle.std.specs.Prelude.{◌≡◌, ◌≢◌, ⊤, ℕ, ◌+◌, ◌-◌, ◌^◌, ◌==◌, ◌⊎◌, if◌then◌else◌, min, List, [], ◌++◌, length}
use Rattle.std.specs.Prelude.{Option}
use Rattle.record_io.specs.declared.answers.Answer.{Answer}
use Rattle.record_io.specs.declared.answers.TheConstants.{ANSWER_HEADER}
use Rattle.record_io.specs.declared.code.TheConstants.{END}
use Rattle.record_io.specs.Answers.{Cut, EndsWith, answer_octets}
use Rattle.answer_text.specs.declared.line.AnswersEnd.{AnswersEnd}
use Rattle.answer_text.specs.declared.line.AnswersEnd.TheVariants.{Whole, CutAt, NoAnswerAt, SourceFault, NoMemory}
use Rattle.record_io.specs.declared.answers.NextAnswer.TheVariants.{Long}
use Rattle.record_io.specs.NextAnswer.{Stands}
use Rattle.answer_text.specs.declared.putting.Form.{Form}
use Rattle.answer_text.specs.Line.{HasLine, IsOfFormats}

-- how far a listing has come: the number of the next answer's record, and how many octets stand before it
pub record ListingPlace : Type 0 where
  pub index : ℕ
  pub offset : ℕ

-- both stay where they come to 2^64 - 1
abbrev pub counted : ℕ → ℕ → ℕ
counted count more = min (count + more) (2 ^ 64 - 1)

-- behind an answer: the numbers go on, and behind an End they begin again
abbrev pub behind : ListingPlace → Answer → ListingPlace
behind place answer = record {
  index = if answer.code == END then 0 else counted place.index 1;
  offset = counted place.offset (ANSWER_HEADER + length answer.body);
}

-- one answer was taken, and its line in this form put behind what there was
pub record AddsLine (form : Form) (place place_new : ListingPlace) (left left_new text text_new : List ℕ) : Type 0 where
  pub answer : Answer
  pub taken : left ≡ answer_octets answer ++ left_new
  pub put : HasLine form place.index answer (λ line. text_new ≡ text ++ line)
  pub passed : place_new ≡ behind place answer

-- a whole answer stands at the front, and is none of the formats
pub record StandsForeign (left left_new : List ℕ) : Type 0 where
  pub answer : Answer
  pub taken : left ≡ answer_octets answer ++ left_new
  pub foreign : ¬ IsOfFormats answer

-- Why no line follows: nothing is left; what is left is cut; or what is left begins with an answer that is none of the
-- formats, or with a header that says too many octets. Cut answers and others are told with their offset.
abbrev pub EndsAt : ℕ → List ℕ → List ℕ → AnswersEnd → Type 0
EndsAt offset left left_new Whole = left ≡ []
EndsAt offset left left_new (CutAt at) = (at ≡ offset) × (left ≢ []) × ((last : Option Cut) × EndsWith left last)
EndsAt offset left left_new (NoAnswerAt at) = (at ≡ offset) × (Stands left left_new Long ⊎ StandsForeign left left_new)
EndsAt offset left left_new SourceFault = ⊤
EndsAt offset left left_new NoMemory = ⊤

-- where the source failed this holds
abbrev pub IfEndFault : Type 0 → AnswersEnd → Type 0
IfEndFault P Whole = ⊤
IfEndFault P (CutAt at) = ⊤
IfEndFault P (NoAnswerAt at) = ⊤
IfEndFault P SourceFault = P
IfEndFault P NoMemory = ⊤
