-- The lines that are printed of the answers of a source (profile).
use Rattle.std.specs.Prelude.{◌≡◌, ◌≢◌, ⊤, ℕ, ◌-◌, ◌^◌, ◌++◌, ◌∷◌, ◌⊎◌, [], List, length, Option}
use Rattle.sdls_outside.specs.Moments.{Between}
use Rattle.record_io.specs.declared.answers.Answer.{Answer}
use Rattle.record_io.specs.Answers.{Cut, EndsWith, answers_octets}
use Rattle.answer_text.specs.declared.line.AnswersEnd.{AnswersEnd}
use Rattle.answer_text.specs.declared.line.AnswersEnd.TheVariants as ends
use Rattle.answer_text.specs.declared.line.AnswersEnd.TheVariants.{Whole, CutAt, NoAnswerAt}
use Rattle.record_io.specs.declared.answers.NextAnswer.TheVariants as next
use Rattle.record_io.specs.NextAnswer.{Stands}
use Rattle.answer_text.specs.declared.putting.Form.{Form}
use Rattle.answer_text.specs.Line.{HasLine}
use Rattle.answer_text.specs.Listing.{AddsLine, ListingPlace, StandsForeign, behind}
use Rattle.text_streams.specs.declared.ends.End.{End}
use Rattle.text_streams.specs.declared.ends.End.TheVariants.{Done, LineFault, LongLine, CutAnswer, NoAnswer, NoItem}
use Rattle.text_streams.specs.declared.ends.End.TheVariants.{SourceFault, OutputFault, NoMemory}
use Rattle.text_streams.specs.TextLine.{WasPut}

-- before the first answer
abbrev pub first_place : ListingPlace
first_place = record { index = 0; offset = 0 }

-- the text is the lines of these answers in this form, one after the other, from one place to another
abbrev pub AreLines : Form → ListingPlace → List Answer → ListingPlace → List ℕ → Type 0
AreLines form place [] last text = (last ≡ place) × (text ≡ [])
AreLines form place (answer ∷ answers) last text = (line rest : List ℕ)
    × HasLine form place.index answer (λ its. line ≡ its)
    × AreLines form (behind place answer) answers last rest × (text ≡ line ++ rest)

-- what is left begins with an answer that is none of the formats, or with a header that says too many octets
abbrev pub BeginsForeign : List ℕ → Type 0
BeginsForeign left = (left_new : List ℕ) × (Stands left left_new next.Long ⊎ StandsForeign left left_new)

-- Why no line follows: nothing is left; what is left is cut; or what is left begins with what is no answer. Each is
-- told with its offset.
abbrev pub EndsNextAnswer : ListingPlace → List ℕ → End → Type 0
EndsNextAnswer place left Done = left ≡ []
EndsNextAnswer place left (LineFault at fault) = ⊥
EndsNextAnswer place left (LongLine at) = ⊥
EndsNextAnswer place left (CutAnswer at) = (at ≡ place.offset) × (left ≢ [])
    × ((last : Option Cut) × EndsWith left last)
EndsNextAnswer place left (NoAnswer at) = (at ≡ place.offset) × BeginsForeign left
EndsNextAnswer place left (NoItem at) = ⊥
EndsNextAnswer place left SourceFault = ⊤
EndsNextAnswer place left OutputFault = ⊥
EndsNextAnswer place left NoMemory = ⊤

-- the next answer was taken, and its line is this
abbrev pub TakesLine : Form → ListingPlace → ListingPlace → List ℕ → List ℕ → List ℕ → Type 0
TakesLine form place place_new left left_new line = AddsLine form place place_new left left_new [] line

-- the next answer was taken, and its line put
abbrev pub PutsLine : Form → ListingPlace → ListingPlace → List ℕ → List ℕ → List ℕ → List ℕ → Type 0
PutsLine form place place_new left left_new old new = (line : List ℕ)
    × TakesLine form place place_new left left_new line × (new ≡ old ++ line)

-- the next answer was taken, and of its line a front was put; or no line follows
abbrev pub FailsNext : Form → ListingPlace → List ℕ → List ℕ → List ℕ → End → Type 0
FailsNext form place left old new OutputFault = (place_new : ListingPlace) × (left_new line : List ℕ)
    × TakesLine form place place_new left left_new line × Between old (old ++ line) new
FailsNext form place left old new Done = EndsNextAnswer place left Done × (new ≡ old)
FailsNext form place left old new (LineFault at fault) = ⊥
FailsNext form place left old new (LongLine at) = ⊥
FailsNext form place left old new (CutAnswer at) = EndsNextAnswer place left (CutAnswer at) × (new ≡ old)
FailsNext form place left old new (NoAnswer at) = EndsNextAnswer place left (NoAnswer at) × (new ≡ old)
FailsNext form place left old new (NoItem at) = ⊥
FailsNext form place left old new SourceFault = new ≡ old
FailsNext form place left old new NoMemory = new ≡ old

-- how a run ends if no line follows
abbrev pub end_of : AnswersEnd → End
end_of Whole = Done
end_of (CutAt offset) = CutAnswer offset
end_of (NoAnswerAt offset) = NoAnswer offset
end_of ends.SourceFault = SourceFault
end_of ends.NoMemory = NoMemory

-- So many answers are read: there they count as ended.
abbrev pub MOST_ANSWERS : ℕ
MOST_ANSWERS = 2 ^ 64 - 1

-- Why no line follows behind so many answers: as for the next one; the output may have failed, and 2^64 - 1 answers
-- count as ended.
abbrev pub EndsBehindAnswers : ℕ → ListingPlace → List ℕ → End → Type 0
EndsBehindAnswers count place left Done = (left ≡ []) ⊎ (count ≡ MOST_ANSWERS)
EndsBehindAnswers count place left (LineFault at fault) = ⊥
EndsBehindAnswers count place left (LongLine at) = ⊥
EndsBehindAnswers count place left (CutAnswer at) = EndsNextAnswer place left (CutAnswer at)
EndsBehindAnswers count place left (NoAnswer at) = EndsNextAnswer place left (NoAnswer at)
EndsBehindAnswers count place left (NoItem at) = ⊥
EndsBehindAnswers count place left SourceFault = ⊤
EndsBehindAnswers count place left OutputFault = ⊤
EndsBehindAnswers count place left NoMemory = ⊤

-- The text that was put is the lines of the answers in this form, in their order, up to the end of the octets, or to
-- the first that are no whole answer, whose offset is told; if the output failed, a front of these lines was put.
pub record PutsAnswers (form : Form) (left old new : List ℕ) (end : End) : Type 0 where
  pub answers : List Answer
  pub left_new : List ℕ
  pub taken : left ≡ answers_octets answers ++ left_new
  pub place : ListingPlace
  pub text : List ℕ
  pub lines : AreLines form first_place answers place text
  pub ends : EndsBehindAnswers (length answers) place left_new end
  pub put_is : WasPut end text old new
