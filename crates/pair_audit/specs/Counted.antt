-- Which answers of octets count (profile).
use Rattle.std.specs.Prelude.{◌≡◌, ⊤, ℕ, ◌-◌, nat_lt, if◌then◌else◌, List, [], ◌∷◌, ◌++◌, length, Option, Some, None}
use Rattle.record_io.specs.declared.answers.Answer.{Answer}
use Rattle.record_io.specs.declared.answers.TheConstants.{ANSWER_HEADER}
use Rattle.record_io.specs.Answers.{Cut, ShowsAnswers, answer_octets}
use Rattle.record_io.specs.AnswerReading.{as_answer}

abbrev pub told_last : Option Cut → List Answer
told_last None = []
told_last (Some cut) = as_answer cut ∷ []

-- the whole answers, and a cut one once its header is whole
pub record CountsAnswers (octets : List ℕ) (answers : List Answer) : Type 0 where
  pub whole : List Answer
  pub last : Option Cut
  pub shows : ShowsAnswers octets whole last
  pub answers_are : answers ≡ whole ++ told_last last

-- the answers of which the header is among the first count octets
abbrev pub counted_of : ℕ → List Answer → List Answer
counted_of count [] = []
counted_of count (answer ∷ answers) =
    if nat_lt count ANSWER_HEADER then [] else answer ∷ counted_of (count - length (answer_octets answer)) answers

-- the two answers have one code, one key and one number
pub record TellsAlike (one other : Answer) : Type 0 where
  pub code : one.code ≡ other.code
  pub key : one.key ≡ other.key
  pub number : one.number ≡ other.number

abbrev pub TellAlike : List Answer → List Answer → Type 0
TellAlike [] [] = ⊤
TellAlike [] (other ∷ others) = ⊥
TellAlike (one ∷ ones) [] = ⊥
TellAlike (one ∷ ones) (other ∷ others) = TellsAlike one other × TellAlike ones others
