-- What an audit knows, and what it says of an answer (profile).
use Rattle.std.specs.Prelude.{◌≡◌, ◌⊎◌, ℕ, ◌+◌, ◌==◌, ◌&&◌, ◌||◌, not, Bool, true, false, if◌then◌else◌, List}
use Rattle.std.specs.Prelude.{length, take, slice_get, Option, Some, None, MatchOption, unwrap_or}
use Rattle.std.specs.List.{All, count_by}
use Rattle.std.specs.BTreeMap.{BTreeMap, IsUnchanged}
use Rattle.record_io.specs.declared.answers.Answer.{Answer}
use Rattle.record_io.specs.declared.code.TheConstants.{PROTECTED, ACCEPTED, DONE}
use Rattle.run_promise.specs.Answers.{Uses, Accepts}
use Rattle.pair_audit.specs.declared.audit.Audit.{Audit}
use Rattle.pair_audit.specs.declared.audit.Repeat.{Repeat}
use Rattle.pair_audit.specs.Places.{place_in}
use Rattle.pair_audit.specs.Repeats.{AreUnlike}

-- ---- how many

abbrev pub is_use : Answer → Bool
is_use answer = (answer.code == PROTECTED) || ((answer.code == DONE) && not (answer.key == 0))

abbrev pub is_acceptance : Answer → Bool
is_acceptance answer = answer.code == ACCEPTED

abbrev pub uses_in : List Answer → ℕ
uses_in answers = count_by is_use answers

abbrev pub acceptances_in : List Answer → ℕ
acceptances_in answers = count_by is_acceptance answers

-- ---- where a number was seen first

-- the answer at this place does so with the number of the key, and none before it
pub record StandsFirst (Does : Answer → ℕ → ℕ → Type 0) (answers : List Answer) (key number place : ℕ) : Type 0 where
  pub answer : Answer
  pub at_place : slice_get answers place ≡ Some answer
  pub does : Does answer key number
  pub none_before : All (λ earlier. ¬ Does earlier key number) (take place answers)

-- the places are those at which numbers of keys stand first
abbrev pub KnowsFirst : (Answer → ℕ → ℕ → Type 0) → List Answer → BTreeMap (ℕ × ℕ) ℕ → Type 0
KnowsFirst Does answers places = (key number : ℕ) → MatchOption (place_in places key number)
    (All (λ answer. ¬ Does answer key number) answers) (StandsFirst Does answers key number)

-- the audit was fed these answers
pub record KnowsAudit (fed : List Answer) (audit : Audit) : Type 0 where
  pub uses : KnowsFirst Uses fed audit.uses
  pub acceptances : KnowsFirst Accepts fed audit.acceptances
  pub use_count : audit.use_count ≡ uses_in fed
  pub acceptance_count : audit.acceptance_count ≡ acceptances_in fed
  pub count : audit.fed ≡ length fed

-- the same entries and counts
pub record IsAsBefore (old new : Audit) : Type 0 where
  pub uses : IsUnchanged old.uses new.uses
  pub acceptances : IsUnchanged old.acceptances new.acceptances
  pub use_count : new.use_count ≡ old.use_count
  pub acceptance_count : new.acceptance_count ≡ old.acceptance_count
  pub count : new.fed ≡ old.fed

-- the answer has this code, and this number of the key
pub record HasHead (code key number : ℕ) (answer : Answer) : Type 0 where
  pub code_is : answer.code ≡ code
  pub key_is : answer.key ≡ key
  pub number_is : answer.number ≡ number

-- ---- what is told

-- both answers use the number that is told, or both accept it
abbrev pub BothTell : Repeat → Answer → Answer → Type 0
BothTell repeat one other =
    ((repeat.pair ≡ true) × Uses one repeat.key repeat.number × Uses other repeat.key repeat.number)
    ⊎ ((repeat.pair ≡ false) × Accepts one repeat.key repeat.number × Accepts other repeat.key repeat.number)

-- the answer behind these repeats the one at the first place that is told, and none before that
pub record TellsRepeat (fed : List Answer) (answer : Answer) (repeat : Repeat) : Type 0 where
  pub second : repeat.second ≡ length fed
  pub one : Answer
  pub at_first : slice_get fed repeat.first ≡ Some one
  pub both : BothTell repeat one answer
  pub none_before : All (λ earlier. AreUnlike earlier answer) (take repeat.first fed)

-- of the answer behind these: it repeats none of them, or which is told
abbrev pub TellsOf : List Answer → Answer → Option Repeat → Type 0
TellsOf fed answer told = MatchOption told (All (λ earlier. AreUnlike earlier answer) fed) (TellsRepeat fed answer)

-- ---- steps

abbrev pub repeat_at : Bool → ℕ → ℕ → ℕ → Option ℕ → Option Repeat
repeat_at pair key number second None = None
repeat_at pair key number second (Some first) =
    Some (record { pair = pair; key = key; number = number; first = first; second = second })

-- the number of the key stands at this place, if it stood at none before
abbrev pub EntersPlace : BTreeMap (ℕ × ℕ) ℕ → BTreeMap (ℕ × ℕ) ℕ → ℕ → ℕ → ℕ → Type 0
EntersPlace old new key number place = (k n : ℕ) → place_in new k n
    ≡ (if (k == key) && (n == number) then Some (unwrap_or (place_in old key number) place) else place_in old k n)

pub record FeedsUse (old new : Audit) (key number : ℕ) (told : Option Repeat) : Type 0 where
  pub entered : EntersPlace old.uses new.uses key number old.fed
  pub told_is : told ≡ repeat_at true key number old.fed (place_in old.uses key number)
  pub acceptances : new.acceptances ≡ old.acceptances
  pub use_count : new.use_count ≡ old.use_count + 1
  pub acceptance_count : new.acceptance_count ≡ old.acceptance_count
  pub count : new.fed ≡ old.fed + 1

pub record FeedsAcceptance (old new : Audit) (key number : ℕ) (told : Option Repeat) : Type 0 where
  pub entered : EntersPlace old.acceptances new.acceptances key number old.fed
  pub told_is : told ≡ repeat_at false key number old.fed (place_in old.acceptances key number)
  pub uses : new.uses ≡ old.uses
  pub use_count : new.use_count ≡ old.use_count
  pub acceptance_count : new.acceptance_count ≡ old.acceptance_count + 1
  pub count : new.fed ≡ old.fed + 1
