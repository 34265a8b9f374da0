-- How far an audit has come in a recording (profile). Private: the clause of `audit_recording` speaks of the whole.
use Rattle.std.specs.Prelude.{◌≡◌, ◌≢◌, ◌⊎◌, ℕ, ◌+◌, ◌<◌, ◌≤◌, Bool, IsTrue, List, [], ◌∷◌, ◌++◌, length, take, drop}
use Rattle.std.specs.Prelude.{Option, Some, None, MatchOption}
use Rattle.std.specs.List.{All}
use Rattle.record_io.specs.declared.answers.Answer.{Answer}
use Rattle.record_io.specs.declared.answers.TheConstants.{ANSWER_HEADER}
use Rattle.record_io.specs.Answers.{IsAnswer, answers_octets}
use Rattle.record_io.specs.Input.{MOST_OCTETS}
use Rattle.record_io.specs.Steps.{still_counted}
use Rattle.pair_audit.specs.declared.audit.Audit.{Audit}
use Rattle.pair_audit.specs.declared.audit.Repeat.{Repeat}
use Rattle.pair_audit.specs.declared.walk.Step.{Step}
use Rattle.pair_audit.specs.declared.walk.Step.TheVariants as steps
use Rattle.pair_audit.specs.declared.walk.RunFound.{RunFound}
use Rattle.pair_audit.specs.declared.walk.RunFound.TheVariants as ends
use Rattle.pair_audit.specs.declared.walk.NextRun.{NextRun}
use Rattle.pair_audit.specs.declared.walk.NextRun.TheVariants as nexts
use Rattle.pair_audit.specs.Audit.{KnowsAudit}
use Rattle.pair_audit.specs.Counted.{CountsAnswers}
use Rattle.record_io.specs.AnswerReading.{IsAnswerCode, StandsInFront, UnknownInFront}
use Rattle.pair_audit.specs.Recording.{HasUnknown, IsTheRepeat, LacksRun, RunCounts, RunsCount, recording, run_octets}
use Rattle.pair_audit.specs.Repeats.{RepeatNothing}
use Rattle.pair_audit.specs.Taking.{Taking}

-- the first repeat of the answers, or none
abbrev pub IsOutcome : List Answer → Option Repeat → Type 0
IsOutcome answers first = MatchOption first (RepeatNothing answers) (IsTheRepeat answers)

abbrev pub earlier_of : Option Repeat → Option Repeat → Option Repeat
earlier_of None told = told
earlier_of (Some repeat) told = Some repeat

-- the audit took these answers, and so the first repeat became the later one
pub record Takes (old new : Audit) (first later : Option Repeat) (own : List Answer) : Type 0 where
  pub knows : (fed : List Answer) → KnowsAudit fed old → KnowsAudit (fed ++ own) new
  pub outcome : (fed : List Answer) → KnowsAudit fed old → IsOutcome fed first → IsOutcome (fed ++ own) later

-- so many octets are those of these answers, or all that there are count them
pub record Walked (octets : List ℕ) (place : ℕ) (own : List Answer) : Type 0 where
  pub within : place ≤ length octets
  pub few : length own ≤ place
  pub known : All (λ answer. IsAnswerCode answer.code) own
  pub told : (All IsAnswer own × (take place octets ≡ answers_octets own))
      ⊎ ((place ≡ length octets) × CountsAnswers octets own)

-- whatever fills a run of which so many octets are left up behind these, this answer stands in front
pub record StandsWithin (left : ℕ) (octets : List ℕ) (answer : Answer) : Type 0 where
  pub within : length octets ≤ left
  pub header : ANSWER_HEADER ≤ length octets
  pub stands : (rest : List ℕ) → length octets + length rest ≡ left
      → StandsInFront (octets ++ rest) answer (length octets)

-- these octets of the run were taken: an answer; or a header whose code is none; or all that there is
abbrev pub StepSaid : Bool → ℕ → ℕ → Audit → Audit → Option Repeat → List ℕ → List ℕ → List ℕ → Step → Type 0
StepSaid told taken left old new first octets left_old left_new (steps.Answer count later) =
    Taking told taken count octets left_old left_new × (length octets ≡ count)
    × ((answer : Answer) × StandsWithin left octets answer × Takes old new first later (answer ∷ []))
StepSaid told taken left old new first octets left_old left_new steps.Unknown =
    Taking told taken ANSWER_HEADER octets left_old left_new × (length octets ≡ ANSWER_HEADER) × UnknownInFront octets
StepSaid told taken left old new first octets left_old left_new steps.Cut =
    Taking told taken left octets left_old left_new × (length octets < left)

-- Of a run of so many octets these were taken, and the audit was fed these answers: they are what is counted, whatever
-- fills it up.
pub record InRun (len : ℕ) (octets : List ℕ) (own : List Answer) : Type 0 where
  pub within : length octets ≤ len
  pub few : length own ≤ length octets
  pub walked : (rest : List ℕ) → length octets + length rest ≡ len → Walked (octets ++ rest) (length octets) own

-- behind answers whose codes are those of answers a header stands whose code is none
pub record UnknownAt (octets : List ℕ) (place : ℕ) : Type 0 where
  pub answers : List Answer
  pub are : All IsAnswer answers
  pub known : All (λ answer. IsAnswerCode answer.code) answers
  pub in_front : UnknownInFront (drop place octets)
  pub front : take place octets ≡ answers_octets answers
  pub within : place ≤ length octets

-- the run is whole, and its answers were taken; or one of its codes is none; or the input ends in it
abbrev pub RunSaid : ℕ → Audit → Audit → Option Repeat → List ℕ → RunFound → Type 0
RunSaid len old new first octets (ends.Whole later) = (length octets ≡ len) × ((own : List Answer)
    × CountsAnswers octets own × All (λ answer. IsAnswerCode answer.code) own × (length own ≤ length octets)
    × Takes old new first later own)
RunSaid len old new first octets (ends.Unknown place) = (length octets ≡ len) × UnknownAt octets place
RunSaid len old new first octets ends.Cut = length octets < len

-- a run was taken, with so many octets
pub record TakesRun (old new : Audit) (first later : Option Repeat) (octets : List ℕ) : Type 0 where
  pub sunk : List ℕ
  pub own : List Answer
  pub spelled : octets ≡ run_octets sunk
  pub counts : RunCounts sunk own
  pub few : length own ≤ length sunk
  pub takes : Takes old new first later own

-- what counts of the octets from here on is malformed at this one of them
pub record BreaksFrom (told : Bool) (taken : ℕ) (left_old : List ℕ) (place : ℕ) : Type 0 where
  pub rest : List ℕ
  pub rest_is : IsTrue told → still_counted taken left_old ≡ rest
  pub some : rest ≢ []
  pub within : taken + place ≤ MOST_OCTETS
  pub fault : (LacksRun rest × (place ≡ 0)) ⊎ HasUnknown rest place

abbrev pub NextSaid : Bool → ℕ → Audit → Audit → Option Repeat → List ℕ → List ℕ → NextRun → Type 0
NextSaid told taken old new first left_old left_new (nexts.Taken count later) = (octets : List ℕ)
    × Taking told taken count octets left_old left_new × (length octets ≡ count) × TakesRun old new first later octets
NextSaid told taken old new first left_old left_new (nexts.Broken place) = BreaksFrom told taken left_old place
NextSaid told taken old new first left_old left_new nexts.End =
    (new ≡ old) × (IsTrue told → still_counted taken left_old ≡ [])

-- these runs were read, and the audit was fed the answers that they count
pub record ReadSoFar (told : Bool) (taken count : ℕ) (audit : Audit) (first : Option Repeat)
    (left_old left_new : List ℕ) : Type 0 where
  pub runs : List (List ℕ)
  pub answers : List Answer
  pub moved : IsTrue told → left_old ≡ recording runs ++ left_new
  pub taken_is : taken ≡ length (recording runs)
  pub runs_are : RunsCount runs answers
  pub few : length answers ≤ taken
  pub count_is : count ≡ length runs
  pub count_few : count ≤ taken
  pub knows : KnowsAudit answers audit
  pub outcome : IsOutcome answers first
