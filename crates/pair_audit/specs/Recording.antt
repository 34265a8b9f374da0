-- What runs put, recorded one run after the other: the octets of each with their length before them (profile).
use Rattle.std.specs.Prelude.{◌≡◌, ◌≢◌, ◌⊎◌, ℕ, ◌+◌, ◌-◌, ◌<◌, ◌^◌, List, [], ◌∷◌, ◌++◌, length, codes}
use Rattle.std.specs.List.{All}
use Rattle.std.specs.Int.{w32, to_be_bytes}
use Rattle.record_io.specs.declared.answers.Answer.{Answer}
use Rattle.record_io.specs.Answers.{Header, HasWidths, IsAnswer, answers_octets, header_octets}
use Rattle.pair_audit.specs.declared.audit.Repeat.{Repeat}
use Rattle.pair_audit.specs.declared.walk.AuditEnd.{AuditEnd}
use Rattle.pair_audit.specs.declared.walk.AuditEnd.TheVariants.{Clean, Repeated, BreaksAt}
use Rattle.pair_audit.specs.Audit.{BothTell, uses_in, acceptances_in}
use Rattle.pair_audit.specs.Counted.{CountsAnswers}
use Rattle.record_io.specs.AnswerReading.{IsAnswerCode}
use Rattle.pair_audit.specs.Repeats.{IsFirstRepeat, RepeatNothing}

abbrev pub recording_beginning : List ℕ
recording_beginning = codes "SDLSAUD1"

-- the length in 4 octets, and as many octets
abbrev pub run_octets : List ℕ → List ℕ
run_octets sunk = to_be_bytes w32 (length sunk) ++ sunk

abbrev pub runs_octets : List (List ℕ) → List ℕ
runs_octets [] = []
runs_octets (sunk ∷ runs) = run_octets sunk ++ runs_octets runs

abbrev pub recording : List (List ℕ) → List ℕ
recording runs = recording_beginning ++ runs_octets runs

-- ---- a recording in order

-- the octets of a run count these answers, and each code is that of an answer
pub record RunCounts (sunk : List ℕ) (answers : List Answer) : Type 0 where
  pub short : length sunk < 2 ^ 32
  pub counts : CountsAnswers sunk answers
  pub known : All (λ answer. IsAnswerCode answer.code) answers

-- those of the runs, one after the other
abbrev pub RunsCount : List (List ℕ) → List Answer → Type 0
RunsCount [] answers = answers ≡ []
RunsCount (sunk ∷ runs) answers = (own : List Answer) × (later : List Answer)
    × RunCounts sunk own × RunsCount runs later × (answers ≡ own ++ later)

-- runs that are in order, the answers that they count, and what stands behind them
pub record ReadsRuns (input : List ℕ) (runs : List (List ℕ)) (answers : List Answer) (rest : List ℕ) : Type 0 where
  pub spelled : input ≡ recording_beginning ++ (runs_octets runs ++ rest)
  pub runs_are : RunsCount runs answers

-- ---- a malformed one

abbrev pub BeginsRecording : List ℕ → Type 0
BeginsRecording input = (rest : List ℕ) × (input ≡ recording_beginning ++ rest)

abbrev pub LacksRecordingBeginning : List ℕ → Type 0
LacksRecordingBeginning input = ¬ BeginsRecording input

-- no run stands whole at the front
abbrev pub LacksRun : List ℕ → Type 0
LacksRun rest = (sunk behind : List ℕ) → length sunk < 2 ^ 32 → rest ≢ run_octets sunk ++ behind

-- A run stands whole at the front, and in it, behind answers whose codes are those of answers, a whole header whose
-- code is none.
pub record HasUnknown (rest : List ℕ) (at_octet : ℕ) : Type 0 where
  pub sunk : List ℕ
  pub behind : List ℕ
  pub answers : List Answer
  pub header : Header
  pub more : List ℕ
  pub short : length sunk < 2 ^ 32
  pub spelled : rest ≡ run_octets sunk ++ behind
  pub are : All IsAnswer answers
  pub known : All (λ answer. IsAnswerCode answer.code) answers
  pub front : sunk ≡ answers_octets answers ++ (header_octets header ++ more)
  pub widths : HasWidths header
  pub unknown : ¬ IsAnswerCode header.code
  pub at_is : at_octet ≡ 4 + length (answers_octets answers)

-- The beginning is another; or behind runs in order no whole run stands, or one with a code that is none.
abbrev pub IsMalformedAt : List ℕ → ℕ → Type 0
IsMalformedAt input offset = (LacksRecordingBeginning input × (offset ≡ 0))
    ⊎ ((runs : List (List ℕ)) × (answers : List Answer) × (rest : List ℕ) × ReadsRuns input runs answers rest
    × (rest ≢ []) × ((LacksRun rest × (offset ≡ length input - length rest))
    ⊎ ((at_octet : ℕ) × HasUnknown rest at_octet × (offset ≡ length input - length rest + at_octet))))

-- ---- what an audit of a recording says

-- the answers' first repeat is this one
pub record IsTheRepeat (answers : List Answer) (repeat : Repeat) : Type 0 where
  pub is_first : IsFirstRepeat answers repeat.first repeat.second
  pub both : BothTell repeat is_first.one is_first.other

abbrev pub AuditSays : List ℕ → AuditEnd → Type 0
AuditSays input (Clean count uses acceptances) = (runs : List (List ℕ)) × (answers : List Answer)
    × ReadsRuns input runs answers [] × RepeatNothing answers
    × (count ≡ length runs) × (uses ≡ uses_in answers) × (acceptances ≡ acceptances_in answers)
AuditSays input (Repeated repeat) = (runs : List (List ℕ)) × (answers : List Answer)
    × ReadsRuns input runs answers [] × IsTheRepeat answers repeat
AuditSays input (BreaksAt offset) = IsMalformedAt input offset

-- this is said of an input
abbrev pub AuditFound : (List ℕ → Type 0) → AuditEnd → Type 0
AuditFound IsInput end = (input : List ℕ) × IsInput input × AuditSays input end
