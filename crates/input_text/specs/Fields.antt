-- What taking words from a line answers (profile).
use Rattle.std.specs.Prelude.{◌≡◌, ⊤, ℕ, ◌≤◌, List, length, Result, Ok, Err}
use Rattle.record_io.specs.declared.reader.TheConstants.{MOST_RECORD_OCTETS}
use Rattle.hex.specs.Hex.{IsBytes}
use Rattle.input_text.specs.declared.fault.LineError.{LineError}
use Rattle.input_text.specs.declared.fault.LineError.TheVariants.{Fault, NoMemory}

abbrev pub IsNoMemory : LineError → Type 0
IsNoMemory NoMemory = ⊤
IsNoMemory (Fault fault) = ⊥

abbrev pub IsFault : LineError → Type 0
IsFault NoMemory = ⊥
IsFault (Fault fault) = ⊤

-- this is answered, or memory ran out
abbrev pub AnswersField : {X : Type 0} → Result X LineError → X → Type 0
AnswersField (Ok x) value = x ≡ value
AnswersField (Err error) value = IsNoMemory error

-- a record has such octets
pub record AreRecorded (octets : List ℕ) : Type 0 where
  pub each : IsBytes octets
  pub few : length octets ≤ MOST_RECORD_OCTETS
