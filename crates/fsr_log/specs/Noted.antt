-- The answers of a run, as its log takes them (profile).
use Rattle.std.specs.Prelude.{ℕ, ◌+◌, ◌==◌, ◌&&◌, ◌||◌, Bool, true, false, List, [], ◌∷◌}
use Rattle.record_io.specs.declared.answers.Answer.{Answer}
use Rattle.record_io.specs.declared.reader.RecordKind.{RecordKind}
use Rattle.record_io.specs.declared.reader.RecordKind.TheVariants.{Protect, Open, Command, Monitor}
use Rattle.record_io.specs.declared.code.TheConstants.{ACCEPTED, NUMBER}
use Rattle.fsr_log.specs.declared.kinds.Event.{Event}
use Rattle.fsr_log.specs.declared.messages.TheConstants.{ERASE_LOG, ALARM_RESET}
use Rattle.record_io.specs.declared.code.TheConstants.{MONITORED}
use Rattle.fsr_log.specs.declared.messages.TheConstants.{REPLY}

-- an answer, with the number and the kind of its record
pub record Noted : Type 0 where
  pub index : ℕ
  pub kind : RecordKind
  pub answer : Answer

-- a code whose answer carries the key and the number that a frame had: 01 and 17
abbrev pub is_seen : ℕ → Bool
is_seen code = (code == ACCEPTED) || (code == NUMBER)

abbrev pub is_open : RecordKind → Bool
is_open Protect = false
is_open Open = true
is_open Command = false
is_open Monitor = false

abbrev pub begins_with : ℕ → List ℕ → Bool
begins_with first [] = false
begins_with first (octet ∷ octets) = octet == first

-- the answer is the reply with this tag to a monitoring message
abbrev pub is_reply : ℕ → Answer → Bool
is_reply tag answer = (answer.code == MONITORED) && begins_with tag answer.body

-- an Erase log was answered
abbrev pub is_erase : Noted → Bool
is_erase noted = is_reply (REPLY + ERASE_LOG) noted.answer

-- an Alarm reset was answered
abbrev pub is_reset : Noted → Bool
is_reset noted = is_reply (REPLY + ALARM_RESET) noted.answer

-- what the log keeps of a refusal
abbrev pub event_of : Noted → Event
event_of noted = record {
  index = noted.index;
  code = noted.answer.code;
  detail = noted.answer.detail;
  number = noted.answer.number;
}
