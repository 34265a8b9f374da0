-- What answers tell, but for their positions (profile).
use Rattle.std.specs.Prelude.{◌≡◌, ◌≢◌, ℕ, ◌⊎◌, ◌==◌, IsTrue, List, [], ◌∷◌, ◌++◌, Option, Some, None, Ok, Err}
use Rattle.std.specs.Prelude.{unwrap_or, Result}
use Rattle.std.specs.List.{list_any}
use Rattle.std.specs.Int.{w64, to_be_bytes}
use Rattle.sdls_base.specs.Code.{sa_state_code}
use Rattle.frame_shield.specs.declared.protecting_frames.ShieldFault.{ShieldFault}
use Rattle.frame_shield.specs.declared.protecting_frames.ShieldFault.TheVariants as faults
use Rattle.frame_checks.specs.declared.opening_frames.OpenReply.{OpenReply}
use Rattle.frame_checks.specs.declared.opening_frames.OpenReply.TheVariants as opens
use Rattle.frame_checks.specs.ProtectingFrames as protecting
use Rattle.ep_core.specs.declared.refusal.Reply.{Reply}
use Rattle.ep_core.specs.declared.refusal.Reply.TheVariants as replies
use Rattle.record_io.specs.declared.answers.Answer.{Answer}
use Rattle.record_io.specs.declared.code.TheConstants.{PROTECTED, ACCEPTED, CLEAR, DONE, REFUSED, LAYOUT, CHANNEL, SPI}
use Rattle.record_io.specs.declared.code.TheConstants.{DIRECTION, STATE, COVERAGE, MAC, NUMBER, EXHAUSTED, SITE_FAULT}
use Rattle.record_io.specs.declared.code.TheConstants.{STOPPED, NO_MEMORY, MONITORED, MONITOR_FAULT}
use Rattle.record_io.specs.declared.reader.RecordKind.{RecordKind}
use Rattle.record_io.specs.declared.reader.RecordKind.TheVariants.{Protect, Open, Command, Monitor}

-- all fields of an answer but its position
pub record Told : Type 0 where
  pub code : ℕ
  pub detail : ℕ
  pub key : ℕ
  pub number : ℕ
  pub body : List ℕ

abbrev pub told_by : Answer → Told
told_by answer = record {
  code = answer.code;
  detail = answer.detail;
  key = answer.key;
  number = answer.number;
  body = answer.body;
}

-- a code and its detail; the number is that of the code alone
abbrev pub counting : ℕ → ℕ → ℕ → Told
counting code detail number = record { code = code; detail = detail; key = 0; number = number; body = [] }

abbrev pub plain : ℕ → ℕ → Told
plain code detail = counting code detail 0

-- a number of a key, and the octets that go with it
abbrev pub numbered : ℕ → ℕ → ℕ → List ℕ → Told
numbered code key number body = record { code = code; detail = 0; key = key; number = number; body = body }

-- of a frame that was opened, by the reply of the checks and the data field
abbrev pub opened_told : OpenReply → List ℕ → Told
opened_told (opens.Accepted spi key number from to) field = numbered ACCEPTED key number field
opened_told opens.Clear field = plain CLEAR 0
opened_told (opens.Layout fault) field = plain LAYOUT fault
opened_told opens.Channel field = plain CHANNEL 0
opened_told opens.Spi field = plain SPI 0
opened_told opens.Direction field = plain DIRECTION 0
opened_told (opens.State held) field = plain STATE (sa_state_code held)
opened_told opens.Coverage field = plain COVERAGE 0
opened_told opens.Mac field = plain MAC 0
opened_told (opens.Number key number high width) field =
    numbered NUMBER key number (to_be_bytes w64 high ++ to_be_bytes w64 width)

-- of a command, by the reply; 0 stands for no key
abbrev pub replied_told : Reply → Told
replied_told (replies.Done key number pdu) = numbered DONE (unwrap_or key 0) number pdu
replied_told (replies.Refused code value) = counting REFUSED code value

-- of a frame that is not protected, by its checks; of one that is bound they tell no answer
abbrev pub fault_told : ShieldFault → Told
fault_told (faults.Layout fault) = plain LAYOUT fault
fault_told faults.Channel = plain CHANNEL 0
fault_told faults.State = plain STATE 0

abbrev pub unbound_told : protecting.Answer → Option Told
unbound_told (Ok None) = Some (plain CLEAR 0)
unbound_told (Ok (Some binding)) = None
unbound_told (Err fault) = Some (fault_told fault)

-- of a monitoring message, by the reply or by the offset of its first fault
abbrev pub monitored_told : Result (List ℕ) ℕ → Told
monitored_told (Ok reply) = numbered MONITORED 0 0 reply
monitored_told (Err offset) = counting MONITOR_FAULT 0 offset

-- the codes of the answers that a record of any kind but Monitor may have, and of those of each kind
abbrev pub any_codes : List ℕ
any_codes = SITE_FAULT ∷ STOPPED ∷ NO_MEMORY ∷ []

abbrev pub codes_of : RecordKind → List ℕ
codes_of Protect = PROTECTED ∷ CLEAR ∷ LAYOUT ∷ CHANNEL ∷ STATE ∷ EXHAUSTED ∷ any_codes
codes_of Open = ACCEPTED ∷ CLEAR ∷ LAYOUT ∷ CHANNEL ∷ SPI ∷ DIRECTION ∷ STATE ∷ COVERAGE ∷ MAC ∷ NUMBER ∷ any_codes
codes_of Command = DONE ∷ REFUSED ∷ any_codes
codes_of Monitor = MONITORED ∷ MONITOR_FAULT ∷ NO_MEMORY ∷ []

abbrev pub IsCodeOf : RecordKind → ℕ → Type 0
IsCodeOf kind code = IsTrue (list_any (λ own. own == code) (codes_of kind))

-- the answer uses the number under the key: a frame protected, or a command done that drew it
abbrev pub Uses : Answer → ℕ → ℕ → Type 0
Uses answer key number = ((answer.code ≡ PROTECTED) ⊎ ((answer.code ≡ DONE) × (answer.key ≢ 0)))
    × (answer.key ≡ key) × (answer.number ≡ number)

-- the answer accepts the number under the key
abbrev pub Accepts : Answer → ℕ → ℕ → Type 0
Accepts answer key number = (answer.code ≡ ACCEPTED) × (answer.key ≡ key) × (answer.number ≡ number)

-- the answer says that the site has failed
abbrev pub SaysSiteFailed : Answer → Type 0
SaysSiteFailed answer = (answer.code ≡ SITE_FAULT) ⊎ (answer.code ≡ STOPPED)

-- The code says that the record made no entry: the site had failed before, or memory ran out.
abbrev pub IsUnmade : ℕ → Type 0
IsUnmade code = (code ≡ STOPPED) ⊎ (code ≡ NO_MEMORY)
