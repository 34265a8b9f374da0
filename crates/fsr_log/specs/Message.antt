-- Monitoring messages (profile): a tag, the length of the data in bits, and the data.
use Rattle.std.specs.Prelude.{◌≡◌, ⊤, ℕ, ◌*◌, ◌==◌, nat_lt, not, is_none, unwrap_or, if◌then◌else◌, List, [], ◌∷◌}
use Rattle.std.specs.Prelude.{length, drop, slice_index, Option, Some, None, Result, Ok, Err}
use Rattle.std.specs.List.{list_any}
use Rattle.sdls_base.specs.FirstFailing.{Check, first_failing}
use Rattle.ep_codec.specs.Command.{message}
use Rattle.sdls_base.specs.Places.{word_at}
use Rattle.ep_codec.specs.MessageFault.{end_in}
use Rattle.fsr_log.specs.declared.messages.Monitoring.{Monitoring}
use Rattle.fsr_log.specs.declared.messages.Monitoring.TheVariants.{Ping, LogStatus, DumpLog, EraseLog, SelfTest}
use Rattle.fsr_log.specs.declared.messages.Monitoring.TheVariants.{AlarmReset}
use Rattle.fsr_log.specs.declared.messages.TheConstants.{PING, LOG_STATUS, DUMP_LOG, ERASE_LOG, SELF_TEST, ALARM_RESET}
use Rattle.fsr_log.specs.declared.messages.TheConstants.{BLOCK}

-- the one spelling of each message
abbrev pub monitoring_octets : Monitoring → List ℕ
monitoring_octets Ping = message PING []
monitoring_octets LogStatus = message LOG_STATUS []
monitoring_octets DumpLog = message DUMP_LOG []
monitoring_octets EraseLog = message ERASE_LOG []
monitoring_octets (SelfTest block) = message SELF_TEST block
monitoring_octets AlarmReset = message ALARM_RESET []

-- the block of a Self test has its length
abbrev pub HasBlock : Monitoring → Type 0
HasBlock Ping = ⊤
HasBlock LogStatus = ⊤
HasBlock DumpLog = ⊤
HasBlock EraseLog = ⊤
HasBlock (SelfTest block) = length block ≡ BLOCK
HasBlock AlarmReset = ⊤

-- the octets are this message
pub record IsMonitoring (message : Monitoring) (octets : List ℕ) : Type 0 where
  pub block : HasBlock message
  pub spelled : octets ≡ monitoring_octets message

-- how many octets of data the message with this tag has, if there is one
abbrev pub data_length : ℕ → Option ℕ
data_length tag =
    if list_any (λ known. known == tag) (PING ∷ LOG_STATUS ∷ DUMP_LOG ∷ ERASE_LOG ∷ ALARM_RESET ∷ []) then Some 0
    else (if tag == SELF_TEST then Some BLOCK else None)

-- The tests of a message in their order, each with the offset of its fault: that there are three octets; the tag; the
-- length of the data; too few octets; too many.
abbrev pub monitor_checks : List ℕ → List (Check ℕ)
monitor_checks octets =
    let wanted = data_length (slice_index octets 0) in
    (nat_lt (length octets) 3, length octets)
    ∷ (is_none wanted, 0)
    ∷ (not (word_at 1 octets == 8 * unwrap_or wanted 0), 1)
    ∷ (nat_lt (length octets) (end_in octets), length octets)
    ∷ (nat_lt (end_in octets) (length octets), end_in octets) ∷ []

-- the offset of the first fault of octets that should be a monitoring message
abbrev pub monitor_fault : List ℕ → Option ℕ
monitor_fault octets = first_failing (monitor_checks octets)

-- the octets are a message with this tag, or this is the offset of their first fault
abbrev pub HasTag : List ℕ → Result ℕ ℕ → Type 0
HasTag octets (Ok tag) = (data_length tag ≡ Some (length (drop 3 octets))) × (octets ≡ message tag (drop 3 octets))
    × (monitor_fault octets ≡ None)
HasTag octets (Err offset) = monitor_fault octets ≡ Some offset

-- the octets are this message, or this is the offset of their first fault
abbrev pub Reads : List ℕ → Result Monitoring ℕ → Type 0
Reads octets (Ok message) = IsMonitoring message octets
Reads octets (Err offset) = monitor_fault octets ≡ Some offset
