-- The replies to monitoring messages (profile). A reply's tag is that of its message and 80 hexadecimal.
use Rattle.std.specs.Prelude.{◌≡◌, ℕ, ◌+◌, ◌-◌, ◌*◌, ◌%◌, Bool, if◌then◌else◌, List, [], ◌∷◌, ◌++◌, length, Some}
use Rattle.std.specs.Prelude.{Result, Ok, Err}
use Rattle.std.specs.List.{flat_map}
use Rattle.std.specs.Int.{w16, w64, to_be_bytes}
use Rattle.aes_block.specs.Aes.{encrypted}
use Rattle.cmac.specs.Cmac.{mac}
use Rattle.ep_codec.specs.Command.{message}
use Rattle.fsr_log.specs.declared.kinds.Event.{Event}
use Rattle.fsr_log.specs.declared.kinds.TheConstants.{MOST_EVENTS}
use Rattle.fsr_log.specs.declared.messages.Monitoring.{Monitoring}
use Rattle.fsr_log.specs.declared.messages.Monitoring.TheVariants.{Ping, LogStatus, DumpLog, EraseLog, SelfTest}
use Rattle.fsr_log.specs.declared.messages.Monitoring.TheVariants.{AlarmReset}
use Rattle.fsr_log.specs.declared.messages.TheConstants.{PING, LOG_STATUS, DUMP_LOG, ERASE_LOG, SELF_TEST, ALARM_RESET}
use Rattle.fsr_log.specs.declared.messages.TheConstants.{REPLY, REPORT_WORD, SELF_TEST_KEY}
use Rattle.fsr_log.specs.Kinds.{kind_at, kind_bit}
use Rattle.fsr_log.specs.Message.{IsMonitoring, monitor_fault}
use Rattle.fsr_log.specs.Report.{Report}

abbrev pub bit : Bool → ℕ
bit set = if set then 1 else 0

-- the bits 1 and 100; the alarm; and of the last answer to an Open record, if it refused the number, the MAC, or the
-- association
abbrev pub first_of_word : Report → ℕ
first_of_word report =
    REPORT_WORD + 8 * bit report.alarm + kind_bit (kind_at report.last_open)

-- the report word: its first octet; the key that was seen last; the low 8 bits of the number that was seen last
abbrev pub report_word : Report → List ℕ
report_word report = first_of_word report ∷ to_be_bytes w16 report.key ++ report.number % 256 ∷ []

-- the record's number, and the code, the detail and the number of its answer
abbrev pub event_octets : Event → List ℕ
event_octets event =
    to_be_bytes w64 event.index ++ event.code ∷ event.detail ∷ to_be_bytes w64 event.number

-- the events, the oldest first
abbrev pub dump : List Event → List ℕ
dump events = flat_map event_octets events

-- how many events there are, and how many more fit
abbrev pub counts : ℕ → List ℕ
counts events = to_be_bytes w16 events ++ to_be_bytes w16 (MOST_EVENTS - events)

-- the block enciphered (FIPS 197, 5.1), and its MAC (SP 800-38B, 6.2), under the key of the self test
abbrev pub tested : List ℕ → List ℕ
tested block = encrypted SELF_TEST_KEY block ++ mac SELF_TEST_KEY block

-- the reply to a message, by what the log reports
abbrev pub reply_of : Report → Monitoring → List ℕ
reply_of report Ping = message (REPLY + PING) (report_word report)
reply_of report LogStatus = message (REPLY + LOG_STATUS) (counts (length report.events))
reply_of report DumpLog = message (REPLY + DUMP_LOG) (dump report.events)
reply_of report EraseLog = message (REPLY + ERASE_LOG) (counts 0)
reply_of report (SelfTest block) = message (REPLY + SELF_TEST) (tested block)
reply_of report AlarmReset = message (REPLY + ALARM_RESET) []

-- the octets are a monitoring message, and this is the reply to it
pub record IsReplyTo (report : Report) (octets reply : List ℕ) : Type 0 where
  pub asked : Monitoring
  pub is_message : IsMonitoring asked octets
  pub reply_is : reply ≡ reply_of report asked

-- the reply to octets that are a monitoring message, and of others the offset of their first fault
abbrev pub Answers : Report → List ℕ → Result (List ℕ) ℕ → Type 0
Answers report octets (Ok reply) = IsReplyTo report octets reply
Answers report octets (Err offset) = monitor_fault octets ≡ Some offset
