-- The replies to monitoring messages, by their octets (profile).
use Rattle.std.specs.Prelude.{ℕ, zero, suc, ◌+◌, ◌-◌, ◌*◌, ◌/◌, ◌%◌, ◌==◌, ◌&&◌, nat_le, nat_lt, Bool, true, codes}
use Rattle.std.specs.Prelude.{List, [], ◌∷◌, drop, take, length, Option, Some, None, if◌then◌else◌}
use Rattle.sdls_base.specs.Places.{octet_at, word_at}
use Rattle.fsr_log.specs.declared.messages.TheConstants.{PING, LOG_STATUS, DUMP_LOG, ERASE_LOG, SELF_TEST, ALARM_RESET}
use Rattle.fsr_log.specs.declared.messages.TheConstants.{REPLY, REPORT_WORD}
use Rattle.fsr_log.specs.Kinds.{is_event}
use Rattle.text_words.specs.declared.words.MessageName.{MessageName}
use Rattle.text_words.specs.declared.words.MessageName.TheVariants.{Ping, LogStatus, DumpLog, EraseLog, SelfTest}
use Rattle.text_words.specs.declared.words.MessageName.TheVariants.{AlarmReset}
use Rattle.answer_text.specs.declared.monitor.TheConstants.{EVENT, MOST}
use Rattle.answer_text.specs.Part.{Part}
use Rattle.answer_text.specs.Part.Part.{events, named, octets}

-- the reply with this tag
abbrev pub reply_at : ℕ → Option MessageName
reply_at tag = if tag == REPLY + PING then Some Ping else (if tag == REPLY + LOG_STATUS then Some LogStatus
    else (if tag == REPLY + DUMP_LOG then Some DumpLog else (if tag == REPLY + ERASE_LOG then Some EraseLog
    else (if tag == REPLY + SELF_TEST then Some SelfTest else (if tag == REPLY + ALARM_RESET then Some AlarmReset
    else None)))))

-- each of so many events has the code of one
abbrev pub are_events : ℕ → List ℕ → Bool
are_events zero carried = true
are_events (suc count) carried = is_event (octet_at 8 carried) && are_events count (drop EVENT carried)

-- what such a reply carries: a report word begins with the bits 1 and 100; events and those that fit are 256
abbrev pub has_form : MessageName → List ℕ → Bool
has_form Ping carried = (length carried == 4) && (octet_at 0 carried / 16 == REPORT_WORD / 16)
has_form LogStatus carried = (length carried == 4) && (word_at 0 carried + word_at 2 carried == MOST)
has_form DumpLog carried = (length carried == EVENT * (length carried / EVENT))
    && (nat_le (length carried / EVENT) MOST && are_events (length carried / EVENT) carried)
has_form EraseLog carried = (length carried == 4) && ((word_at 0 carried == 0) && (word_at 2 carried == MOST))
has_form SelfTest carried = length carried == 32
has_form AlarmReset carried = length carried == 0

-- the reply, if what it carries is so
abbrev pub formed : List ℕ → Option MessageName → Option MessageName
formed carried None = None
formed carried (Some reply) = if has_form reply carried then Some reply else None

-- the reply that octets are: its tag, the length of what it carries in bits, and what it carries
abbrev pub monitor_reply : List ℕ → Option MessageName
monitor_reply body = if nat_lt (length body) 3 then None else
    (if word_at 1 body == 8 * (length body - 3) then formed (drop 3 body) (reply_at (octet_at 0 body)) else None)

-- the report word bit by bit, and its key and number
abbrev pub report_parts : ℕ → ℕ → ℕ → List Part
report_parts first key number = named (codes "alarm") (first / 8 % 2)
    ∷ named (codes "refused-number") (first / 4 % 2) ∷ named (codes "refused-mac") (first / 2 % 2)
    ∷ named (codes "refused-association") (first % 2) ∷ named (codes "key") key ∷ named (codes "number") number ∷ []

-- how many events there are, and how many more fit
abbrev pub count_parts : ℕ → ℕ → List Part
count_parts kept free = named (codes "events") kept ∷ named (codes "free") free ∷ []

-- a block enciphered, and its MAC
abbrev pub tested_parts : List ℕ → List ℕ → List Part
tested_parts enciphered mac = octets (codes "enciphered") enciphered ∷ octets (codes "mac") mac ∷ []

-- what the reply carries
abbrev pub monitor_values : MessageName → List ℕ → List Part
monitor_values Ping carried = report_parts (octet_at 0 carried) (word_at 1 carried) (octet_at 3 carried)
monitor_values LogStatus carried = count_parts (word_at 0 carried) (word_at 2 carried)
monitor_values DumpLog carried =
    named (codes "events") (length carried / EVENT) ∷ events (length carried / EVENT) carried ∷ []
monitor_values EraseLog carried = count_parts (word_at 0 carried) (word_at 2 carried)
monitor_values SelfTest carried = tested_parts (take 16 carried) (drop 16 carried)
monitor_values AlarmReset carried = []
