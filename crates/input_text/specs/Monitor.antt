-- Monitoring messages as words (profile).
use Rattle.std.specs.Prelude.{⊤, ℕ, ◌≤◌, List, [], ◌∷◌, length, Option, Some, None}
use Rattle.std.specs.Option.{option_and_then}
use Rattle.hex.specs.Hex.{IsBytes, encode_lower}
use Rattle.fsr_log.specs.declared.messages.Monitoring.{Monitoring}
use Rattle.fsr_log.specs.declared.messages.Monitoring.TheVariants.{Ping, LogStatus, DumpLog, EraseLog, SelfTest}
use Rattle.fsr_log.specs.declared.messages.Monitoring.TheVariants.{AlarmReset}
use Rattle.fsr_log.specs.Message.{HasBlock, monitoring_octets}
use Rattle.record_io.specs.declared.reader.ItemKind.TheVariants.{Recorded}
use Rattle.record_io.specs.declared.reader.RecordKind.TheVariants as records
use Rattle.record_io.specs.declared.reader.TheConstants.{LEAST_MONITOR_OCTETS, MOST_RECORD_OCTETS}
use Rattle.text_words.specs.declared.words.MessageName.{MessageName}
use Rattle.text_words.specs.declared.words.MessageName.TheVariants as names
use Rattle.text_words.specs.Names.{item_word, message_named, message_word}
use Rattle.input_text.specs.declared.line.Asked.{Asked}
use Rattle.input_text.specs.declared.line.Asked.TheVariants.{Message, Octets}

-- the words of a message
abbrev pub monitoring_words : Monitoring → List (List ℕ)
monitoring_words Ping = message_word names.Ping ∷ []
monitoring_words LogStatus = message_word names.LogStatus ∷ []
monitoring_words DumpLog = message_word names.DumpLog ∷ []
monitoring_words EraseLog = message_word names.EraseLog ∷ []
monitoring_words (SelfTest block) = message_word names.SelfTest ∷ encode_lower block ∷ []
monitoring_words AlarmReset = message_word names.AlarmReset ∷ []

-- the words of what a Monitor record asks: a message by its name, or octets
unfoldable pub asked_words : Asked → List (List ℕ)
asked_words (Message message) = monitoring_words message
asked_words (Octets octets) = item_word (Recorded records.Monitor) ∷ encode_lower octets ∷ []

-- a Monitor record has such octets
pub record AreAsked (octets : List ℕ) : Type 0 where
  pub each : IsBytes octets
  pub some : LEAST_MONITOR_OCTETS ≤ length octets
  pub few : length octets ≤ MOST_RECORD_OCTETS

-- the block of a Self test is octets
abbrev pub HasBytes : Monitoring → Type 0
HasBytes Ping = ⊤
HasBytes LogStatus = ⊤
HasBytes DumpLog = ⊤
HasBytes EraseLog = ⊤
HasBytes (SelfTest block) = IsBytes block
HasBytes AlarmReset = ⊤

-- the values lie in their bounds
unfoldable pub IsAsked : Asked → Type 0
IsAsked (Message message) = HasBlock message × HasBytes message
IsAsked (Octets octets) = AreAsked octets

-- the octets of the record
unfoldable pub asked_octets : Asked → List ℕ
asked_octets (Message message) = monitoring_octets message
asked_octets (Octets octets) = octets

-- the message without data that has this name, if it has none
abbrev pub without_data : MessageName → Option Monitoring
without_data names.Ping = Some Ping
without_data names.LogStatus = Some LogStatus
without_data names.DumpLog = Some DumpLog
without_data names.EraseLog = Some EraseLog
without_data names.SelfTest = None
without_data names.AlarmReset = Some AlarmReset

-- the message without data that a word names
abbrev pub asked_named : List ℕ → Option Monitoring
asked_named word = option_and_then without_data (message_named word)
