-- The names of items, procedures and monitoring messages in text (profile).
use Rattle.std.specs.Prelude.{ℕ, codes, List, [], ◌∷◌, ◌++◌, Option}
use Rattle.std.specs.List.{find}
use Rattle.std.specs.Str.{bytes_eq}
use Rattle.ep_codec.specs.declared.procedure.Procedure.{Procedure}
use Rattle.ep_codec.specs.declared.procedure.Procedure.TheVariants.{Rekeying, Activate, Deactivate, Verify, Destroy}
use Rattle.ep_codec.specs.declared.procedure.Procedure.TheVariants.{Inventory, Compose, ReadNumber, Create, Delete}
use Rattle.ep_codec.specs.declared.procedure.Procedure.TheVariants.{SetWindow, Rekey, Expire, SetNumber, Start, Stop}
use Rattle.ep_codec.specs.declared.procedure.Procedure.TheVariants.{Status}
use Rattle.record_io.specs.declared.reader.ItemKind.{ItemKind}
use Rattle.record_io.specs.declared.reader.ItemKind.TheVariants.{Fence, Recorded}
use Rattle.record_io.specs.declared.reader.RecordKind.TheVariants as records
use Rattle.text_words.specs.declared.words.MessageName.{MessageName}
use Rattle.text_words.specs.declared.words.MessageName.TheVariants as messages

-- the word with which the line of an item begins; of a Monitor record, the one before its octets
abbrev pub item_word : ItemKind → List ℕ
item_word Fence = codes "fence"
item_word (Recorded records.Protect) = codes "protect"
item_word (Recorded records.Open) = codes "open"
item_word (Recorded records.Command) = codes "command"
item_word (Recorded records.Monitor) = codes "monitor"

abbrev pub procedure_word : Procedure → List ℕ
procedure_word Rekeying = codes "rekeying"
procedure_word Activate = codes "activate"
procedure_word Deactivate = codes "deactivate"
procedure_word Verify = codes "verify"
procedure_word Destroy = codes "destroy"
procedure_word Inventory = codes "inventory"
procedure_word Compose = codes "compose"
procedure_word ReadNumber = codes "read-number"
procedure_word Create = codes "create"
procedure_word Delete = codes "delete"
procedure_word SetWindow = codes "set-window"
procedure_word Rekey = codes "rekey"
procedure_word Expire = codes "expire"
procedure_word SetNumber = codes "set-number"
procedure_word Start = codes "start"
procedure_word Stop = codes "stop"
procedure_word Status = codes "status"

-- those that manage keys
abbrev pub key_procedures : List Procedure
key_procedures = Rekeying ∷ Activate ∷ Deactivate ∷ Verify ∷ Destroy ∷ Inventory ∷ Compose ∷ []

-- those that manage associations
abbrev pub association_procedures : List Procedure
association_procedures = ReadNumber ∷ Create ∷ Delete ∷ SetWindow ∷ Rekey ∷ Expire ∷ SetNumber ∷ Start ∷ Stop ∷ Status
    ∷ []

-- the first of these procedures that has this word
abbrev pub procedure_among : List Procedure → List ℕ → Option Procedure
procedure_among procedures word = find (λ procedure. bytes_eq word (procedure_word procedure)) procedures

-- the procedure that has this word
abbrev pub procedure_named : List ℕ → Option Procedure
procedure_named word = procedure_among (key_procedures ++ association_procedures) word

abbrev pub message_word : MessageName → List ℕ
message_word messages.Ping = codes "ping"
message_word messages.LogStatus = codes "log-status"
message_word messages.DumpLog = codes "dump-log"
message_word messages.EraseLog = codes "erase-log"
message_word messages.SelfTest = codes "self-test"
message_word messages.AlarmReset = codes "alarm-reset"

abbrev pub all_messages : List MessageName
all_messages = messages.Ping ∷ messages.LogStatus ∷ messages.DumpLog ∷ messages.EraseLog ∷ messages.SelfTest
    ∷ messages.AlarmReset ∷ []

-- the first of these monitoring messages that has this word
abbrev pub message_among : List MessageName → List ℕ → Option MessageName
message_among names word = find (λ name. bytes_eq word (message_word name)) names

-- the monitoring message that has this word
abbrev pub message_named : List ℕ → Option MessageName
message_named word = message_among all_messages word
