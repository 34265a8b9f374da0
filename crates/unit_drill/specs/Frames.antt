-- The frames of a drill and the records that its units are handed (profile).
use Rattle.std.specs.Prelude.{ℕ, ◌+◌, ◌*◌, ◌%◌, ◌==◌, List, [], ◌∷◌, map, if◌then◌else◌}
use Rattle.std.specs.List.{range_with_len}
use Rattle.record_io.specs.declared.answers.Answer.{Answer}
use Rattle.record_io.specs.declared.code.TheConstants.{PROTECTED}
use Rattle.record_io.specs.declared.reader.RecordKind.TheVariants.{Protect, Open}
use Rattle.record_io.specs.declared.item_cursor.Record.{Record}
use Rattle.unit_drill.specs.declared.records.TheConstants.{FIELD_LENGTH, DRILL_LANES}
use Rattle.unit_drill.specs.declared.records.TheConstants.{CHUNK}

-- an octet of the data field of a frame
abbrev pub field_octet : ℕ → ℕ → ℕ
field_octet number place = (7 * number + 13 * place) % 256

-- the first of them, so many
unfoldable pub field_octets : ℕ → ℕ → List ℕ
field_octets number count = map (field_octet number) (range_with_len 0 count)

abbrev pub data_field : ℕ → List ℕ
data_field number = field_octets number FIELD_LENGTH

-- A TC transfer frame in clear (CCSDS 232.0-B-4): version and flags 0, spacecraft 1, the virtual channel, 36 as the
-- length field, the sequence number, the data field.
abbrev pub clear_frame : ℕ → List ℕ
clear_frame number = 0 ∷ 1 ∷ 4 * (number % DRILL_LANES) ∷ 36 ∷ (number % 256) ∷ data_field number

-- a frame that is to be protected, on the lane of its virtual channel
abbrev pub protect_task : ℕ → Record
protect_task number = record {
  index = number;
  kind = Protect;
  lane = number % DRILL_LANES;
  link = 0;
  octets =
      clear_frame number;
}

-- a protected frame that is to be opened, on the same lane
abbrev pub open_task : ℕ → ℕ → List ℕ → Record
open_task index number octets = record {
  index = index;
  kind = Open;
  lane = number % DRILL_LANES;
  link = 0;
  octets =
      octets;
}

abbrev pub protect_tasks : ℕ → ℕ → List Record
protect_tasks first count = map protect_task (range_with_len first count)

-- The frames that were protected, of those from a number on with these answers. The second unit's numbers of records
-- run ahead by so many.
abbrev pub open_tasks : ℕ → ℕ → List Answer → List Record
open_tasks ahead number [] = []
open_tasks ahead number (answer ∷ answers) =
    if answer.code == PROTECTED then open_task (number + ahead) number answer.body
    ∷ open_tasks ahead (number + 1) answers
    else open_tasks ahead (number + 1) answers

-- the first of them again, where it was protected
abbrev pub replay_tasks : ℕ → ℕ → List Answer → List Record
replay_tasks ahead number [] = []
replay_tasks ahead number (answer ∷ answers) =
    if answer.code == PROTECTED then open_task (number + CHUNK + ahead) number answer.body ∷ [] else []
