-- What a line says of an answer, part by part, and the two forms in which a part is printed (profile).
use Rattle.std.specs.Prelude.{ℕ, zero, suc, codes, decimal, List, [], ◌∷◌, ◌++◌, drop, Option, Some, None}
use Rattle.std.specs.List.{flat_map}
use Rattle.hex.specs.Hex.{encode_lower}
use Rattle.sdls_base.specs.declared.states.KeyState.{KeyState}
use Rattle.text_words.specs.Members.{member, quoted}
use Rattle.text_words.specs.Words.{octets_word, key_state_word, spaced}
use Rattle.sdls_base.specs.Places.{number_at, octet_at}
use Rattle.fsr_log.specs.declared.kinds.Event.{Event}
use Rattle.record_io.specs.declared.code.AnswerCode.{AnswerCode}
use Rattle.answer_text.specs.Code.{code_word}
use Rattle.record_io.specs.Codes.{code_at}
use Rattle.answer_text.specs.declared.putting.Form.{Form}
use Rattle.answer_text.specs.declared.putting.Form.TheVariants.{Words, Json}

-- A part of what a line says: a number by its name; a number or a word whose name the form of words leaves out; octets
-- by their name; the number that was drawn for a command, with its key; the rows of an inventory, keys and states; so
-- many events of a dump, by their octets.
pub data Part : Type 0 where
  named : List ℕ → ℕ → Part
  number : List ℕ → ℕ → Part
  word : List ℕ → List ℕ → Part
  octets : List ℕ → List ℕ → Part
  drawn : ℕ → ℕ → Part
  rows : List (ℕ × KeyState) → Part
  events : ℕ → List ℕ → Part

-- a key with its state, in words
abbrev pub row_words : ℕ × KeyState → List ℕ
row_words row = spaced (decimal row.0) ++ spaced (key_state_word row.1)

-- the word of a code, if it is one
abbrev pub word_of_code : Option AnswerCode → List ℕ
word_of_code None = []
word_of_code (Some code) = code_word code

-- the event at the front of a dump
abbrev pub event_at : List ℕ → Event
event_at carried = record {
  index = number_at 0 carried;
  code = octet_at 8 carried;
  detail = octet_at 9 carried;
  number = number_at 10 carried;
}

-- an event in words: the number of the record, and of its answer the code, the detail and the number
abbrev pub event_words : Event → List ℕ
event_words event = spaced (codes "event") ++ (spaced (decimal event.index)
    ++ (spaced (word_of_code (code_at event.code)) ++ (spaced (decimal event.detail) ++ spaced (decimal event.number))))

abbrev pub events_words : ℕ → List ℕ → List ℕ
events_words zero carried = []
events_words (suc count) carried = event_words (event_at carried) ++ events_words count (drop 18 carried)

-- a part in words, a space before each
abbrev pub words_text : Part → List ℕ
words_text (named name count) = spaced name ++ spaced (decimal count)
words_text (number name count) = spaced (decimal count)
words_text (word name text) = spaced text
words_text (octets name body) = spaced name ++ spaced (octets_word body)
words_text (drawn key count) = spaced (codes "drawn") ++ (spaced (decimal key) ++ spaced (decimal count))
words_text (rows keys) = flat_map row_words keys
words_text (events count carried) = events_words count carried

-- a key with its state, as a JSON object
abbrev pub row_object : ℕ × KeyState → List ℕ
row_object row = codes "{" ++ (member (codes "key") (decimal row.0)
    ++ (codes "," ++ (member (codes "state") (quoted (key_state_word row.1)) ++ codes "}")))

-- a row behind another
abbrev pub further_row : ℕ × KeyState → List ℕ
further_row row = codes "," ++ row_object row

-- rows as JSON objects, a comma between two of them
abbrev pub row_objects : List (ℕ × KeyState) → List ℕ
row_objects [] = []
row_objects (row ∷ keys) = row_object row ++ flat_map further_row keys

-- the code, the detail and the number of an event, as members of a JSON object
abbrev pub event_members : Event → List ℕ
event_members event = member (codes "code") (quoted (word_of_code (code_at event.code)))
    ++ (codes "," ++ (member (codes "detail") (decimal event.detail)
    ++ (codes "," ++ member (codes "number") (decimal event.number))))

-- an event as a JSON object
abbrev pub event_object : Event → List ℕ
event_object event = codes "{" ++ (member (codes "record") (decimal event.index)
    ++ (codes "," ++ (event_members event ++ codes "}")))

-- events behind another
abbrev pub further_events : ℕ → List ℕ → List ℕ
further_events zero carried = []
further_events (suc count) carried =
    (codes "," ++ event_object (event_at carried)) ++ further_events count (drop 18 carried)

-- events as JSON objects, a comma between two of them
abbrev pub event_objects : ℕ → List ℕ → List ℕ
event_objects zero carried = []
event_objects (suc count) carried = event_object (event_at carried) ++ further_events count (drop 18 carried)

-- a number with its key, as a JSON object
abbrev pub drawn_object : ℕ → ℕ → List ℕ
drawn_object key count = codes "{" ++ (member (codes "key") (decimal key)
    ++ (codes "," ++ (member (codes "number") (decimal count) ++ codes "}")))

-- a part as a member of a JSON object: numbers as numbers, words and the digits of octets as strings
abbrev pub member_text : Part → List ℕ
member_text (named name count) = member name (decimal count)
member_text (number name count) = member name (decimal count)
member_text (word name text) = member name (quoted text)
member_text (octets name body) = member name (quoted (encode_lower body))
member_text (drawn key count) = member (codes "drawn") (drawn_object key count)
member_text (rows keys) = member (codes "rows") (codes "[" ++ (row_objects keys ++ codes "]"))
member_text (events count carried) = member (codes "log") (codes "[" ++ (event_objects count carried ++ codes "]"))

-- a part in a form; in JSON a comma stands before it
unfoldable pub part_text : Form → Part → List ℕ
part_text Words part = words_text part
part_text Json part = codes "," ++ member_text part

-- parts, one behind the other
abbrev pub parts_text : Form → List Part → List ℕ
parts_text form [] = []
parts_text form (part ∷ parts) = part_text form part ++ parts_text form parts
