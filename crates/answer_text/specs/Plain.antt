-- The strings of a line in JSON stand there as they are (profile).
use Rattle.std.specs.Prelude.{ℕ, zero, suc, drop, ◌==◌, ◌&&◌, ◌||◌, nat_le, Bool, true, List, [], ◌∷◌}
use Rattle.sdls_base.specs.declared.states.KeyState.{KeyState}
use Rattle.text_words.specs.Words.{key_state_word}
use Rattle.sdls_base.specs.Places.{octet_at}
use Rattle.record_io.specs.Codes.{code_at}
use Rattle.answer_text.specs.Part.{Part, word_of_code}
use Rattle.answer_text.specs.Part.Part.{named, number, word, octets, drawn, rows, events}

-- a letter, a digit or a hyphen, which needs no escape in a JSON string
abbrev pub is_plain_octet : ℕ → Bool
is_plain_octet octet = (nat_le 97 octet && nat_le octet 122) || ((nat_le 65 octet && nat_le octet 90)
    || ((nat_le 48 octet && nat_le octet 57) || (octet == 45)))

-- letters, digits and hyphens alone
abbrev pub is_plain_text : List ℕ → Bool
is_plain_text [] = true
is_plain_text (octet ∷ text) = is_plain_octet octet && is_plain_text text

-- the words for the states of rows are plain
abbrev pub are_plain_rows : List (ℕ × KeyState) → Bool
are_plain_rows [] = true
are_plain_rows (row ∷ keys) = is_plain_text (key_state_word row.1) && are_plain_rows keys

-- the words for the codes of events are plain
abbrev pub are_plain_events : ℕ → List ℕ → Bool
are_plain_events zero carried = true
are_plain_events (suc count) carried =
    is_plain_text (word_of_code (code_at (octet_at 8 carried))) && are_plain_events count (drop 18 carried)

-- the name of a part is plain, and its word is
abbrev pub is_plain_part : Part → Bool
is_plain_part (named name count) = is_plain_text name
is_plain_part (number name count) = is_plain_text name
is_plain_part (word name text) = is_plain_text name && is_plain_text text
is_plain_part (octets name body) = is_plain_text name
is_plain_part (drawn key count) = true
is_plain_part (rows keys) = are_plain_rows keys
is_plain_part (events count carried) = are_plain_events count carried

-- those of all parts are
abbrev pub are_plain_parts : List Part → Bool
are_plain_parts [] = true
are_plain_parts (part ∷ parts) = is_plain_part part && are_plain_parts parts
