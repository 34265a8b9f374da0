-- The text of the state of a unit (profile): the slots, each key, each association, a line each.
use Rattle.std.specs.Prelude.{ℕ, ◌+◌, ◌==◌, if◌then◌else◌, List, [], ◌∷◌, ◌++◌, suc, zero, codes, decimal, unwrap_or}
use Rattle.std.specs.Option.{option_map_or}
use Rattle.sdls_base.specs.declared.states.KeyState.{KeyState}
use Rattle.sdls_base.specs.declared.states.SaState.{SaState}
use Rattle.sdls_base.specs.declared.states.Direction.{Direction}
use Rattle.sdls_base.specs.declared.states.Suite.{Suite}
use Rattle.text_words.specs.Words.{direction_word, key_state_word, sa_state_word, suite_word}
use Rattle.key_book.specs.declared.key_row.KeyRow.{KeyRow}
use Rattle.key_book.specs.KeyBook.{row_of}
use Rattle.sa_book.specs.declared.sa_book.SaRow.{SaRow}
use Rattle.unit_state.specs.declared.state.State.{State}

-- so many slots of the image are used, of so many
unfoldable pub slots_line : ℕ → ℕ → List ℕ
slots_line used slots = codes "slots " ++ decimal used ++ codes " of " ++ decimal slots ++ codes "\n"

-- a key with this identifier, in this state, has this mark and this floor
unfoldable pub key_text : ℕ → KeyState → ℕ → ℕ → List ℕ
key_text id state mark floor = codes "key " ++ decimal id ++ codes " " ++ key_state_word state ++ codes " mark "
    ++ decimal mark
    ++ codes " floor " ++ decimal floor ++ codes "\n"

unfoldable pub key_line : KeyRow → List ℕ
key_line row = key_text row.id row.state row.mark row.floor

-- a back window, if there is one
abbrev pub back_text : ℕ → List ℕ
back_text back = if back == 0 then [] else codes " back " ++ decimal back

-- the key of an association, 0 if it has none, and its window: the width, and the back window
unfoldable pub held_text : ℕ → ℕ → ℕ → List ℕ
held_text key width back = codes " key " ++ decimal key ++ codes " window " ++ decimal width ++ back_text back

-- an association, in the order of its words: SPI, direction, suite, state, key, width of the window, back window
unfoldable pub association_text : ℕ → Direction → Suite → SaState → ℕ → ℕ → ℕ → List ℕ
association_text spi direction suite state key width back = codes "sa " ++ decimal spi ++ codes " "
    ++ direction_word direction ++ codes " "
    ++ suite_word suite
    ++ codes " " ++ sa_state_word state ++ held_text key width back
    ++ codes "\n"

-- the key and the window of a row
abbrev pub key_and_window : SaRow → List ℕ
key_and_window row = held_text (unwrap_or row.key 0) row.window.width row.window.back

unfoldable pub association_line : SaRow → List ℕ
association_line row = association_text row.spi row.direction row.suite row.state (unwrap_or row.key 0)
    row.window.width row.window.back

-- a line for each key whose identifier is one of so many from the first on, ascending
unfoldable pub keys_text : List KeyRow → ℕ → ℕ → List ℕ
keys_text rows first zero = []
keys_text rows first (suc count) = option_map_or key_line (row_of rows first) [] ++ keys_text rows (first + 1) count

-- a line for each of some keys, in their order
unfoldable pub key_lines : List KeyRow → List ℕ
key_lines [] = []
key_lines (row ∷ rows) = key_line row ++ key_lines rows

-- a line for each association, in their order, which ascends
unfoldable pub associations_text : List SaRow → List ℕ
associations_text [] = []
associations_text (row ∷ rows) = association_line row ++ associations_text rows

abbrev pub highest_identifier : ℕ
highest_identifier = 65535

-- the text of a state, with the slots of its image that are used
abbrev pub status_text : State → ℕ → ℕ → List ℕ
status_text state used slots =
    slots_line used slots ++ keys_text state.keys 1 highest_identifier ++ associations_text state.associations
