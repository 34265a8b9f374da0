-- The lines of what `stat` prints, and their words (profile).
use Rattle.std.specs.Prelude.{ℕ, ◌^◌, ◌<◌, ◌==◌, if◌then◌else◌, codes, decimal, List, [], ◌∷◌}
use Rattle.text_words.specs.Words.{direction_word, key_state_word, sa_state_word, suite_word}
use Rattle.status_text.specs.Text.{association_text, key_text, slots_line}
use Rattle.text_streams.specs.declared.state_line.StateLine.{StateLine}
use Rattle.text_streams.specs.declared.state_line.StateLine.TheVariants.{Slots, Key, Association}

-- the line as `stat` prints it, with its line feed
abbrev pub state_text : StateLine → List ℕ
state_text (Slots used slots) = slots_line used slots
state_text (Key id state mark floor) = key_text id state mark floor
state_text (Association spi direction suite state key window back) =
    association_text spi direction suite state key window back

-- the values have their types, and a key and an association have a number
unfoldable pub IsStateLine : StateLine → Type 0
IsStateLine (Slots used slots) = (used < 2 ^ 32) × (slots < 2 ^ 32)
IsStateLine (Key id state mark floor) = (0 < id) × (id < 2 ^ 16) × (mark < 2 ^ 64) × (floor < 2 ^ 64)
IsStateLine (Association spi direction suite state key window back) =
    (0 < spi) × (spi < 2 ^ 16) × (key < 2 ^ 16) × (window < 2 ^ 64) × (back < 2 ^ 8)

-- a back window, if there is one
abbrev pub back_words : ℕ → List (List ℕ)
back_words back = if back == 0 then [] else codes "back" ∷ decimal back ∷ []

-- the words of the line
unfoldable pub state_words : StateLine → List (List ℕ)
state_words (Slots used slots) = codes "slots" ∷ decimal used ∷ codes "of" ∷ decimal slots ∷ []
state_words (Key id state mark floor) = codes "key" ∷ decimal id ∷ key_state_word state
    ∷ codes "mark" ∷ decimal mark ∷ codes "floor" ∷ decimal floor ∷ []
state_words (Association spi direction suite state key window back) = codes "sa" ∷ decimal spi
    ∷ direction_word direction ∷ suite_word suite ∷ sa_state_word state
    ∷ codes "key" ∷ decimal key ∷ codes "window" ∷ decimal window ∷ back_words back
