-- The JSON objects of what `stat` prints (profile).
use Rattle.std.specs.Prelude.{ℕ, ◌==◌, if◌then◌else◌, codes, decimal, List, [], ◌++◌}
use Rattle.text_words.specs.Members.{member, quoted}
use Rattle.text_words.specs.Words.{direction_word, key_state_word, sa_state_word, suite_word}
use Rattle.text_streams.specs.declared.state_line.StateLine.{StateLine}
use Rattle.text_streams.specs.declared.state_line.StateLine.TheVariants.{Slots, Key, Association}

-- how the object of a line begins: with the word of the line
unfoldable pub line_member : List ℕ → List ℕ
line_member word = codes "{" ++ member (codes "line") (quoted word)

-- a further member whose value is a number
unfoldable pub further_number : List ℕ → ℕ → List ℕ
further_number name number = codes "," ++ member name (decimal number)

-- a further member whose value is a string
unfoldable pub further_word : List ℕ → List ℕ → List ℕ
further_word name word = codes "," ++ member name (quoted word)

-- a back window, if there is one
abbrev pub back_member : ℕ → List ℕ
back_member back = if back == 0 then [] else further_number (codes "back") back

-- the members of a key behind the first
unfoldable pub key_members : ℕ → List ℕ → ℕ → ℕ → List ℕ
key_members id state mark floor = further_number (codes "key") id ++ (further_word (codes "state") state
    ++ (further_number (codes "mark") mark ++ further_number (codes "floor") floor))

-- the key of an association, and its window
unfoldable pub held_members : ℕ → ℕ → ℕ → List ℕ
held_members key window back = further_number (codes "key") key
    ++ (further_number (codes "window") window ++ back_member back)

-- an association up to its key
unfoldable pub kind_members : ℕ → List ℕ → List ℕ → List ℕ → List ℕ
kind_members spi direction suite state = further_number (codes "spi") spi
    ++ (further_word (codes "direction") direction
    ++ (further_word (codes "suite") suite ++ further_word (codes "state") state))

-- the members of the object of a line
unfoldable pub line_members : StateLine → List ℕ
line_members (Slots used slots) = line_member (codes "slots")
    ++ (further_number (codes "used") used ++ further_number (codes "slots") slots)
line_members (Key id state mark floor) = line_member (codes "key") ++ key_members id (key_state_word state) mark floor
line_members (Association spi direction suite state key window back) = line_member (codes "sa")
    ++ (kind_members spi (direction_word direction) (suite_word suite) (sa_state_word state)
    ++ held_members key window back)

-- the object of a line, with its line feed
abbrev pub object_text : StateLine → List ℕ
object_text line = line_members line ++ codes "}\n"
