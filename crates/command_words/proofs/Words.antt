-- What the words are, from those that were found at their places: for `command_of`.
use Rattle.std.proofs.Common.{◌≡◌, ◌<◌, ◌≤◌, ℕ, List, [], ◌∷◌, length, get_or, map, String, string_bytes, refl, sym}
use Rattle.std.proofs.Common.{◌∙◌, ap, arith}
use Rattle.std.specs.declared.alloc.Global.{Global}
use Rattle.command_words.specs.declared.reading.Command.TheVariants.{Usage}
use Rattle.command_words.specs.Words.{command_of, of_one, of_three, of_two, of_words}

-- a list of one, by its item
one_item : {X : Type 0} (xs : List X) (a : X) → 1 ≤ length xs → length xs < 2 → a ≡ get_or xs 0 a → xs ≡ a ∷ []
one_item [] a least below first = absurd (omega arith)
one_item (x ∷ []) a least below first = cc
one_item (x ∷ y ∷ rest) a least below first = absurd (omega arith)

-- one word, by its octets
pub one_word : (words : List (String Global)) (a : String Global) (first : List ℕ) → 1 ≤ length words → length words < 2
    → a ≡ get_or words 0 a → first ≡ string_bytes a → map string_bytes words ≡ first ∷ []
one_word words a first least below at_first is_first =
    ap (map string_bytes) (one_item words a least below at_first) ∙ cc

-- a list of three, by its items
three_items : {X : Type 0} (xs : List X) (a b c : X) → 3 ≤ length xs → length xs < 4 → a ≡ get_or xs 0 a
    → b ≡ get_or xs 1 b
    → c ≡ get_or xs 2 c → xs ≡ a ∷ b ∷ c ∷ []
three_items [] a b c least below first second third = absurd (omega arith)
three_items (x ∷ []) a b c least below first second third = absurd (omega arith)
three_items (x ∷ y ∷ []) a b c least below first second third = absurd (omega arith)
three_items (x ∷ y ∷ z ∷ []) a b c least below first second third = cc
three_items (x ∷ y ∷ z ∷ w ∷ rest) a b c least below first second third = absurd (omega arith)

-- three words, by their octets
pub three_words : (words : List (String Global)) (a b c : String Global) (first second third : List ℕ)
    → 3 ≤ length words → length words < 4 → a ≡ get_or words 0 a → b ≡ get_or words 1 b → c ≡ get_or words 2 c
    → first ≡ string_bytes a → second ≡ string_bytes b → third ≡ string_bytes c
    → map string_bytes words ≡ first ∷ second ∷ third ∷ []
three_words words a b c first second third least below at_first at_second at_third is_first is_second is_third =
    ap (map string_bytes) (three_items words a b c least below at_first at_second at_third) ∙ cc

-- What words ask for, by how many there are.

pub asks_one : (words : List (String Global)) (first : List ℕ) → map string_bytes words ≡ first ∷ []
    → of_one first ≡ command_of words
unfolding command_of
asks_one words first are = sym (ap of_words are)

pub asks_two : (words : List (String Global)) (first second : List ℕ) → map string_bytes words ≡ first ∷ second ∷ []
    → of_two first second ≡ command_of words
unfolding command_of
asks_two words first second are = sym (ap of_words are)

pub asks_three : (words : List (String Global)) (first second third : List ℕ)
    → map string_bytes words ≡ first ∷ second ∷ third ∷ []
    → of_three first second third ≡ command_of words
unfolding command_of
asks_three words first second third are = sym (ap of_words are)

pub asks_none : (words : List (String Global)) → length words < 1 → Usage ≡ command_of words
unfolding command_of
asks_none [] none = refl
asks_none (a ∷ rest) none = absurd (omega arith)

pub asks_many : (words : List (String Global)) → 4 ≤ length words → Usage ≡ command_of words
unfolding command_of
asks_many [] many = absurd (omega arith)
asks_many (a ∷ []) many = absurd (omega arith)
asks_many (a ∷ b ∷ []) many = absurd (omega arith)
asks_many (a ∷ b ∷ c ∷ []) many = absurd (omega arith)
asks_many (a ∷ b ∷ c ∷ d ∷ rest) many = refl
