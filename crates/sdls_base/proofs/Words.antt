-- The words of a call, from those that were found at their places. For the crates above, which read commands.
use Rattle.std.proofs.Common.{◌≡◌, ◌<◌, ◌≤◌, ℕ, List, [], ◌∷◌, length, get_or, map, String, string_bytes, ◌∙◌, ap}
use Rattle.std.proofs.Common.{arith}
use Rattle.std.specs.declared.alloc.Global.{Global}

-- a list of two, by its items
two_items : {X : Type 0} (xs : List X) (a b : X) → 2 ≤ length xs → length xs < 3 → a ≡ get_or xs 0 a → b ≡ get_or xs 1 b
    → xs ≡ a ∷ b ∷ []
two_items [] a b least below first second = absurd (omega arith)
two_items (x ∷ []) a b least below first second = absurd (omega arith)
two_items (x ∷ y ∷ []) a b least below first second = cc
two_items (x ∷ y ∷ z ∷ rest) a b least below first second = absurd (omega arith)

-- two words, by their octets
pub two_words : (words : List (String Global)) (a b : String Global) (first second : List ℕ)
    → 2 ≤ length words → length words < 3 → a ≡ get_or words 0 a → b ≡ get_or words 1 b
    → string_bytes a ≡ first → second ≡ string_bytes b
    → map string_bytes words ≡ first ∷ second ∷ []
two_words words a b first second least below at_first at_second is_first is_second =
    ap (map string_bytes) (two_items words a b least below at_first at_second) ∙ cc
