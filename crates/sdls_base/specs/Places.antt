-- The number at a place of octets, in 1, 2, 4 or 8 of them, the most significant first.
use Rattle.std.specs.Prelude.{ℕ, ◌+◌, List, [], ◌∷◌, slice_index}
use Rattle.std.specs.Int.{w16, w32, w64, from_be_bytes}

abbrev pub octet_at : ℕ → List ℕ → ℕ
octet_at at octets = slice_index octets at

abbrev pub word_at : ℕ → List ℕ → ℕ
word_at at octets = from_be_bytes w16 (slice_index octets at ∷ slice_index octets (at + 1) ∷ [])

abbrev pub double_word_at : ℕ → List ℕ → ℕ
double_word_at at octets = from_be_bytes w32
    (slice_index octets at ∷ slice_index octets (at + 1) ∷ slice_index octets (at + 2) ∷ slice_index octets (at + 3)
    ∷ [])

abbrev pub number_at : ℕ → List ℕ → ℕ
number_at at octets = from_be_bytes w64
    (slice_index octets at ∷ slice_index octets (at + 1) ∷ slice_index octets (at + 2) ∷ slice_index octets (at + 3)
    ∷ slice_index octets (at + 4) ∷ slice_index octets (at + 5) ∷ slice_index octets (at + 6)
    ∷ slice_index octets (at + 7) ∷ [])
