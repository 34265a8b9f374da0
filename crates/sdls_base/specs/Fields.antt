-- Fields of bits, as the standards lay out their headers: one after the other, the most significant bit first.
use Rattle.std.specs.Prelude.{ℕ, zero, suc, ◌+◌, ◌*◌, ◌/◌, ◌%◌, ◌^◌, Bool, true, false, List, [], ◌∷◌}

-- a field is its width in bits, and its value
abbrev pub Field : Type 0
Field = ℕ × ℕ

-- a flag, as a field's value
abbrev pub bit : Bool → ℕ
bit false = 0
bit true = 1

-- the bits of the fields
abbrev pub width : List Field → ℕ
width [] = 0
width (field ∷ fields) = field.0 + width fields

-- the fields as one number, each above those that come after it
abbrev pub number : List Field → ℕ
number [] = 0
number (field ∷ fields) = field.1 * 2 ^ width fields + number fields

-- a number in so many octets
abbrev pub octets_of : ℕ → ℕ → List ℕ
octets_of zero n = []
octets_of (suc count) n = (n / 2 ^ (8 * count) % 256) ∷ octets_of count n

-- the octets that the fields fill
unfoldable pub packed : List Field → List ℕ
packed fields = octets_of (width fields / 8) (number fields)
