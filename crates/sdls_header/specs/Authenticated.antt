-- What a MAC covers of a frame before its data field (CCSDS 355.0-B-2, authentication bit mask).
use Rattle.std.specs.Prelude.{ℕ, List, [], ◌∷◌, ◌++◌, bit_and}

-- each octet of the prefix under its octet of the mask; past the mask's end that is 00
abbrev pub masked_octets : List ℕ → List ℕ → List ℕ
masked_octets [] mask = []
masked_octets (octet ∷ prefix) [] = 0 ∷ masked_octets prefix []
masked_octets (octet ∷ prefix) (m ∷ mask) = bit_and octet m ∷ masked_octets prefix mask

-- the authenticated text before the data field: the masked prefix, then the security header
abbrev pub authenticated : List ℕ → List ℕ → List ℕ → List ℕ
authenticated mask prefix header = masked_octets prefix mask ++ header
