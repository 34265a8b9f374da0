-- GF(2^8) over GF(16) (*profile*): an octet is k + w i, for k and i in GF(16). The basis of GF(16) is 1, g, g^2 and
-- g^3, with g = 0x0d; w is 0x34, and w^2 + a w + a = 0 for a = 0x0c. The lower four bits of a number stand for k, and
-- the upper four for i.
use Rattle.std.specs.Prelude.{ℕ, zero, suc, ◌*◌, ◌/◌, ◌%◌, ◌||◌, Bool, List, [], ◌∷◌, map, slice_index, bit_xor, nat_lt}
use Rattle.std.specs.Prelude.{nat_le}
use Rattle.std.specs.Prelude.{if◌then◌else◌}
use Rattle.std.specs.Int.{bit_at}
use Rattle.aes_block.specs.Aes.{doubled, sub_byte}

-- 1, g, g^2, g^3, and w times each of them
abbrev pub basis : List ℕ
basis = 0x01 ∷ 0x0d ∷ 0x51 ∷ 0xb0 ∷ 0x34 ∷ 0x5f ∷ 0xf6 ∷ 0xf2 ∷ []

-- the sum of those of the first n elements of the basis at which y has a bit
unfoldable pub sum_of : ℕ → ℕ → ℕ
sum_of zero y = 0
sum_of (suc n) y = bit_xor (bit_at y n * slice_index basis n) (sum_of n y)

-- the octet that y stands for
abbrev pub element : ℕ → ℕ
element y = sum_of 8 y

-- ---- look-ups in tables of sixteen

-- a place in a table, or one from 128 on, which stands for 1/0 and at which nothing is found
abbrev pub is_place : ℕ → Bool
is_place place = nat_le 128 place || nat_lt place 16

abbrev pub look : List ℕ → ℕ → ℕ
look table place = if nat_le 128 place then 0 else slice_index table place

-- the places at which the tables of the S-box are looked up for y: 1/(1/i + a/k) + i + k, and 1/(1/(i + k) + a/k) + i,
-- by the table of inverses and that of a over each number
abbrev pub first_place : List ℕ → List ℕ → ℕ → ℕ
first_place inverses a_over y =
    bit_xor (look inverses (bit_xor (look inverses (y / 16)) (look a_over (y % 16)))) (bit_xor (y / 16) (y % 16))

abbrev pub second_place : List ℕ → List ℕ → ℕ → ℕ
second_place inverses a_over y =
    bit_xor (look inverses (bit_xor (look inverses (bit_xor (y / 16) (y % 16))) (look a_over (y % 16)))) (y / 16)

-- ---- the S-box

-- the S-box without its constant
abbrev pub sub_linear : ℕ → ℕ
sub_linear x = bit_xor (sub_byte x) 0x63

-- the S-box without its constant, doubled
abbrev pub sub_linear_doubled : ℕ → ℕ
sub_linear_doubled x = bit_xor (doubled (sub_byte x)) (doubled 0x63)

-- octets with the constant of the S-box added to each
abbrev pub with_constant : List ℕ → List ℕ
with_constant octets = map (λ x. bit_xor x 0x63) octets
