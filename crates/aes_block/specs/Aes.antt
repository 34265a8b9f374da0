-- The block cipher AES (FIPS 197, 2023), with keys of 128 and 256 bits. An octet is an element of GF(2^8):
-- a number whose bit i is the coefficient of x^i. A word is four octets, the first highest. The state
-- is a list of 16 octets, column by column.
use Rattle.std.specs.Prelude.{ℕ, zero, suc, ◌+◌, ◌-◌, ◌*◌, ◌/◌, ◌%◌, ◌^◌, ◌==◌, ◌&&◌, if◌then◌else◌, List, [], ◌∷◌}
use Rattle.std.specs.Prelude.{◌++◌, map, length, slice_index, bit_xor}
use Rattle.std.specs.List.{range_with_len}
use Rattle.std.specs.Int.{w32, bit_at, rotate_left, to_be_bytes, from_be_bytes}

-- ---- the field GF(2^8), modulo x^8 + x^4 + x^3 + x + 1

-- x times a (4.2)
abbrev pub doubled : ℕ → ℕ
doubled a = bit_xor (2 * a) (a / 128 * 0x11b)

-- the lowest n coefficients of a, times b: the sum of the multiples of b by the powers of x in a
unfoldable pub times_low : ℕ → ℕ → ℕ → ℕ
times_low zero a b = 0
times_low (suc n) a b = bit_xor (a % 2 * b) (times_low n (a / 2) (doubled b))

-- the product (4.2)
abbrev pub octet_product : ℕ → ℕ → ℕ
octet_product a b = times_low 8 a b

abbrev pub square : ℕ → ℕ
square a = octet_product a a

-- the multiplicative inverse, and 0 for 0: a ^ 254 (4.4), the product of a ^ 2, a ^ 4, .. a ^ 128
unfoldable pub inverse : ℕ → ℕ
inverse a =
    let a2 = square a in
    let a4 = square a2 in
    let a8 = square a4 in
    let a16 = square a8 in
    let a32 = square a16 in
    let a64 = square a32 in
    octet_product a2 (octet_product a4
    (octet_product a8 (octet_product a16 (octet_product a32 (octet_product a64 (square a64))))))

-- ---- the cipher (5.1)

-- bit i of the affine map (5.1.1)
abbrev pub affine_bit : ℕ → ℕ → ℕ
affine_bit b i =
    (bit_at b i + bit_at b ((i + 4) % 8) + bit_at b ((i + 5) % 8) + bit_at b ((i + 6) % 8)
    + bit_at b ((i + 7) % 8) + bit_at 0x63 i) % 2

-- the number whose bit i is f i, for each i below n
unfoldable pub from_bits : (ℕ → ℕ) → ℕ → ℕ
from_bits f zero = 0
from_bits f (suc n) = from_bits f n + f n * 2 ^ n

-- the S-box: the inverse, then the affine map (5.1.1)
unfoldable pub sub_byte : ℕ → ℕ
sub_byte a = let b = inverse a in from_bits (affine_bit b) 8

-- the octet of row r and column c (3.4)
abbrev pub at : List ℕ → ℕ → ℕ → ℕ
at s r c = slice_index s (r + 4 * c)

-- the state with f r c in row r and column c
abbrev pub state : (ℕ → ℕ → ℕ) → List ℕ
state f =
    f 0 0 ∷ f 1 0 ∷ f 2 0 ∷ f 3 0 ∷ f 0 1 ∷ f 1 1 ∷ f 2 1 ∷ f 3 1
    ∷ f 0 2 ∷ f 1 2 ∷ f 2 2 ∷ f 3 2 ∷ f 0 3 ∷ f 1 3 ∷ f 2 3 ∷ f 3 3 ∷ []

-- SubBytes (5.1.1)
abbrev pub sub_bytes : List ℕ → List ℕ
sub_bytes s = state (λ r c. sub_byte (at s r c))

-- ShiftRows: row r turned left by r (5.1.2)
abbrev pub shift_rows : List ℕ → List ℕ
shift_rows s = state (λ r c. at s r ((c + r) % 4))

-- row r and column k of the circulant matrix of 02, 03, 01, 01 (5.1.3)
abbrev pub matrix : ℕ → ℕ → ℕ
matrix r k = slice_index (2 ∷ 3 ∷ 1 ∷ 1 ∷ []) ((k + 4 - r) % 4)

-- row r of the matrix times the column a, b, c, d
abbrev pub mixed : ℕ → ℕ → ℕ → ℕ → ℕ → ℕ
mixed r a b c d =
    bit_xor (bit_xor (bit_xor (octet_product (matrix r 0) a) (octet_product (matrix r 1) b))
    (octet_product (matrix r 2) c))
    (octet_product (matrix r 3) d)

-- MixColumns: the matrix times each column (5.1.3)
abbrev pub mix_columns : List ℕ → List ℕ
mix_columns s = state (λ r c. mixed r (at s 0 c) (at s 1 c) (at s 2 c) (at s 3 c))

-- AddRoundKey (5.1.4)
abbrev pub add_round_key : List ℕ → List ℕ → List ℕ
add_round_key s k = state (λ r c. bit_xor (at s r c) (at k r c))

-- the octets of the words 4 * round to 4 * round + 3 (5.1.4)
abbrev pub round_key : List ℕ → ℕ → List ℕ
round_key words round =
    to_be_bytes w32 (slice_index words (4 * round)) ++ to_be_bytes w32 (slice_index words (4 * round + 1))
    ++ to_be_bytes w32 (slice_index words (4 * round + 2)) ++ to_be_bytes w32 (slice_index words (4 * round + 3))

-- the state after round 0, which adds the first round key, and the given count of full rounds
unfoldable pub after_rounds : List ℕ → List ℕ → ℕ → List ℕ
after_rounds words block zero = add_round_key block (round_key words 0)
after_rounds words block (suc n) =
    add_round_key (mix_columns (shift_rows (sub_bytes (after_rounds words block n)))) (round_key words (suc n))

-- Cipher: the last of the rounds has no MixColumns (5.1)
unfoldable pub cipher : List ℕ → ℕ → List ℕ → List ℕ
cipher words rounds block =
    add_round_key (shift_rows (sub_bytes (after_rounds words block (rounds - 1)))) (round_key words rounds)

-- ---- the key expansion (5.2), for a key of nk words

-- SubWord and RotWord
abbrev pub sub_word : ℕ → ℕ
sub_word w = from_be_bytes w32 (map sub_byte (to_be_bytes w32 w))

abbrev pub rot_word : ℕ → ℕ
rot_word w = rotate_left w32 w 8

-- x ^ n
unfoldable pub x_power : ℕ → ℕ
x_power zero = 1
x_power (suc n) = doubled (x_power n)

-- Rcon: x ^ (k - 1) in the first octet of a word
abbrev pub rcon : ℕ → ℕ
rcon k = x_power (k - 1) * 2 ^ 24

-- the word at octet i of a key
abbrev pub word_at : List ℕ → ℕ → ℕ
word_at key i = from_be_bytes w32
    (slice_index key i ∷ slice_index key (i + 1) ∷ slice_index key (i + 2) ∷ slice_index key (i + 3) ∷ [])

-- what word i adds to word i - nk, where the word before it is t
abbrev pub changed : ℕ → ℕ → ℕ → ℕ
changed nk t i =
    if i % nk == 0 then bit_xor (sub_word (rot_word t)) (rcon (i / nk))
    else (if (nk == 8) && (i % 8 == 4) then sub_word t else t)

-- word i, after the words before it
abbrev pub next_word : ℕ → List ℕ → ℕ → ℕ
next_word nk words i = bit_xor (slice_index words (i - nk)) (changed nk (slice_index words (i - 1)) i)

-- the words of the key: its first n
abbrev pub first_words : List ℕ → ℕ → List ℕ
first_words key n = map (λ i. word_at key (4 * i)) (range_with_len 0 n)

-- the words of the key, and n words that follow from them
unfoldable pub schedule : ℕ → List ℕ → ℕ → List ℕ
schedule nk key zero = first_words key nk
schedule nk key (suc n) = schedule nk key n ++ next_word nk (schedule nk key n) (nk + n) ∷ []

-- ---- AES

-- the block enciphered under the key: 10 rounds for 16 octets of key, 14 for 32, and four words for
-- each round and one round more
unfoldable pub encrypted : List ℕ → List ℕ → List ℕ
encrypted key block =
    let nk = length key / 4 in
    cipher (schedule nk key (3 * nk + 28)) (nk + 6) block
