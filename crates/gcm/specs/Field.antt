-- The field GF(2^128), modulo x^128 + x^7 + x^2 + x + 1, and GHASH (SP 800-38D, 6.3 and 6.4). A block
-- is a number below 2 ^ 128, its first octet highest; its highest bit is the coefficient of x^0.
use Rattle.std.specs.Prelude.{ℕ, zero, suc, ◌*◌, ◌/◌, ◌%◌, ◌^◌, List, [], ◌∷◌, length, bit_xor}
use Rattle.std.specs.Int.{bit_at}

-- 11100001 and 120 zeros: x^128 reduced (6.3)
abbrev pub reduced : ℕ
reduced = 0xe1 * 2 ^ 120

-- x times v (6.3, step 3)
abbrev pub by_x : ℕ → ℕ
by_x v = bit_xor (v / 2) (v % 2 * reduced)

-- the n lowest bits of a, from the highest of them on, times v: the sum of the multiples of v by the
-- powers of x
unfoldable pub times_low : ℕ → ℕ → ℕ → ℕ
times_low zero a v = 0
times_low (suc n) a v = bit_xor (bit_at a n * v) (times_low n a (by_x v))

-- the product (6.3)
abbrev pub block_product : ℕ → ℕ → ℕ
block_product a b = times_low 128 a b

-- 1: the coefficient of x^0 alone
abbrev pub one : ℕ
one = 2 ^ 127

unfoldable pub power : ℕ → ℕ → ℕ
power h zero = one
power h (suc n) = block_product h (power h n)

-- GHASH of the blocks X1 to Xm: the sum of Xi * H^(m + 1 - i) (6.4)
unfoldable pub ghash : ℕ → List ℕ → ℕ
ghash h [] = 0
ghash h (x ∷ xs) = bit_xor (block_product x (power h (length (x ∷ xs)))) (ghash h xs)
