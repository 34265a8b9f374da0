-- Multiples of an element of GF(2^128) laid out by octets, and sums of 256 bits in three vectors (SP 800-38D, 6.3).
use Rattle.std.specs.Prelude.{◌≡◌, ℕ, zero, suc, ◌*◌, ◌/◌, ◌%◌, ◌<◌, ◌^◌, List, [], slice_index, slice_index_or}
use Rattle.std.specs.Prelude.{bit_xor}
use Rattle.gcm.specs.Field.{by_x, times_low}

-- v times x^n
unfoldable pub by_powers : ℕ → ℕ → ℕ
by_powers zero v = v
by_powers (suc n) v = by_powers n (by_x v)

-- octet i of n, counted from the lowest
abbrev pub octet_at : ℕ → ℕ → ℕ
octet_at n i = n / 2 ^ (8 * i) % 2 ^ 8

-- in lane k octet i of the multiple of v by the four bits of k, the highest of which is the coefficient of 1
abbrev pub IsRow : ℕ → ℕ → List ℕ → Type 0
IsRow v i row = (k : ℕ) → k < 16 → slice_index row k ≡ octet_at (times_low 4 k v) i

abbrev pub AreRows : ℕ → List (List ℕ) → Type 0
AreRows v rows = (i : ℕ) → i < 16 → IsRow v i (slice_index_or rows i [])

-- the rows of a hash subkey: for the upper four bits of an octet, and for the lower
pub record IsTable (h : ℕ) (upper lower : List (List ℕ)) : Type 0 where
  pub fits : h < 2 ^ 128
  pub upper_rows : AreRows h upper
  pub lower_rows : AreRows (by_powers 4 h) lower

-- f 0 to f (n - 1), added in the field
unfoldable pub xor_sum : (ℕ → ℕ) → ℕ → ℕ
xor_sum f zero = 0
xor_sum f (suc n) = bit_xor (f n) (xor_sum f n)

-- the number in two halves
abbrev pub pair : List ℕ → ℕ
pair halves = bit_xor (slice_index halves 1 * 2 ^ 64) (slice_index halves 0)

-- the number whose upper, middle and lower halves are added up apart
abbrev pub sum_of : List ℕ → List ℕ → List ℕ → ℕ
sum_of high middle low = bit_xor (pair high * 2 ^ 128) (bit_xor (pair middle * 2 ^ 64) (pair low))
