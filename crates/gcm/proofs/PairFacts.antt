-- Sums of 256 bits in three vectors of two halves.
use Rattle.std.proofs.Common.{◌≡◌, ℕ, zero, suc, ◌+◌, ◌-◌, ◌*◌, ◌/◌, ◌%◌, ◌^◌, ◌<◌, List, [], ◌∷◌, length, get_or}
use Rattle.std.proofs.Common.{bit_xor, mul_assoc, refl, sym, ap, ◌∙◌, arith}
use Rattle.std.specs.Int.Bits.{xor_zero_r, xor_comm, xor_assoc, xor_lt, xor_shifted, xor_mod}
use Rattle.std.specs.Simd.Lanes.{digits_l, zip2}
use Rattle.std.proofs.Math.Nat.{mul_comm, mul-div_cancel}
use Rattle.std.proofs.lemmas.Nat.{mod_below, pow-add, pow_pos, shr-shr, shr_split}
use Rattle.std.proofs.lemmas.Simd.{get_or-zip2}
use Rattle.aes_block.proofs.XorFacts.{xor_four, xor_left_comm}
use Rattle.gcm.specs.Rows.{by_powers, octet_at, pair, sum_of, xor_sum}
use Rattle.gcm.specs.Field.{times_low}
use Rattle.gcm.proofs.SumFacts.{octet_in_vector, xor_shl, xor_sum_same}
use Rattle.gcm.proofs.TableFacts.{reduced_is, row_number, shifted_rows}

-- ---- one row shifted

-- a half that is shifted right by n, and what leaves it
half_moved : (x n : ℕ) → n < 64 → x * 2 ^ (64 - n) ≡ bit_xor (x / 2 ^ n * 2 ^ 64) (x * 2 ^ (64 - n) % 2 ^ 64)
half_moved x n lt =
    let y : ℕ = x * 2 ^ (64 - n) in
    let whole : 64 - n + n ≡ 64 = omega arith in
    let upper : y / 2 ^ 64 ≡ x / 2 ^ n =
    sym (ap (λ (k : ℕ). y / 2 ^ k) whole) ∙ sym (shr-shr y (64 - n) n)
    ∙ ap (λ (z : ℕ). z / 2 ^ n) (mul-div_cancel x (pow_pos (64 - n))) in
    sym (shr_split y 64) ∙ sym (xor_shifted (y / 2 ^ 64) 64 (y % 2 ^ 64) (mod_below y (2 ^ 64) (pow_pos 64)))
    ∙ ap (λ (z : ℕ). bit_xor (z * 2 ^ 64) (y % 2 ^ 64)) upper

turned_powers : (x a b : ℕ) → x * 2 ^ a * 2 ^ b ≡ x * 2 ^ b * 2 ^ a
turned_powers x a b =
    mul_assoc x (2 ^ a) (2 ^ b) ∙ ap (λ (q : ℕ). x * q) (mul_comm (2 ^ a) (2 ^ b)) ∙ sym (mul_assoc x (2 ^ b) (2 ^ a))

abbrev right : List ℕ → ℕ → List ℕ
right r n = zip2 (λ a b. a / 2 ^ b) r (n ∷ n ∷ [])

abbrev left : List ℕ → ℕ → List ℕ
left r n = zip2 (λ a b. a * 2 ^ b % 2 ^ 64) r (n ∷ n ∷ [])

moved : (r : List ℕ) (n : ℕ) → length r ≡ 2 → n < 64
    → pair r * 2 ^ (64 - n) ≡ bit_xor (pair (right r n) * 2 ^ 64) (pair (left r (64 - n)))
moved r n long lt =
    let m : ℕ = 64 - n in
    let r0 : ℕ = get_or r 0 0 in
    let r1 : ℕ = get_or r 1 0 in
    let s0 : get_or (right r n) 0 0 ≡ r0 / 2 ^ n = get_or-zip2 (λ a b. a / 2 ^ b) r (n ∷ n ∷ []) 0 0 0 0
    (omega arith) (omega arith) in
    let s1 : get_or (right r n) 1 0 ≡ r1 / 2 ^ n = get_or-zip2 (λ a b. a / 2 ^ b) r (n ∷ n ∷ []) 1 0 0 0
    (omega arith) (omega arith) in
    let l0 : get_or (left r m) 0 0 ≡ r0 * 2 ^ m % 2 ^ 64 = get_or-zip2 (λ a b. a * 2 ^ b % 2 ^ 64) r
    (m ∷ m ∷ []) 0 0 0 0 (omega arith) (omega arith) in
    let l1 : get_or (left r m) 1 0 ≡ r1 * 2 ^ m % 2 ^ 64 = get_or-zip2 (λ a b. a * 2 ^ b % 2 ^ 64) r
    (m ∷ m ∷ []) 1 0 0 0 (omega arith) (omega arith) in
    let high : r1 * 2 ^ 64 * 2 ^ m ≡ bit_xor (get_or (right r n) 1 0 * 2 ^ 64 * 2 ^ 64) (get_or
    (left r m) 1 0 * 2 ^ 64) =
    turned_powers r1 64 m ∙ ap (λ (z : ℕ). z * 2 ^ 64) (half_moved r1 n lt)
    ∙ xor_shl (r1 / 2 ^ n * 2 ^ 64) (r1 * 2 ^ m % 2 ^ 64) 64
    ∙ ap (λ (z : ℕ). bit_xor (z * 2 ^ 64 * 2 ^ 64) (r1 * 2 ^ m % 2 ^ 64 * 2 ^ 64)) (sym s1)
    ∙ ap (λ (z : ℕ). bit_xor (get_or (right r n) 1 0 * 2 ^ 64 * 2 ^ 64) (z * 2 ^ 64)) (sym l1) in
    let low : r0 * 2 ^ m ≡ bit_xor (get_or (right r n) 0 0 * 2 ^ 64) (get_or (left r m) 0 0) =
    half_moved r0 n lt ∙ ap (λ (z : ℕ). bit_xor (z * 2 ^ 64) (r0 * 2 ^ m % 2 ^ 64)) (sym s0)
    ∙ ap (bit_xor (get_or (right r n) 0 0 * 2 ^ 64)) (sym l0) in
    xor_shl (r1 * 2 ^ 64) r0 m ∙ ap (λ (z : ℕ). bit_xor z (r0 * 2 ^ m)) high
    ∙ ap (bit_xor (bit_xor (get_or (right r n) 1 0 * 2 ^ 64 * 2 ^ 64) (get_or (left r m) 1 0 * 2 ^ 64))) low
    ∙ xor_four (get_or (right r n) 1 0 * 2 ^ 64 * 2 ^ 64) (get_or (left r m) 1 0 * 2 ^ 64) (get_or
    (right r n) 0 0 * 2 ^ 64) (get_or (left r m) 0 0)
    ∙ ap (λ (z : ℕ). bit_xor z (pair (left r m))) (sym (xor_shl (get_or (right r n) 1 0 * 2 ^ 64) (get_or
    (right r n) 0 0) 64))

-- ---- two rows more

pair_sum : (u v : List ℕ) → length u ≡ 2 → length v ≡ 2 → pair (zip2 bit_xor u v) ≡ bit_xor (pair u) (pair v)
pair_sum u v lu lv =
    let z0 : get_or (zip2 bit_xor u v) 0 0 ≡ bit_xor (get_or u 0 0) (get_or v 0 0) = get_or-zip2 bit_xor u v 0 0 0 0
    (omega arith) (omega arith) in
    let z1 : get_or (zip2 bit_xor u v) 1 0 ≡ bit_xor (get_or u 1 0) (get_or v 1 0) = get_or-zip2 bit_xor u v 1 0 0 0
    (omega arith) (omega arith) in
    ap (λ (z : ℕ). bit_xor (z * 2 ^ 64) (get_or (zip2 bit_xor u v) 0 0)) z1
    ∙ ap (λ (z : ℕ). bit_xor (bit_xor (get_or u 1 0) (get_or v 1 0) * 2 ^ 64) z) z0
    ∙ ap (λ (z : ℕ). bit_xor z (bit_xor (get_or u 0 0) (get_or v 0 0))) (xor_shl (get_or u 1 0) (get_or v 1 0) 64)
    ∙ xor_four (get_or u 1 0 * 2 ^ 64) (get_or v 1 0 * 2 ^ 64) (get_or u 0 0) (get_or v 0 0)

length-halves : (f : ℕ → ℕ → ℕ) (r : List ℕ) (n : ℕ) → length r ≡ 2 → length (zip2 f r (n ∷ n ∷ [])) ≡ 2
length-halves f [] n long = absurd (omega arith)
length-halves f (a ∷ []) n long = absurd (omega arith)
length-halves f (a ∷ b ∷ []) n long = refl
length-halves f (a ∷ b ∷ c ∷ r) n long = absurd (omega arith)

length-both : (f : ℕ → ℕ → ℕ) (u v : List ℕ) → length u ≡ 2 → length v ≡ 2 → length (zip2 f u v) ≡ 2
length-both f (a ∷ b ∷ []) (c ∷ d ∷ []) lu lv = refl
length-both f [] v lu lv = absurd (omega arith)
length-both f (a ∷ []) v lu lv = absurd (omega arith)
length-both f (a ∷ b ∷ c ∷ u) v lu lv = absurd (omega arith)
length-both f (a ∷ b ∷ []) [] lu lv = absurd (omega arith)
length-both f (a ∷ b ∷ []) (c ∷ []) lu lv = absurd (omega arith)
length-both f (a ∷ b ∷ []) (c ∷ d ∷ e ∷ v) lu lv = absurd (omega arith)

sorted : (a s m l t u v : ℕ)
    → bit_xor (bit_xor a s) (bit_xor (bit_xor (bit_xor m l) t) (bit_xor u v))
    ≡ bit_xor (bit_xor a (bit_xor m u)) (bit_xor (bit_xor s l) (bit_xor t v))
sorted a s m l t u v = simp (xor_assoc, xor_left_comm) refl

pub rows_more : (high middle low upper lower : List ℕ) (n : ℕ) → length high ≡ 2 → length middle ≡ 2 → length low ≡ 2
    → length upper ≡ 2 → length lower ≡ 2 → n < 64
    → sum_of (zip2 bit_xor high (right upper n)) (zip2 bit_xor (zip2 bit_xor middle (left upper (64 - n)))
    (right lower n))
    (zip2 bit_xor low (left lower (64 - n)))
    ≡ bit_xor (sum_of high middle low) (bit_xor (pair upper * 2 ^ (128 - n)) (pair lower * 2 ^ (64 - n)))
rows_more high middle low upper lower n lh lm ll lu lw lt =
    let s : ℕ = pair (right upper n) in
    let l : ℕ = pair (left upper (64 - n)) in
    let t : ℕ = pair (right lower n) in
    let v : ℕ = pair (left lower (64 - n)) in
    let powers : 64 - n + 64 ≡ 128 - n = omega arith in
    let above : pair upper * 2 ^ (128 - n) ≡ bit_xor (s * 2 ^ 128) (l * 2 ^ 64) =
    sym (ap (λ (k : ℕ). pair upper * 2 ^ k) powers) ∙ ap (λ (q : ℕ). pair upper * q) (pow-add 2 (64 - n) 64)
    ∙ sym (mul_assoc (pair upper) (2 ^ (64 - n)) (2 ^ 64)) ∙ ap (λ (z : ℕ). z * 2 ^ 64) (moved upper n lu lt)
    ∙ xor_shl (s * 2 ^ 64) l 64 ∙ ap (λ (z : ℕ). bit_xor z (l * 2 ^ 64)) (mul_assoc s (2 ^ 64) (2 ^ 64)) in
    let below : pair lower * 2 ^ (64 - n) ≡ bit_xor (t * 2 ^ 64) v = moved lower n lw lt in
    let h_is : pair (zip2 bit_xor high (right upper n))
    ≡ bit_xor (pair high) s = pair_sum high (right upper n) lh (length-halves _ upper n lu) in
    let ml : length (zip2 bit_xor middle (left upper (64 - n)))
    ≡ 2 = length-both bit_xor middle (left upper (64 - n)) lm (length-halves _ upper (64 - n) lu) in
    let m_is : pair (zip2 bit_xor (zip2 bit_xor middle (left upper (64 - n))) (right lower n))
    ≡ bit_xor (bit_xor (pair middle) l) t =
    pair_sum (zip2 bit_xor middle (left upper (64 - n))) (right lower n) ml (length-halves _ lower n lw)
    ∙ ap (λ (z : ℕ). bit_xor z t) (pair_sum middle (left upper (64 - n)) lm (length-halves _ upper (64 - n) lu)) in
    let l_is : pair (zip2 bit_xor low (left lower (64 - n)))
    ≡ bit_xor (pair low) v = pair_sum low (left lower (64 - n)) ll (length-halves _ lower (64 - n) lw) in
    ap (λ (z : ℕ). bit_xor (z * 2 ^ 128) (bit_xor (pair (zip2 bit_xor (zip2 bit_xor middle (left upper (64 - n)))
    (right lower n)) * 2 ^ 64) (pair (zip2 bit_xor low (left lower (64 - n)))))) h_is
    ∙ ap (λ (z : ℕ). bit_xor (bit_xor (pair high) s * 2 ^ 128) (bit_xor (z * 2 ^ 64) (pair (zip2 bit_xor low
    (left lower (64 - n)))))) m_is
    ∙ ap (λ (z : ℕ). bit_xor (bit_xor (pair high) s * 2 ^ 128) (bit_xor (bit_xor (bit_xor
    (pair middle) l) t * 2 ^ 64) z)) l_is
    ∙ ap (λ (z : ℕ). bit_xor z (bit_xor (bit_xor (bit_xor (pair middle) l) t * 2 ^ 64) (bit_xor (pair low) v)))
    (xor_shl (pair high) s 128)
    ∙ ap (λ (z : ℕ). bit_xor (bit_xor (pair high * 2 ^ 128) (s * 2 ^ 128)) (bit_xor z (bit_xor (pair low) v)))
    (xor_shl (bit_xor (pair middle) l) t 64 ∙ ap (λ (z : ℕ). bit_xor z (t * 2 ^ 64)) (xor_shl (pair middle) l 64))
    ∙ sorted (pair high * 2 ^ 128) (s * 2 ^ 128) (pair middle * 2 ^ 64) (l * 2 ^ 64) (t * 2 ^ 64) (pair low) v
    ∙ ap (λ (z : ℕ). bit_xor (sum_of high middle low) (bit_xor z (bit_xor (t * 2 ^ 64) v))) (sym above)
    ∙ ap (λ (z : ℕ). bit_xor (sum_of high middle low) (bit_xor (pair upper * 2 ^ (128 - n)) z)) (sym below)

-- ---- the reduction

joined_sorted : (h1 h0 m1 l1 m0 l0 : ℕ)
    → bit_xor (bit_xor h1 (bit_xor h0 m1)) (bit_xor (bit_xor l1 m0) l0)
    ≡ bit_xor (bit_xor h1 h0) (bit_xor (bit_xor m1 m0) (bit_xor l1 l0))
joined_sorted h1 h0 m1 l1 m0 l0 = simp (xor_assoc, xor_left_comm) refl

pub reduced_sum : (high middle low : List ℕ) (upper rest : ℕ)
    → get_or high 0 0 < 2 ^ 64 → get_or middle 0 0 < 2 ^ 64 → get_or middle 1 0 < 2 ^ 64 → get_or low 0 0 < 2 ^ 64
    → get_or low 1 0 < 2 ^ 64
    → upper ≡ get_or high 1 0 * 2 ^ 64 + bit_xor (get_or high 0 0) (get_or middle 1 0)
    → rest ≡ bit_xor (get_or low 1 0) (get_or middle 0 0) * 2 ^ 64 + get_or low 0 0
    → sum_of high middle low % 2 ^ 8 ≡ 0
    → bit_xor (bit_xor (bit_xor upper rest) (rest / 2)) (bit_xor (rest / 4) (rest / 128))
    ≡ by_powers 128 (sum_of high middle low)
reduced_sum high middle low upper rest fh0 fm0 fm1 fl0 fl1 upper_is rest_is none =
    let h0 : ℕ = get_or high 0 0 in
    let h1 : ℕ = get_or high 1 0 in
    let m0 : ℕ = get_or middle 0 0 in
    let m1 : ℕ = get_or middle 1 0 in
    let l0 : ℕ = get_or low 0 0 in
    let l1 : ℕ = get_or low 1 0 in
    let small : bit_xor l1 m0 < 2 ^ 64 = xor_lt 64 l1 m0 fl1 fm0 in
    let fits : rest < 2 ^ 128 = omega arith in
    let upper_sum : upper * 2 ^ 128 ≡ bit_xor (h1 * 2 ^ 64 * 2 ^ 128) (bit_xor (h0 * 2 ^ 128) (m1 * 2 ^ 128)) =
    ap (λ (z : ℕ). z * 2 ^ 128) (upper_is ∙ sym (xor_shifted h1 64 (bit_xor h0 m1) (xor_lt 64 h0 m1 fh0 fm1)))
    ∙ xor_shl (h1 * 2 ^ 64) (bit_xor h0 m1) 128 ∙ ap (bit_xor (h1 * 2 ^ 64 * 2 ^ 128)) (xor_shl h0 m1 128) in
    let rest_sum : rest ≡ bit_xor (bit_xor (l1 * 2 ^ 64) (m0 * 2 ^ 64)) l0 =
    rest_is ∙ sym (xor_shifted (bit_xor l1 m0) 64 l0 fl0) ∙ ap (λ (z : ℕ). bit_xor z l0) (xor_shl l1 m0 64) in
    let all : sum_of high middle low ≡ bit_xor (bit_xor (h1 * 2 ^ 64 * 2 ^ 128) (h0 * 2 ^ 128)) (bit_xor (bit_xor
    (m1 * 2 ^ 128) (m0 * 2 ^ 64)) (bit_xor (l1 * 2 ^ 64) l0)) =
    ap (λ (z : ℕ). bit_xor z (bit_xor (pair middle * 2 ^ 64) (pair low))) (xor_shl (h1 * 2 ^ 64) h0 128)
    ∙ ap (λ (z : ℕ). bit_xor (bit_xor (h1 * 2 ^ 64 * 2 ^ 128) (h0 * 2 ^ 128)) (bit_xor z (pair low)))
    (xor_shl (m1 * 2 ^ 64) m0 64 ∙ ap (λ (z : ℕ). bit_xor z (m0 * 2 ^ 64)) (mul_assoc m1 (2 ^ 64) (2 ^ 64))) in
    let whole : bit_xor (upper * 2 ^ 128) rest ≡ sum_of high middle low =
    ap (λ (z : ℕ). bit_xor z rest) upper_sum
    ∙ ap (bit_xor (bit_xor (h1 * 2 ^ 64 * 2 ^ 128) (bit_xor (h0 * 2 ^ 128) (m1 * 2 ^ 128)))) rest_sum
    ∙ joined_sorted (h1 * 2 ^ 64 * 2 ^ 128) (h0 * 2 ^ 128) (m1 * 2 ^ 128) (l1 * 2 ^ 64) (m0 * 2 ^ 64) l0 ∙ sym all in
    reduced_is upper rest fits (ap (λ (z : ℕ). z % 2 ^ 8) whole ∙ none) ∙ ap (by_powers 128) whole

-- ---- the product

pub row_of_product : (octets : List ℕ) (a h i : ℕ) → octets ≡ digits_l 256 16 a
    → xor_sum (λ p. octet_at (times_low 8 (get_or octets p 0) h) i * 2 ^ (8 * p)) 16 ≡ row_number a h i
row_of_product octets a h i is =
    xor_sum_same (λ p. octet_at (times_low 8 (get_or octets p 0) h) i * 2 ^ (8 * p))
    (λ p. octet_at (times_low 8 (octet_at a p) h) i * 2 ^ (8 * p)) 16
    (λ p lt.
    ap (λ (o : ℕ). octet_at (times_low 8 o h) i * 2 ^ (8 * p))
    (ap (λ (l : List ℕ). get_or l p 0) is ∙ octet_in_vector 16 a p lt))

-- the rows of the upper half and of the lower, each from the highest down
abbrev pub rows_down : ℕ → ℕ → ℕ → ℕ
rows_down a h n = bit_xor (xor_sum (λ k. shifted_rows a h (15 - k)) n) (xor_sum (λ k. shifted_rows a h (7 - k)) n)

pub first_rows : (a h : ℕ) (upper lower : List ℕ) → pair upper ≡ row_number a h 15 → pair lower ≡ row_number a h 7
    → sum_of upper lower (0 ∷ 0 ∷ []) ≡ rows_down a h 1
unfolding xor_sum
first_rows a h upper lower is_upper is_lower =
    ap (λ (z : ℕ). bit_xor (z * 2 ^ 128) (bit_xor (pair lower * 2 ^ 64) 0)) is_upper
    ∙ ap (λ (z : ℕ). bit_xor (row_number a h 15 * 2 ^ 128) (bit_xor (z * 2 ^ 64) 0)) is_lower
    ∙ ap (λ (z : ℕ). bit_xor z (bit_xor (row_number a h 7 * 2 ^ 64) 0)) (sym (xor_zero_r (row_number a h 15 * 2 ^ 128)))

pub next_rows : (a h i so_far : ℕ) (upper lower : List ℕ) → i < 8 → pair upper ≡ row_number a h (15 - i)
    → pair lower ≡ row_number a h (7 - i) → so_far ≡ rows_down a h i
    → bit_xor so_far (bit_xor (pair upper * 2 ^ (128 - 8 * i)) (pair lower * 2 ^ (64 - 8 * i))) ≡ rows_down a h (i + 1)
unfolding xor_sum
next_rows a h i so_far upper lower lt is_upper is_lower is =
    let f : ℕ → ℕ = λ k. shifted_rows a h (15 - k) in
    let g : ℕ → ℕ = λ k. shifted_rows a h (7 - k) in
    let at_upper : 128 - 8 * i ≡ 8 * (15 - i + 1) = omega arith in
    let at_lower : 64 - 8 * i ≡ 8 * (7 - i + 1) = omega arith in
    let count : suc i ≡ i + 1 = omega arith in
    let u : pair upper * 2 ^ (128 - 8 * i) ≡ f i =
    ap (λ (z : ℕ). z * 2 ^ (128 - 8 * i)) is_upper ∙ ap (λ (k : ℕ). row_number a h (15 - i) * 2 ^ k) at_upper in
    let l : pair lower * 2 ^ (64 - 8 * i) ≡ g i =
    ap (λ (z : ℕ). z * 2 ^ (64 - 8 * i)) is_lower ∙ ap (λ (k : ℕ). row_number a h (7 - i) * 2 ^ k) at_lower in
    ap (λ (z : ℕ). bit_xor z (bit_xor (pair upper * 2 ^ (128 - 8 * i)) (pair lower * 2 ^ (64 - 8 * i)))) is
    ∙ ap (λ (z : ℕ). bit_xor (rows_down a h i) (bit_xor z (pair lower * 2 ^ (64 - 8 * i)))) u
    ∙ ap (λ (z : ℕ). bit_xor (rows_down a h i) (bit_xor (f i) z)) l
    ∙ xor_comm (rows_down a h i) (bit_xor (f i) (g i))
    ∙ xor_four (f i) (g i) (xor_sum f i) (xor_sum g i)
    ∙ ap (rows_down a h) count

sixteen : (f0 f1 f2 f3 f4 f5 f6 f7 f8 f9 f10 f11 f12 f13 f14 f15 : ℕ)
    → bit_xor (bit_xor f8 (bit_xor f9 (bit_xor f10 (bit_xor f11 (bit_xor f12 (bit_xor f13 (bit_xor f14
    (bit_xor f15 0)))))))) (bit_xor f0 (bit_xor f1 (bit_xor f2 (bit_xor f3 (bit_xor f4 (bit_xor f5 (bit_xor f6
    (bit_xor f7 0))))))))
    ≡ bit_xor f15 (bit_xor f14 (bit_xor f13 (bit_xor f12 (bit_xor f11 (bit_xor f10 (bit_xor f9 (bit_xor f8
    (bit_xor f7 (bit_xor f6 (bit_xor f5 (bit_xor f4 (bit_xor f3 (bit_xor f2 (bit_xor f1 (bit_xor f0 0)))))))))))))))
sixteen f0 f1 f2 f3 f4 f5 f6 f7 f8 f9 f10 f11 f12 f13 f14 f15 = simp (xor_assoc, xor_left_comm, xor_comm) refl

all_rows : (f : ℕ → ℕ) → bit_xor (xor_sum (λ k. f (15 - k)) 8) (xor_sum (λ k. f (7 - k)) 8) ≡ xor_sum f 16
unfolding xor_sum
all_rows f =
    sixteen (f 0) (f 1) (f 2) (f 3) (f 4) (f 5) (f 6) (f 7) (f 8) (f 9) (f 10) (f 11) (f 12) (f 13) (f 14) (f 15)

octet_free : (f : ℕ → ℕ) (n : ℕ) → ((i : ℕ) → f i % 2 ^ 8 ≡ 0) → xor_sum f n % 2 ^ 8 ≡ 0
unfolding xor_sum
octet_free f zero none = refl
octet_free f (suc n) none =
    xor_mod (f n) (xor_sum f n) 8 ∙ ap (λ (z : ℕ). bit_xor z (xor_sum f n % 2 ^ 8)) (none n) ∙ octet_free f n none

row_octet_free : (a h i : ℕ) → shifted_rows a h i % 2 ^ 8 ≡ 0
row_octet_free a h i =
    let place : 8 * (i + 1) ≡ 8 * i + 8 = omega arith in
    let apart : shifted_rows a h i ≡ row_number a h i * 2 ^ (8 * i) * 2 ^ 8 =
    ap (λ (k : ℕ). row_number a h i * 2 ^ k) place ∙ ap (λ (q : ℕ). row_number a h i * q) (pow-add 2 (8 * i) 8)
    ∙ sym (mul_assoc (row_number a h i) (2 ^ (8 * i)) (2 ^ 8)) in
    omega (arith, apart)

pub all_rows_are : (a h i s : ℕ) → i ≡ 8 → s ≡ rows_down a h i → s ≡ xor_sum (shifted_rows a h) 16
all_rows_are a h i s all is = is ∙ ap (rows_down a h) all ∙ all_rows (shifted_rows a h)

pub rows_octet_free : (a h i s : ℕ) → i ≡ 8 → s ≡ rows_down a h i → s % 2 ^ 8 ≡ 0
rows_octet_free a h i s all is =
    ap (λ (z : ℕ). z % 2 ^ 8) (all_rows_are a h i s all is) ∙ octet_free (shifted_rows a h) 16 (row_octet_free a h)
