-- The product as a sum over the octets of the products of octets, and its reduction.
use Rattle.std.proofs.Common.{◌≡◌, ℕ, zero, suc, ◌+◌, ◌*◌, ◌/◌, ◌%◌, ◌^◌, ◌<◌, ◌≤◌, bit_xor, mul_assoc, refl, sym, ap}
use Rattle.std.proofs.Common.{◌∙◌, arith}
use Rattle.std.specs.Int.{bit_at}
use Rattle.std.specs.Int.Bits.{xor_zero_l, xor_zero_r, xor_assoc, xor_mod}
use Rattle.std.proofs.Math.Nat.{pow-suc}
use Rattle.std.proofs.lemmas.Nat.{pow-add, shr-shr, shr_split}
use Rattle.std.proofs.lemmas.Nat.Bits.{bit_at_cat_low}
use Rattle.gcm.specs.Field.{reduced, by_x, one, block_product, times_low}
use Rattle.gcm.specs.Rows.{by_powers, octet_at, xor_sum}
use Rattle.gcm.proofs.FieldFacts.{by_x_sum, times_by_x, times_low_lt, times_one, times_sum_right}
use Rattle.gcm.proofs.SumFacts.{octets_whole, xor_sum_same, xor_sum_shl, xor_sum_swap}

-- ---- times powers of x

powers_sum : (m v w : ℕ) → by_powers m (bit_xor v w) ≡ bit_xor (by_powers m v) (by_powers m w)
unfolding by_powers
powers_sum zero v w = refl
powers_sum (suc m) v w = ap (by_powers m) (by_x_sum v w) ∙ powers_sum m (by_x v) (by_x w)

times_powers : (n a m v : ℕ) → times_low n a (by_powers m v) ≡ by_powers m (times_low n a v)
unfolding by_powers
times_powers n a zero v = refl
times_powers n a (suc m) v = times_powers n a m (by_x v) ∙ ap (by_powers m) (times_by_x n a v)

mul-out : (v p : ℕ) → v * (p * 2) ≡ v * p * 2
mul-out v p = sym (mul_assoc v p 2)

-- what has m zeros at its end moves without a rest
powers_shifted : (m v : ℕ) → by_powers m (v * 2 ^ m) ≡ v
unfolding by_powers
powers_shifted zero v = let e : v * 1 ≡ v = omega arith in e
powers_shifted (suc m) v =
    let twice : v * 2 ^ suc m ≡ v * 2 ^ m * 2 = ap (λ (p : ℕ). v * p) (pow-suc 2 m) ∙ mul-out v (2 ^ m) in
    let half : v * 2 ^ suc m / 2 ≡ v * 2 ^ m = omega arith in
    let even : v * 2 ^ suc m % 2 ≡ 0 = omega arith in
    let step : by_x (v * 2 ^ suc m) ≡ v * 2 ^ m =
    ap (λ (h : ℕ). bit_xor h (v * 2 ^ suc m % 2 * reduced)) half
    ∙ ap (λ (e : ℕ). bit_xor (v * 2 ^ m) (e * reduced)) even ∙ xor_zero_r (v * 2 ^ m) in
    ap (by_powers m) step ∙ powers_shifted m v

powers_by_x : (m v : ℕ) → by_powers m (by_x v) ≡ by_x (by_powers m v)
unfolding by_powers
powers_by_x zero v = refl
powers_by_x (suc m) v = powers_by_x m (by_x v)

powers_more : (m n v : ℕ) → by_powers (m + n) v ≡ by_powers m (by_powers n v)
unfolding by_powers
powers_more zero n v = let none : zero + n ≡ n = omega arith in ap (λ k. by_powers k v) none
powers_more (suc m) n v =
    let more : suc m + n ≡ suc (m + n) = omega arith in
    ap (λ k. by_powers k v) more ∙ powers_more m n (by_x v) ∙ ap (by_powers m) (powers_by_x n v)

-- ---- the product by parts

-- the upper m of m + n bits, and the lower n
parts : (m n a v : ℕ) → times_low (m + n) a v ≡ bit_xor (times_low m (a / 2 ^ n) v) (times_low n a (by_powers m v))
unfolding times_low by_powers
parts zero n a v =
    let none : zero + n ≡ n = omega arith in
    ap (λ (k : ℕ). times_low k a v) none ∙ sym (xor_zero_l (times_low n a v))
parts (suc m) n a v =
    let more : suc m + n ≡ suc (m + n) = omega arith in
    let turned : m + n ≡ n + m = omega arith in
    let bit : bit_at a (m + n) ≡ bit_at (a / 2 ^ n) m = ap (bit_at a) turned
    ∙ ap (λ (q : ℕ). q % 2) (sym (shr-shr a n m)) in
    ap (λ (k : ℕ). times_low k a v) more
    ∙ ap (λ (b : ℕ). bit_xor (b * v) (times_low (m + n) a (by_x v))) bit
    ∙ ap (bit_xor (bit_at (a / 2 ^ n) m * v)) (parts m n a (by_x v))
    ∙ sym (xor_assoc (bit_at (a / 2 ^ n) m * v) (times_low m (a / 2 ^ n) (by_x v)) (times_low n a (by_powers m
    (by_x v))))

-- bits above those that count are free
low_bits : (n k a v : ℕ) → n ≤ k → times_low n (a % 2 ^ k) v ≡ times_low n a v
unfolding times_low
low_bits zero k a v le = refl
low_bits (suc n) k a v le =
    let bit : bit_at (a % 2 ^ k) n ≡ bit_at a n =
    sym (bit_at_cat_low (a / 2 ^ k) k (a % 2 ^ k) n (omega arith)) ∙ ap (λ (b : ℕ). bit_at b n) (shr_split a k) in
    ap (λ (b : ℕ). bit_xor (b * v) (times_low n (a % 2 ^ k) (by_x v))) bit
    ∙ ap (bit_xor (bit_at a n * v)) (low_bits n k a (by_x v) (omega arith))

-- an octet by its two halves
pub octet_is : (h x : ℕ) → bit_xor (times_low 4 (x / 16) h) (times_low 4 (x % 16) (by_powers 4 h)) ≡ times_low 8 x h
octet_is h x =
    ap (bit_xor (times_low 4 (x / 16) h)) (low_bits 4 4 x (by_powers 4 h) (omega arith)) ∙ sym (parts 4 4 x h)

-- one octet more of the first factor
pub octets_more : (i a h x z : ℕ) → x ≡ a / 2 ^ (8 * i) % 256 → z ≡ times_low (8 * i) a h
    → bit_xor (times_low 8 x h) (by_powers 8 z) ≡ times_low (8 * (i + 1)) a h
octets_more i a h x z octet so_far =
    let n : ℕ = 8 * i in
    let more : 8 + n ≡ 8 * (i + 1) = omega arith in
    ap (λ (y : ℕ). bit_xor (times_low 8 y h) (by_powers 8 z)) octet
    ∙ ap (λ (t : ℕ). bit_xor t (by_powers 8 z)) (low_bits 8 8 (a / 2 ^ n) h (omega arith))
    ∙ ap (λ (t : ℕ). bit_xor (times_low 8 (a / 2 ^ n) h) (by_powers 8 t)) so_far
    ∙ ap (bit_xor (times_low 8 (a / 2 ^ n) h)) (sym (times_powers n a 8 h))
    ∙ sym (parts 8 n a h) ∙ ap (λ (k : ℕ). times_low k a h) more

-- ---- the product as a sum of shifted products of octets

-- each octet of a times h, higher by its place and an octet
abbrev pub shifted_products : ℕ → ℕ → ℕ → ℕ
shifted_products a h p = times_low 8 (octet_at a p) h * 2 ^ (8 * (p + 1))

product_below : (n a h : ℕ) → times_low (8 * n) a h ≡ by_powers (8 * n) (xor_sum (shifted_products a h) n)
unfolding times_low by_powers xor_sum
product_below zero a h = refl
product_below (suc n) a h =
    let t : ℕ = times_low 8 (octet_at a n) h in
    let s : ℕ = xor_sum (shifted_products a h) n in
    let count : 8 * (n + 1) ≡ 8 * suc n = omega arith in
    let split : 8 + 8 * n ≡ 8 * suc n = omega arith in
    sym (ap (λ m. times_low m a h) count)
    ∙ sym (octets_more n a h (octet_at a n) (times_low (8 * n) a h) refl refl)
    ∙ ap (λ z. bit_xor t (by_powers 8 z)) (product_below n a h)
    ∙ sym (ap (λ z. bit_xor z (by_powers 8 (by_powers (8 * n) s))) (powers_shifted (8 * (n + 1)) t))
    ∙ ap (λ m. bit_xor (by_powers m (t * 2 ^ (8 * (n + 1)))) (by_powers 8 (by_powers (8 * n) s))) count
    ∙ ap (bit_xor (by_powers (8 * suc n) (t * 2 ^ (8 * (n + 1))))) (sym (powers_more 8 (8 * n) s)
    ∙ ap (λ m. by_powers m s) split)
    ∙ sym (powers_sum (8 * suc n) (t * 2 ^ (8 * (n + 1))) s)

-- octet i of the products of all octets, each in its place
abbrev pub row_number : ℕ → ℕ → ℕ → ℕ
row_number a h i = xor_sum (λ p. octet_at (times_low 8 (octet_at a p) h) i * 2 ^ (8 * p)) 16

-- the rows, each higher by its place and an octet
abbrev pub shifted_rows : ℕ → ℕ → ℕ → ℕ
shifted_rows a h i = row_number a h i * 2 ^ (8 * (i + 1))

turned : (o i p : ℕ) → o * 2 ^ (8 * i) * 2 ^ (8 * (p + 1)) ≡ o * 2 ^ (8 * p) * 2 ^ (8 * (i + 1))
turned o i p =
    let same : 8 * i + 8 * (p + 1) ≡ 8 * p + 8 * (i + 1) = omega arith in
    mul_assoc o (2 ^ (8 * i)) (2 ^ (8 * (p + 1))) ∙ ap (λ (q : ℕ). o * q) (sym (pow-add 2 (8 * i) (8 * (p + 1))))
    ∙ ap (λ (q : ℕ). o * 2 ^ q) same
    ∙ ap (λ (q : ℕ). o * q) (pow-add 2 (8 * p) (8 * (i + 1))) ∙ sym (mul_assoc o (2 ^ (8 * p)) (2 ^ (8 * (i + 1))))

one_product : (a h p : ℕ) → h < 2 ^ 128
    → shifted_products a h p ≡ xor_sum (λ i. octet_at (times_low 8 (octet_at a p) h) i * 2 ^ (8 * p) * 2 ^ (8 *
    (i + 1))) 16
one_product a h p lh =
    let t : ℕ = times_low 8 (octet_at a p) h in
    ap (λ n. n * 2 ^ (8 * (p + 1))) (sym (octets_whole t 16 (times_low_lt 8 (octet_at a p) h lh)))
    ∙ xor_sum_shl (λ i. octet_at t i * 2 ^ (8 * i)) 16 (8 * (p + 1))
    ∙ xor_sum_same (λ i. octet_at t i * 2 ^ (8 * i) * 2 ^ (8 * (p + 1))) (λ i. octet_at t i * 2 ^ (8 * p) * 2 ^ (8 *
    (i + 1))) 16
    (λ i lt. turned (octet_at t i) i p)

pub product_is : (a h : ℕ) → h < 2 ^ 128 → by_powers 128 (xor_sum (shifted_rows a h) 16) ≡ block_product a h
product_is a h lh =
    let t : ℕ → ℕ = λ p. times_low 8 (octet_at a p) h in
    let rows : xor_sum (shifted_rows a h) 16 ≡ xor_sum (shifted_products a h) 16 =
    xor_sum_same (shifted_rows a h) (λ i. xor_sum (λ p. octet_at (t p) i * 2 ^ (8 * p) * 2 ^ (8 * (i + 1))) 16) 16
    (λ i lt. xor_sum_shl (λ p. octet_at (t p) i * 2 ^ (8 * p)) 16 (8 * (i + 1)))
    ∙ xor_sum_swap (λ i p. octet_at (t p) i * 2 ^ (8 * p) * 2 ^ (8 * (i + 1))) 16 16
    ∙ xor_sum_same (λ p. xor_sum (λ i. octet_at (t p) i * 2 ^ (8 * p) * 2 ^ (8 * (i + 1))) 16) (shifted_products a h) 16
    (λ p lt. sym (one_product a h p lh)) in
    ap (by_powers 128) rows ∙ sym (product_below 16 a h)

-- ---- x^128

reduced_128 : by_powers 128 one ≡ bit_xor (bit_xor one (by_powers 1 one)) (bit_xor (by_powers 2 one) (by_powers 7 one))
unfolding by_powers
reduced_128 = refl

times_128 : (w : ℕ) → w < 2 ^ 128 → by_powers 128 w
    ≡ bit_xor (bit_xor w (by_powers 1 w)) (bit_xor (by_powers 2 w) (by_powers 7 w))
times_128 w lt =
    let at : (m : ℕ) → block_product w (by_powers m one) ≡ by_powers m w = λ m. times_powers 128 w m one
    ∙ ap (by_powers m) (times_one w lt) in
    sym (at 128) ∙ ap (block_product w) reduced_128
    ∙ times_sum_right 128 w (bit_xor one (by_powers 1 one)) (bit_xor (by_powers 2 one) (by_powers 7 one))
    ∙ ap (λ z. bit_xor z (block_product w (bit_xor (by_powers 2 one) (by_powers 7 one)))) (times_sum_right 128 w one
    (by_powers 1 one))
    ∙ ap (bit_xor (bit_xor (block_product w one) (block_product w (by_powers 1 one))))
    (times_sum_right 128 w (by_powers 2 one)
    (by_powers 7 one))
    ∙ rw (times_one w lt, at 1, at 2, at 7) refl

-- as far as the lowest octet is 0, no bit leaves
halved : (w m : ℕ) → w % 2 ^ m ≡ 0 → by_powers m w ≡ w / 2 ^ m
halved w m none =
    let whole : w ≡ w / 2 ^ m * 2 ^ m = sym (shr_split w m)
    ∙ (let e : w / 2 ^ m * 2 ^ m + w % 2 ^ m ≡ w / 2 ^ m * 2 ^ m = omega (arith, none) in e) in
    ap (by_powers m) whole ∙ powers_shifted m (w / 2 ^ m)

pub reduced_is : (upper rest : ℕ) → rest < 2 ^ 128 → bit_xor (upper * 2 ^ 128) rest % 2 ^ 8 ≡ 0
    → bit_xor (bit_xor (bit_xor upper rest) (rest / 2)) (bit_xor (rest / 4) (rest / 128))
    ≡ by_powers 128 (bit_xor (upper * 2 ^ 128) rest)
reduced_is upper rest lt none =
    let low : rest % 2 ^ 8 ≡ 0 =
    sym (xor_zero_l (rest % 2 ^ 8))
    ∙ ap (λ (z : ℕ). bit_xor z (rest % 2 ^ 8)) (let e : 0 ≡ upper * 2 ^ 128 % 2 ^ 8 = omega arith in e)
    ∙ sym (xor_mod (upper * 2 ^ 128) rest 8) ∙ none in
    xor_assoc (bit_xor upper rest) (rest / 2) (bit_xor (rest / 4) (rest / 128))
    ∙ xor_assoc upper rest (bit_xor (rest / 2) (bit_xor (rest / 4) (rest / 128)))
    ∙ ap (bit_xor upper)
    (sym (xor_assoc rest (rest / 2) (bit_xor (rest / 4) (rest / 128)))
    ∙ sym (times_128 rest lt
    ∙ rw (halved rest 1 (omega arith), halved rest 2 (omega arith), halved rest 7 (omega arith)) refl))
    ∙ sym (ap (λ z. bit_xor z (by_powers 128 rest)) (powers_shifted 128 upper))
    ∙ sym (powers_sum 128 (upper * 2 ^ 128) rest)
