-- The product in GF(2^128): linear on both sides, commutative, associative, with the unit `one`.
use Rattle.std.proofs.Common.{◌≡◌, ℕ, zero, suc, ◌+◌, ◌*◌, ◌/◌, ◌%◌, ◌^◌, ◌<◌, bit_xor, refl, sym, ap, ◌∙◌, arith, lit<}
use Rattle.std.specs.Int.{bit_at}
use Rattle.std.specs.Int.Bits.{xor_zero_r, xor_lt, xor_shr, xor_shifted}
use Rattle.std.proofs.Math.Nat.{zero-mul, one-mul, pow-suc, mod-eq_of_lt}
use Rattle.std.proofs.lemmas.Nat.{mod-pow-add, mod_below, pow_pos}
use Rattle.std.proofs.lemmas.Nat.Bits.{bit_at-lt, bit_at_lowest, bit_at-zero, bit_at_xor}
use Rattle.aes_block.proofs.XorFacts.{xor_four, sum_scale}
use Rattle.gcm.specs.Field.{reduced, by_x, times_low, block_product, one, power}

-- ---- sums and bits

-- a bit times a sum
scale_sum : (p v w : ℕ) → p < 2 → p * bit_xor v w ≡ bit_xor (p * v) (p * w)
scale_sum zero v w lt = simp zero-mul
scale_sum (suc zero) v w lt = simp one-mul
scale_sum (suc (suc p)) v w lt = absurd (omega arith)

-- ---- times x

low_bit_sum : (a b : ℕ) → bit_xor a b % 2 ≡ (a % 2 + b % 2) % 2
low_bit_sum a b =
    sym (bit_at_lowest (bit_xor a b)) ∙ bit_at_xor a b 0
    ∙ ap (λ (x : ℕ). (x + bit_at b 0) % 2) (bit_at_lowest a) ∙ ap (λ (x : ℕ). (a % 2 + x) % 2) (bit_at_lowest b)

pub by_x_sum : (v w : ℕ) → by_x (bit_xor v w) ≡ bit_xor (by_x v) (by_x w)
by_x_sum v w =
    let half : bit_xor v w / 2 ≡ bit_xor (v / 2) (w / 2) = xor_shr v w 1 in
    let low : bit_xor v w % 2 * reduced ≡ bit_xor (v % 2 * reduced) (w % 2 * reduced) =
    ap (λ (b : ℕ). b * reduced) (low_bit_sum v w) ∙ sum_scale (v % 2) (w % 2) reduced (omega arith) (omega arith) in
    ap (λ (x : ℕ). bit_xor x (bit_xor v w % 2 * reduced)) half
    ∙ ap (bit_xor (bit_xor (v / 2) (w / 2))) low
    ∙ xor_four (v / 2) (w / 2) (v % 2 * reduced) (w % 2 * reduced)

by_x_scale : (p v : ℕ) → p < 2 → by_x (p * v) ≡ p * by_x v
by_x_scale zero v lt = simp zero-mul
by_x_scale (suc zero) v lt = simp one-mul
by_x_scale (suc (suc p)) v lt = absurd (omega arith)

by_x_lt : (v : ℕ) → v < 2 ^ 128 → by_x v < 2 ^ 128
by_x_lt v lt = xor_lt 128 (v / 2) (v % 2 * reduced) (omega arith) (omega arith)

-- ---- the product is linear

pub times_sum_left : (n a b v : ℕ) → times_low n (bit_xor a b) v ≡ bit_xor (times_low n a v) (times_low n b v)
unfolding times_low
times_sum_left zero a b v = refl
times_sum_left (suc n) a b v =
    ap (λ (x : ℕ). bit_xor (x * v) (times_low n (bit_xor a b) (by_x v))) (bit_at_xor a b n)
    ∙ ap (λ (x : ℕ). bit_xor x (times_low n (bit_xor a b) (by_x v)))
    (sum_scale (bit_at a n) (bit_at b n) v (bit_at-lt a n) (bit_at-lt b n))
    ∙ ap (bit_xor (bit_xor (bit_at a n * v) (bit_at b n * v))) (times_sum_left n a b (by_x v))
    ∙ xor_four (bit_at a n * v) (bit_at b n * v) (times_low n a (by_x v)) (times_low n b (by_x v))

pub times_sum_right : (n a v w : ℕ) → times_low n a (bit_xor v w) ≡ bit_xor (times_low n a v) (times_low n a w)
unfolding times_low
times_sum_right zero a v w = refl
times_sum_right (suc n) a v w =
    ap (λ (x : ℕ). bit_xor x (times_low n a (by_x (bit_xor v w)))) (scale_sum (bit_at a n) v w (bit_at-lt a n))
    ∙ ap (λ (x : ℕ). bit_xor (bit_xor (bit_at a n * v) (bit_at a n * w)) (times_low n a x)) (by_x_sum v w)
    ∙ ap (bit_xor (bit_xor (bit_at a n * v) (bit_at a n * w))) (times_sum_right n a (by_x v) (by_x w))
    ∙ xor_four (bit_at a n * v) (bit_at a n * w) (times_low n a (by_x v)) (times_low n a (by_x w))

times_zero : (n a : ℕ) → times_low n a 0 ≡ 0
unfolding times_low
times_zero zero a = refl
times_zero (suc n) a =
    let none : bit_at a n * 0 ≡ 0 = omega arith in
    ap (λ (x : ℕ). bit_xor x (times_low n a 0)) none ∙ times_zero n a

pub zero_times : (n v : ℕ) → times_low n 0 v ≡ 0
unfolding times_low
zero_times zero v = refl
zero_times (suc n) v =
    ap (λ (b : ℕ). bit_xor (b * v) (times_low n 0 (by_x v))) (bit_at-zero n)
    ∙ ap (λ (x : ℕ). bit_xor x (times_low n 0 (by_x v))) (zero-mul v) ∙ zero_times n (by_x v)

times_scale : (n a p v : ℕ) → p < 2 → times_low n a (p * v) ≡ p * times_low n a v
times_scale n a zero v lt = simp zero-mul (times_zero n a)
times_scale n a (suc zero) v lt = simp one-mul
times_scale n a (suc (suc p)) v lt = absurd (omega arith)

pub times_by_x : (n a v : ℕ) → times_low n a (by_x v) ≡ by_x (times_low n a v)
unfolding times_low
times_by_x zero a v = refl
times_by_x (suc n) a v =
    ap (bit_xor (bit_at a n * by_x v)) (times_by_x n a (by_x v))
    ∙ ap (λ (x : ℕ). bit_xor x (by_x (times_low n a (by_x v)))) (sym (by_x_scale (bit_at a n) v (bit_at-lt a n)))
    ∙ sym (by_x_sum (bit_at a n * v) (times_low n a (by_x v)))

-- the order of two products is free
products : (m n a c w : ℕ) → times_low m c (times_low n a w) ≡ times_low n a (times_low m c w)
unfolding times_low
products zero n a c w = sym (times_zero n a)
products (suc m) n a c w =
    ap (λ (x : ℕ). bit_xor (bit_at c m * times_low n a w) (times_low m c x)) (sym (times_by_x n a w))
    ∙ ap (bit_xor (bit_at c m * times_low n a w)) (products m n a c (by_x w))
    ∙ ap (λ (x : ℕ). bit_xor x (times_low n a (times_low m c (by_x w))))
    (sym (times_scale n a (bit_at c m) w (bit_at-lt c m)))
    ∙ sym (times_sum_right n a (bit_at c m * w) (times_low m c (by_x w)))

scale_lt : (p v : ℕ) → p < 2 → v < 2 ^ 128 → p * v < 2 ^ 128
scale_lt zero v lp lv = simp zero-mul (lit< tt)
scale_lt (suc zero) v lp lv = simp one-mul lv
scale_lt (suc (suc p)) v lp lv = absurd (omega arith)

pub times_low_lt : (n a v : ℕ) → v < 2 ^ 128 → times_low n a v < 2 ^ 128
unfolding times_low
times_low_lt zero a v lt = lit< tt
times_low_lt (suc n) a v lt =
    xor_lt 128 (bit_at a n * v) (times_low n a (by_x v)) (scale_lt (bit_at a n) v (bit_at-lt a n) lt)
    (times_low_lt n a (by_x v) (by_x_lt v lt))

-- ---- the unit

by_x_pow : (k : ℕ) → by_x (2 ^ suc k) ≡ 2 ^ k
by_x_pow k =
    let double : 2 ^ suc k ≡ 2 ^ k * 2 = pow-suc 2 k in
    let half : 2 ^ suc k / 2 ≡ 2 ^ k = omega arith in
    let even : 2 ^ suc k % 2 ≡ 0 = omega arith in
    ap (λ (h : ℕ). bit_xor h (2 ^ suc k % 2 * reduced)) half
    ∙ ap (λ (e : ℕ). bit_xor (2 ^ k) (e * reduced)) even ∙ xor_zero_r (2 ^ k)

-- the coefficients of a, each times its power of x
bits_of : (n a : ℕ) → times_low (suc n) a (2 ^ n) ≡ a % 2 ^ suc n
unfolding times_low
bits_of zero a =
    xor_zero_r (bit_at a 0 * 1) ∙ ap (λ (b : ℕ). b * 1) (bit_at_lowest a) ∙ (let same : a % 2 * 1 ≡ a % 2 =
    omega arith in same)
bits_of (suc n) a =
    let high : ℕ = bit_at a (suc n) in
    let low : ℕ = a % 2 ^ suc n in
    let width : 1 + suc n ≡ suc (suc n) = omega arith in
    ap (λ (v : ℕ). bit_xor (high * 2 ^ suc n) (times_low (suc n) a v)) (by_x_pow n)
    ∙ ap (bit_xor (high * 2 ^ suc n)) (bits_of n a)
    ∙ xor_shifted high (suc n) low (mod_below a (2 ^ suc n) (pow_pos (suc n)))
    ∙ sym (mod-pow-add a 1 (suc n)) ∙ ap (λ (k : ℕ). a % 2 ^ k) width

pub times_one : (a : ℕ) → a < 2 ^ 128 → block_product a one ≡ a
times_one a lt = bits_of 127 a ∙ mod-eq_of_lt lt

pub times_comm : (a b : ℕ) → a < 2 ^ 128 → b < 2 ^ 128 → block_product a b ≡ block_product b a
times_comm a b la lb = ap (block_product a) (sym (times_one b lb)) ∙ products 128 128 b a one
    ∙ ap (block_product b) (times_one a la)

pub times_assoc : (a b c : ℕ) → b < 2 ^ 128 → c < 2 ^ 128 → block_product (block_product a b) c
    ≡ block_product a (block_product b c)
times_assoc a b c lb lc =
    times_comm (block_product a b) c (times_low_lt 128 a b lb) lc ∙ products 128 128 a c b
    ∙ ap (block_product a) (times_comm c b lc lb)

pub power_lt : (h n : ℕ) → h < 2 ^ 128 → power h n < 2 ^ 128
unfolding power
power_lt h zero lt = lit< tt
power_lt h (suc n) lt = times_low_lt 128 h (power h n) (power_lt h n lt)
