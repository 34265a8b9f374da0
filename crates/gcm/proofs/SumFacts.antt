-- Sums in the field, and numbers as the sums of their octets.
use Rattle.std.proofs.Common.{◌≡◌, ℕ, zero, suc, ◌+◌, ◌*◌, ◌/◌, ◌%◌, ◌^◌, ◌<◌, List, [], ◌∷◌, length, get_or, bit_xor}
use Rattle.std.proofs.Common.{mul_assoc, w8, Fits, refl, sym, ap, ◌∙◌, arith}
use Rattle.std.specs.Int.Bits.{xor_comm, xor_assoc, xor_shifted, xor_block}
use Rattle.std.specs.Simd.Lanes.{Each1, digits_l, number_l}
use Rattle.std.proofs.Math.Nat.{mod-eq_of_lt}
use Rattle.std.proofs.lemmas.Nat.{mod-pow-add, mod_below, pow-add, pow_pos, shr-shr}
use Rattle.aes_block.proofs.XorFacts.{xor_four}
use Rattle.gcm.specs.Rows.{octet_at, xor_sum}

pub xor_shl : (a b k : ℕ) → bit_xor a b * 2 ^ k ≡ bit_xor (a * 2 ^ k) (b * 2 ^ k)
xor_shl a b k =
    let ea : a * 2 ^ k + 0 ≡ a * 2 ^ k = omega arith in
    let eb : b * 2 ^ k + 0 ≡ b * 2 ^ k = omega arith in
    let es : bit_xor a b * 2 ^ k ≡ bit_xor a b * 2 ^ k + 0 = omega arith in
    es ∙ sym (xor_block k a b 0 0 (pow_pos k) (pow_pos k)) ∙ ap (λ x. bit_xor x (b * 2 ^ k + 0)) ea
    ∙ ap (bit_xor (a * 2 ^ k)) eb

pub xor_sum_same : (f g : ℕ → ℕ) (n : ℕ) → ((i : ℕ) → i < n → f i ≡ g i) → xor_sum f n ≡ xor_sum g n
unfolding xor_sum
xor_sum_same f g zero same = refl
xor_sum_same f g (suc n) same =
    ap (λ x. bit_xor x (xor_sum f n)) (same n (omega arith))
    ∙ ap (bit_xor (g n)) (xor_sum_same f g n (λ i lt. same i (omega arith)))

pub xor_sum_shl : (f : ℕ → ℕ) (n k : ℕ) → xor_sum f n * 2 ^ k ≡ xor_sum (λ i. f i * 2 ^ k) n
unfolding xor_sum
xor_sum_shl f zero k = let none : 0 * 2 ^ k ≡ 0 = omega arith in none
xor_sum_shl f (suc n) k = xor_shl (f n) (xor_sum f n) k ∙ ap (bit_xor (f n * 2 ^ k)) (xor_sum_shl f n k)

xor_sum_add : (f g : ℕ → ℕ) (n : ℕ) → xor_sum (λ i. bit_xor (f i) (g i)) n ≡ bit_xor (xor_sum f n) (xor_sum g n)
unfolding xor_sum
xor_sum_add f g zero = refl
xor_sum_add f g (suc n) =
    ap (bit_xor (bit_xor (f n) (g n))) (xor_sum_add f g n) ∙ xor_four (f n) (g n) (xor_sum f n) (xor_sum g n)

xor_sum_none : (n : ℕ) → xor_sum (λ _. 0) n ≡ 0
unfolding xor_sum
xor_sum_none zero = refl
xor_sum_none (suc n) = xor_sum_none n

pub xor_sum_swap : (f : ℕ → ℕ → ℕ) (n m : ℕ)
    → xor_sum (λ i. xor_sum (λ p. f i p) m) n ≡ xor_sum (λ p. xor_sum (λ i. f i p) n) m
unfolding xor_sum
xor_sum_swap f zero m = sym (xor_sum_none m)
xor_sum_swap f (suc n) m =
    ap (bit_xor (xor_sum (λ p. f n p) m)) (xor_sum_swap f n m)
    ∙ sym (xor_sum_add (λ p. f n p) (λ p. xor_sum (λ i. f i p) n) m)

-- the first apart
xor_sum_front : (f : ℕ → ℕ) (n : ℕ) → xor_sum f (suc n) ≡ bit_xor (f 0) (xor_sum (λ i. f (suc i)) n)
unfolding xor_sum
xor_sum_front f zero = refl
xor_sum_front f (suc n) =
    ap (bit_xor (f (suc n))) (xor_sum_front f n)
    ∙ sym (xor_assoc (f (suc n)) (f 0) (xor_sum (λ i. f (suc i)) n))
    ∙ ap (λ x. bit_xor x (xor_sum (λ i. f (suc i)) n)) (xor_comm (f (suc n)) (f 0))
    ∙ xor_assoc (f 0) (f (suc n)) (xor_sum (λ i. f (suc i)) n)

-- ---- octets

octets_below : (t n : ℕ) → xor_sum (λ i. octet_at t i * 2 ^ (8 * i)) n ≡ t % 2 ^ (8 * n)
unfolding xor_sum
octets_below t zero = let none : 0 ≡ t % 1 = omega arith in none
octets_below t (suc n) =
    let more : 8 + 8 * n ≡ 8 * suc n = omega arith in
    ap (bit_xor (octet_at t n * 2 ^ (8 * n))) (octets_below t n)
    ∙ xor_shifted (octet_at t n) (8 * n) (t % 2 ^ (8 * n)) (mod_below t (2 ^ (8 * n)) (pow_pos (8 * n)))
    ∙ sym (mod-pow-add t 8 (8 * n)) ∙ ap (λ k. t % 2 ^ k) more

pub octets_whole : (t n : ℕ) → t < 2 ^ (8 * n) → xor_sum (λ i. octet_at t i * 2 ^ (8 * i)) n ≡ t
octets_whole t n lt = octets_below t n ∙ mod-eq_of_lt lt

-- the octets of a number in a vector
pub octet_in_vector : (n a p : ℕ) → p < n → get_or (digits_l 256 n a) p 0 ≡ octet_at a p
octet_in_vector zero a p lt = absurd (omega arith)
octet_in_vector (suc n) a zero lt = let same : a % 256 ≡ a / 1 % 256 = omega arith in same
octet_in_vector (suc n) a (suc p) lt =
    let place : 8 + 8 * p ≡ 8 * suc p = omega arith in
    octet_in_vector n (a / 256) p (omega arith)
    ∙ ap (λ k. k % 2 ^ 8) (shr-shr a 8 (8 * p)) ∙ ap (λ k. a / 2 ^ k % 2 ^ 8) place

-- the number of a vector's octets
pub number_is_sum : (v : List ℕ) → Each1 (Fits w8) v
    → number_l 256 v ≡ xor_sum (λ p. get_or v p 0 * 2 ^ (8 * p)) (length v)
unfolding xor_sum
number_is_sum [] fits = refl
number_is_sum (x ∷ xs) fits =
    let turned : x + 256 * number_l 256 xs ≡ number_l 256 xs * 2 ^ 8 + x = omega arith in
    let once : x ≡ x * 1 = omega arith in
    let higher : (p : ℕ) → get_or xs p 0 * 2 ^ (8 * p) * 2 ^ 8 ≡ get_or xs p 0 * 2 ^ (8 * suc p) =
    λ p.
    let place : 8 * p + 8 ≡ 8 * suc p = omega arith in
    mul_assoc (get_or xs p 0) (2 ^ (8 * p)) (2 ^ 8)
    ∙ ap (λ (q : ℕ). get_or xs p 0 * q) (sym (pow-add 2 (8 * p) 8) ∙ ap (λ (k : ℕ). 2 ^ k) place) in
    turned ∙ sym (xor_shifted (number_l 256 xs) 8 x fits.0.fits) ∙ xor_comm (number_l 256 xs * 2 ^ 8) x
    ∙ ap (λ (n : ℕ). bit_xor x (n * 2 ^ 8)) (number_is_sum xs fits.1)
    ∙ ap (bit_xor x)
    (xor_sum_shl (λ p. get_or xs p 0 * 2 ^ (8 * p)) (length xs) 8
    ∙ xor_sum_same (λ p. get_or xs p 0 * 2 ^ (8 * p) * 2 ^ 8) (λ p. get_or xs p 0 * 2 ^ (8 * suc p)) (length xs)
    (λ p lt. higher p))
    ∙ ap (λ (y : ℕ). bit_xor y (xor_sum (λ p. get_or xs p 0 * 2 ^ (8 * suc p)) (length xs))) once
    ∙ sym (xor_sum_front (λ p. get_or (x ∷ xs) p 0 * 2 ^ (8 * p)) (length xs))

pub number_fits : (v : List ℕ) → Each1 (Fits w8) v → number_l 256 v < 2 ^ (8 * length v)
number_fits [] fits = omega arith
number_fits (x ∷ xs) fits =
    let one_more : 8 * suc (length xs) ≡ 8 * length xs + 8 = omega arith in
    let split : 2 ^ (8 * suc (length xs)) ≡ 2 ^ (8 * length xs) * 256 = ap (λ (k : ℕ). 2 ^ k) one_more
    ∙ pow-add 2 (8 * length xs) 8 in
    omega (arith, split, number_fits xs fits.1, fits.0.fits)
