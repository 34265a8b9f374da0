-- The fold of GHASH is the sum that defines it.
use Rattle.std.proofs.Common.{◌≡◌, ℕ, suc, ◌^◌, ◌<◌, List, [], ◌∷◌, ◌++◌, length, bit_xor, refl, sym, ap, ◌∙◌, lit<}
use Rattle.std.specs.Int.Bits.{xor_zero_r, xor_assoc}
use Rattle.gcm.specs.Field.{block_product, power, ghash}
use Rattle.gcm.specs.Folded.{folded}
use Rattle.gcm.proofs.FieldFacts.{times_one, times_assoc, times_sum_left, times_low_lt, zero_times, power_lt}

pub folded-append : (h y : ℕ) (xs ys : List ℕ) → folded h y (xs ++ ys) ≡ folded h (folded h y xs) ys
unfolding folded
folded-append h y [] ys = refl
folded-append h y (x ∷ xs) ys = folded-append h (block_product (bit_xor y x) h) xs ys

pub folded_push : (h y : ℕ) (xs : List ℕ) (x : ℕ) → folded h y (xs ++ x ∷ [])
    ≡ block_product (bit_xor (folded h y xs) x) h
unfolding folded
folded_push h y xs x = folded-append h y xs (x ∷ [])

folded_is : (h y : ℕ) (xs : List ℕ) → h < 2 ^ 128 → y < 2 ^ 128
    → folded h y xs ≡ bit_xor (block_product y (power h (length xs))) (ghash h xs)
unfolding folded power ghash
folded_is h y [] lh ly = sym (times_one y ly) ∙ sym (xor_zero_r (block_product y (power h 0)))
folded_is h y (x ∷ xs) lh ly =
    let z : ℕ = bit_xor y x in
    let p : ℕ = power h (length xs) in
    let q : ℕ = power h (suc (length xs)) in
    folded_is h (block_product z h) xs lh (times_low_lt 128 z h lh)
    ∙ ap (λ (t : ℕ). bit_xor t (ghash h xs))
    (times_assoc z h p lh (power_lt h (length xs) lh) ∙ times_sum_left 128 y x q)
    ∙ xor_assoc (block_product y q) (block_product x q) (ghash h xs)

pub ghash_is : (h : ℕ) (xs : List ℕ) → h < 2 ^ 128 → folded h 0 xs ≡ ghash h xs
ghash_is h xs lh =
    folded_is h 0 xs lh (lit< tt) ∙ ap (λ (t : ℕ). bit_xor t (ghash h xs)) (zero_times 128 (power h (length xs)))
