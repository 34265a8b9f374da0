-- Octets joined by `or`: for `are_zeros`.
use Rattle.std.proofs.Common.{◌≡◌, ℕ, zero, suc, ◌≤◌, ◌∷◌, ◌∙◌, List, [], length, replicate, refl, ap, arith}
use Rattle.std.proofs.lemmas.Nat.{le_or_l, le_or_r}
use Rattle.std.specs.Int.Bits.{bit_or, or_zero_l}
use Rattle.std.specs.List.{fold}

first_below : (all : ℕ) (octets : List ℕ) → all ≤ fold bit_or all octets
first_below all [] = omega arith
first_below all (octet ∷ octets) = omega (arith, le_or_l all octet, first_below (bit_or all octet) octets)

-- if all joined are 0, each of them is
pub zeros_joined : (all : ℕ) (octets : List ℕ) → fold bit_or all octets ≡ 0 → octets ≡ replicate (length octets) 0
zeros_joined all [] none = refl
zeros_joined all (octet ∷ octets) none =
    let below : bit_or all octet ≤ fold bit_or (bit_or all octet) octets = first_below (bit_or all octet) octets in
    let is : octet ≡ 0 = omega (arith, none, below, le_or_r all octet) in
    ap (λ (first : ℕ). first ∷ octets) is ∙ ap (λ (rest : List ℕ). 0 ∷ rest)
    (zeros_joined (bit_or all octet) octets none)

joined_replicate : (n : ℕ) → fold bit_or 0 (replicate n 0) ≡ 0
joined_replicate zero = refl
joined_replicate (suc n) = ap (λ (all : ℕ). fold bit_or all (replicate n 0)) (or_zero_l 0) ∙ joined_replicate n

-- and the other way round
pub joined_zeros : (octets : List ℕ) → octets ≡ replicate (length octets) 0 → fold bit_or 0 octets ≡ 0
joined_zeros octets are = ap (fold bit_or 0) are ∙ joined_replicate (length octets)
