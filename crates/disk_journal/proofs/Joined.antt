-- Octets joined by `or`: for `has_other`.
use Rattle.std.proofs.Common.{◌≡◌, ℕ, zero, suc, ◌≤◌, ◌==◌, ◌||◌, ◌∷◌, ◌∙◌, not, Bool, true, false, List, [], sym, ap}
use Rattle.std.proofs.Common.{arith}
use Rattle.std.proofs.Math.Bool.{or_assoc, or-false}
use Rattle.std.proofs.lemmas.Bool.Decides.{nat_tests}
use Rattle.std.proofs.lemmas.Nat.{le_or_l}
use Rattle.std.specs.Int.Bits.{bit_or, or_zero_l}
use Rattle.std.specs.List.{fold, list_any}

not_zero : (a b : ℕ) → suc a ≤ b → not (b == 0) ≡ true
not_zero a b low = let test : (b == 0) ≡ false = grind (arith, nat_tests) in ap not test

-- two joined are other than 0 if one of them is
or_other : (a b : ℕ) → not (bit_or a b == 0) ≡ (not (a == 0) || not (b == 0))
or_other zero b = ap (λ (x : ℕ). not (x == 0)) (or_zero_l b)
or_other (suc a) b =
    let test : (suc a == 0) ≡ false = grind (arith, nat_tests) in
    not_zero a (bit_or (suc a) b) (le_or_l (suc a) b) ∙ ap (λ (some : Bool). not some || not (b == 0)) (sym test)

-- and so are all
pub joined_other : (all : ℕ) (octets : List ℕ)
    → not (fold bit_or all octets == 0) ≡ (not (all == 0) || list_any (λ octet. not (octet == 0)) octets)
joined_other all [] = sym (or-false (not (all == 0)))
joined_other all (octet ∷ octets) =
    joined_other (bit_or all octet) octets
    ∙ ap (λ (some : Bool). some || list_any (λ octet. not (octet == 0)) octets) (or_other all octet)
    ∙ or_assoc (not (all == 0)) (not (octet == 0)) (list_any (λ octet. not (octet == 0)) octets)
