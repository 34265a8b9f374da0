-- Octets that are read as zeros: for `is_zero`.
use Rattle.std.proofs.Common.{◌≡◌, ℕ, zero, suc, ◌+◌, ◌-◌, ◌<◌, ◌==◌, ◌∷◌, ◌∙◌, not, Bool, IsTrue, true, false, List}
use Rattle.std.proofs.Common.{[], get_or, take, drop, refl, sym, ap, arith}
use Rattle.disk_journal.specs.Changes.{IsZero}
use Rattle.std.proofs.lemmas.Bool.Decides.{nat_tests}
use Rattle.std.proofs.lemmas.List.{get_or-drop, get_or-take}
use Rattle.std.specs.List.{list_any}

-- octets of which none is other than 0
pub none_other : (octets : List ℕ) → list_any (λ octet. not (octet == 0)) octets ≡ false → (i : ℕ)
    → get_or octets i 0 ≡ 0
none_other [] none i = refl
none_other (zero ∷ octets) none zero = refl
none_other (zero ∷ octets) none (suc i) = none_other octets none i
none_other (suc octet ∷ octets) none i = absurd (let test : (suc octet == 0) ≡ false = grind (arith, nat_tests) in cc)

-- octets that were read
pub zero_read : (at n : ℕ) (octets image : List ℕ) (other : Bool) → octets ≡ take n (drop at image)
    → other ≡ list_any (λ octet. not (octet == 0)) octets → IsTrue (not other) → IsZero at (at + n) image
zero_read at n octets image true read same none i low high = absurd (cc)
zero_read at n octets image false read same none i low high =
    let here : at + (i - at) ≡ i = omega arith in
    let below : i - at < n = omega arith in
    ap (λ (k : ℕ). get_or image k 0) (sym here) ∙ sym (get_or-drop at image (i - at) 0)
    ∙ sym (get_or-take n (drop at image) (i - at) 0 below)
    ∙ ap (λ (some : List ℕ). get_or some (i - at) 0) (sym read) ∙ none_other octets (sym same) (i - at)
