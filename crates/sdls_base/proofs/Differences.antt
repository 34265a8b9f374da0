-- Octets that do not differ are the same: for `same_octets`.
use Rattle.std.proofs.Common.{◌≡◌, ℕ, ◌<◌, ◌↔◌, List, length, false, sym, ap, ◌∙◌, subst, arith, get_or, ⊎_elim, ◌≢◌}
use Rattle.std.proofs.Common.{◌+◌}
use Rattle.std.specs.Prelude.{bit_or, bit_xor, ◌==◌}
use Rattle.std.specs.Str.{bytes_eq}
use Rattle.std.specs.Bool.{Decides}
use Rattle.std.proofs.lemmas.Bool.{false≢true, cases_eq}
use Rattle.std.proofs.lemmas.List.{same_lists, get_or_default}
use Rattle.std.proofs.lemmas.Bool.Decides.{same_from_decides, Decides-eqb, nat_tests}
use Rattle.std.proofs.lemmas.Slice.Eq.{bytes_eq-Decides}
use lib.Bits.{or_add_and, and_le_l, and_le_r, xor_assoc, xor_self, xor_zero_l, xor_zero_r, or_zero_l}

or_none : (a b : ℕ) → bit_or a b ≡ 0 → (a ≡ 0) × (b ≡ 0)
or_none a b none = (
  omega (arith, none, or_add_and a b, and_le_l a b, and_le_r a b),
  omega (arith, none, or_add_and a b, and_le_l a b, and_le_r a b),
)

xor_none : (a b : ℕ) → bit_xor a b ≡ 0 → a ≡ b
xor_none a b none =
    sym (xor_zero_r a) ∙ ap (bit_xor a) (sym (xor_self b)) ∙ sym (xor_assoc a b b) ∙ ap (λ (x : ℕ). bit_xor x b) none
    ∙ xor_zero_l b

same_xor : (a b : ℕ) → a ≡ b → bit_xor a b ≡ 0
same_xor a b same = ap (λ (x : ℕ). bit_xor x b) same ∙ xor_self b

-- one more pair: nothing was found before it, and it does not differ
pub one_more : (found a b : ℕ) → (bit_or found (bit_xor a b) ≡ 0) ↔ ((found ≡ 0) × (a ≡ b))
one_more found a b = (
  (λ none. let parts = or_none found (bit_xor a b) none in (parts.0, xor_none a b parts.1)),
  (λ parts. ap (λ (x : ℕ). bit_or x (bit_xor a b)) parts.0 ∙ or_zero_l (bit_xor a b) ∙ same_xor a b parts.1),
)

-- no difference is found exactly where the octets are the same
pub told-bytes_eq : (found : ℕ) (left right : List ℕ) → (found ≡ 0) ↔ (left ≡ right)
    → (found == 0) ≡ bytes_eq left right
told-bytes_eq found left right told =
    same_from_decides (found == 0) (bytes_eq left right)
    ((λ e. told.0 ((Decides-eqb found 0).0 e)), (λ e. (Decides-eqb found 0).1 (told.1 e)))
    (bytes_eq-Decides left right)

nothing_decides : (P : Type 0) → (P → ⊥) → Decides false P
nothing_decides P never = ((λ e. absurd (false≢true e)), (λ p. absurd (never p)))

-- octets of other lengths are others
pub other_length : (left right : List ℕ) → (length left == length right) ≡ false → false ≡ bytes_eq left right
other_length left right other =
    same_from_decides false (bytes_eq left right)
    (nothing_decides (left ≡ right)
    (λ same. absurd (grind (arith, nat_tests, other, ap (λ (xs : List ℕ). length xs) same))))
    (bytes_eq-Decides left right)

-- the octets are the same exactly where each is
pub same_each : (left right : List ℕ) → length left ≡ length right
    → ((k : ℕ) → k < length left → get_or left k 0 ≡ get_or right k 0) ↔ (left ≡ right)
same_each left right same = (
  (λ each. same_lists left right same
      (λ k d low. get_or_default left k d 0 low ∙ each k low ∙ get_or_default right k 0 d (omega arith))),
  (λ e k low. ap (λ (xs : List ℕ). get_or xs k 0) e),
)

-- one more octet of each
pub each_more : (left right : List ℕ) (found i : ℕ)
    → (found ≡ 0) ↔ ((k : ℕ) → k < i → get_or left k 0 ≡ get_or right k 0)
    → (bit_or found (bit_xor (get_or left i 0) (get_or right i 0)) ≡ 0)
    ↔ ((k : ℕ) → k < i + 1 → get_or left k 0 ≡ get_or right k 0)
each_more left right found i told =
    let more = one_more found (get_or left i 0) (get_or right i 0) in (
      (λ none k low.
          let parts = more.0 none in
          ⊎_elim
          (λ (here : k ≡ i). subst (λ (n : ℕ). get_or left n 0 ≡ get_or right n 0) (sym here) parts.1)
          (λ (before : k ≢ i). told.0 parts.0 k (omega arith))
          (cases_eq k i)),
      (λ each. more.1 (told.1 (λ k low. each k (omega arith)), each i (omega arith))),
    )
