-- Octets in the written ranges, and a fill of them that has come so far.
use Rattle.std.proofs.Common.{◌≡◌, ◌≢◌, ℕ, ◌+◌, ◌-◌, ◌<◌, ◌≤◌, ◌⊎◌, ◌||◌, ◌&&◌, nat_le, nat_lt, Bool, true, false, List}
use Rattle.std.proofs.Common.{[], ◌∷◌, length, get_or, arith, refl, subst, inl, inr, get_or-set_other, get_or-set_same}
use Rattle.std.proofs.Common.{slice_set}
use Rattle.std.specs.List.{list_any}
use Rattle.std.specs.Bool.{MatchBool}
use Rattle.std.proofs.lemmas.Bool.Decides.{nat_tests}
use Rattle.std.proofs.lemmas.Bool.{cases_eq}
use Rattle.sdls_outside.specs.Disk.{Outside}
use Rattle.sdls_outside.specs.Crash.{Inside, covers}

one_by : (first count i : ℕ) (t u : Bool) → nat_le first i ≡ t → nat_lt (i - first) count ≡ u
    → MatchBool (t && u) ((first ≤ i) × (i < first + count)) ((i < first) ⊎ (first + count ≤ i))
one_by first count i true true e f =
    let low : first ≤ i = grind (arith, nat_tests) in
    let high : i - first < count = grind (arith, nat_tests) in
    (low, omega arith)
one_by first count i true false e f =
    let low : first ≤ i = grind (arith, nat_tests) in
    let high : count ≤ i - first = grind (arith, nat_tests) in
    inr (omega arith)
one_by first count i false u e f = inl (grind (arith, nat_tests))

either : (P Q R S : Type 0) (a b : Bool) → MatchBool a P Q → MatchBool b R S → MatchBool (a || b) (P ⊎ R) (Q × S)
either P Q R S true b p r = inl p
either P Q R S false true q r = inr r
either P Q R S false false q s = (q, s)

-- the test of all ranges tells on which side an octet lies
pub sides : (ranges : List (ℕ × ℕ)) (i : ℕ)
    → MatchBool (list_any (covers i) ranges) (Inside ranges i) (Outside ranges i)
sides [] i = tt
sides (range ∷ ranges) i =
    either _ _ _ _ (covers i range) (list_any (covers i) ranges) (one_by range.0 range.1 i _ _ refl refl)
    (sides ranges i)

-- no octet lies on both sides
apart : (ranges : List (ℕ × ℕ)) (i : ℕ) → Inside ranges i → Outside ranges i → ⊥
apart [] i inside outside = inside
apart (range ∷ ranges) i (inl here) outside = elim outside.0 [ inl below ↦ omega arith | inr behind ↦ omega arith ]
apart (range ∷ ranges) i (inr inside) outside = apart ranges i inside outside.1

-- the octets below n are filled where they lie in a range, and all others are as they were
pub record IsFilledBelow (n octet : ℕ) (ranges : List (ℕ × ℕ)) (old new : List ℕ) : Type 0 where
  pub inside : (i : ℕ) → i < n → Inside ranges i → get_or new i 0 ≡ octet
  pub outside : (i : ℕ) → Outside ranges i → get_or new i 0 ≡ get_or old i 0
  pub behind : (i : ℕ) → n ≤ i → get_or new i 0 ≡ get_or old i 0

-- the next octet lies in a range
pub fills : (n octet : ℕ) (ranges : List (ℕ × ℕ)) (old new : List ℕ) → IsFilledBelow n octet ranges old new
    → n < length new → Inside ranges n → IsFilledBelow (n + 1) octet ranges old (slice_set new n octet)
fills n octet ranges old new so_far within here = record {
  inside = λ i below inside. elim (cases_eq i n) [
    | inl same ↦ rw same (rw get_or-set_same refl)
    | inr other ↦ let lower : i < n = omega arith in rw get_or-set_other (so_far.inside i lower inside)
  ];
  outside = λ i outside. elim (cases_eq i n) [
    | inl same ↦ absurd (apart ranges n here (subst (λ (k : ℕ). Outside ranges k) same outside))
    | inr other ↦ rw get_or-set_other (so_far.outside i outside)
  ];
  behind = λ i high. let other : i ≢ n = omega arith in let from : n ≤ i = omega arith in
      rw get_or-set_other (so_far.behind i from);
}

-- it lies in none
pub leaves : (n octet : ℕ) (ranges : List (ℕ × ℕ)) (old new : List ℕ) → IsFilledBelow n octet ranges old new
    → Outside ranges n → IsFilledBelow (n + 1) octet ranges old new
leaves n octet ranges old new so_far here = record {
  inside = λ i below inside. elim (cases_eq i n) [
    | inl same ↦ absurd (apart ranges n (subst (λ (k : ℕ). Inside ranges k) same inside) here)
    | inr other ↦ let lower : i < n = omega arith in so_far.inside i lower inside
  ];
  outside = so_far.outside;
  behind = λ i high. let from : n ≤ i = omega arith in so_far.behind i from;
}
