-- Sums over workers, as the rule of the counters and the core have them.
use Rattle.std.proofs.Common.{◌≡◌, ◌⊎◌, ⊎_elim, ℕ, zero, suc, ◌+◌, ◌<◌, ◌≤◌, List, [], ◌∷◌, map, refl, ap, arith, Some}
use Rattle.std.proofs.Common.{None, slice_get}
use Rattle.std.proofs.lemmas.Bool.Decides.{nat_tests}
use mathlib.Core.Option.{some}
use lib.ListN.{get_elem?}
use Rattle.counter_table.specs.declared.view.View.{View}
use Rattle.sdls_base.specs.Numbers.{tally, total, once_below}
use Rattle.sdls_world.specs.Kept.{unused}
use Rattle.sdls_world.proofs.Places.{some_same, once_below_one}
use Rattle.law_counters.specs.Scene.{doers}

pub total-map : {A C : Type 0} (f : C → ℕ) (g : A → C) (xs : List A) → total f (map g xs) ≡ total (λ x. f (g x)) xs
total-map f g [] = refl
total-map f g (x ∷ xs) = ap (λ (k : ℕ). f (g x) + k) (total-map f g xs)

-- the place of a list, as the rule of the counters says it, of a part of each worker
pub at_map : {A C : Type 0} (g : A → C) (xs : List A) (i : ℕ) (x : A) → slice_get xs i ≡ Some x
    → get_elem? (map g xs) i ≡ some (g x)
at_map g [] i x e = absurd (let none : None ≡ Some x = e in cc)
at_map g (y ∷ ys) zero x e = ap (λ z. some (g z)) (some_same e)
at_map g (y ∷ ys) (suc i) x e = at_map g ys i x e

module _ (f g : View → ℕ) where
  pub total_less : (vs : List View) → ((id : ℕ) (v : View) → slice_get vs id ≡ Some v → f v ≤ g v)
      → total f vs ≤ total g vs
  total_less [] each = omega arith
  total_less (v ∷ vs) each = let h = total_less vs (λ id. each (suc id)) in let here = each 0 v refl in omega arith

  pub total_same : (vs : List View) → ((id : ℕ) (v : View) → slice_get vs id ≡ Some v → f v ≡ g v)
      → total f vs ≡ total g vs
  total_same [] each = refl
  total_same (v ∷ vs) each = let h = total_same vs (λ id. each (suc id)) in let here = each 0 v refl in omega arith

pub total_none : (f : View → ℕ) (vs : List View) → ((id : ℕ) (v : View) → slice_get vs id ≡ Some v → f v ≤ 0)
    → total f vs ≤ 0
total_none f [] each = omega arith
total_none f (v ∷ vs) each = let h = total_none f vs (λ id. each (suc id)) in let here = each 0 v refl in omega arith

-- what was spent, and what was drawn and not spent, is what was drawn
pub unused_sum : (row x n : ℕ) (vs : List View)
    → ((id : ℕ) (v : View) → slice_get vs id ≡ Some v → tally row x v.numbers.spent ≤ tally row x v.numbers.drawn)
    → total (λ v. tally row x v.numbers.spent) vs + total (unused row x) (doers n vs)
    ≡ total (λ v. tally row x v.numbers.drawn) vs
unused_sum row x n [] each = refl
unused_sum row x n (v ∷ vs) each =
    let h = unused_sum row x (suc n) vs (λ id. each (suc id)) in
    let here = each 0 v refl in omega arith

below_or_not : (x n : ℕ) → (x < n) ⊎ (n ≤ x)
below_or_not x n = grind (arith, nat_tests)

pub once_there : (x n : ℕ) → x < n → once_below x n ≡ 1
once_there x n h = grind (arith, nat_tests)

pub none_there : (x n : ℕ) → n ≤ x → once_below x n ≡ 0
none_there x n h = grind (arith, nat_tests)

-- a number that stands is below the bound
pub below_where : (x n : ℕ) → 0 < once_below x n → x < n
below_where x n h = ⊎_elim (λ b. b) (λ a. absurd (let z = none_there x n a in omega arith)) (below_or_not x n)

-- a number that was drawn once, and is spent below the limit alone, is spent once below the mark
pub spent_below : (row x next limit mark : ℕ) (vs : List View)
    → ((id : ℕ) (v : View) → slice_get vs id ≡ Some v
    → (tally row x v.numbers.spent ≤ tally row x v.numbers.drawn) × (tally row x v.numbers.spent ≤ once_below x limit))
    → total (λ v. tally row x v.numbers.drawn) vs ≤ once_below x next → limit ≤ mark
    → total (λ v. tally row x v.numbers.spent) vs ≤ once_below x mark
spent_below row x next limit mark vs each once low = ⊎_elim below above (below_or_not x limit) where
  below : x < limit → total (λ (v : View). tally row x v.numbers.spent) vs ≤ once_below x mark
  below h =
      let a = total_less (λ v. tally row x v.numbers.spent) (λ v. tally row x v.numbers.drawn) vs
      (λ id v at. (each id v at).0) in
      let b = once_below_one x next in let c = once_there x mark (omega arith) in omega arith

  above : limit ≤ x → total (λ (v : View). tally row x v.numbers.spent) vs ≤ once_below x mark
  above h =
      let z = none_there x limit h in
      let a = total_none (λ v. tally row x v.numbers.spent) vs (λ id v at. let e = (each id v at).1 in omega arith) in
      omega arith
