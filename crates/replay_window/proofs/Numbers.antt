-- Which numbers are in the set of a window.
use Rattle.std.proofs.Common.{◌≡◌, ℕ, ◌-◌, ◌<◌, ◌⊎◌, ◌&&◌, Bool, true, false, nat_eq, nat_lt, inl, inr, ⊎_elim, refl}
use Rattle.std.proofs.Common.{sym, ap, ◌∙◌}
use Rattle.std.specs.List.{Contains, list_any}
use Rattle.std.specs.Cmp.{unsigned_tied, nat_eq_equiv}
use Rattle.std.specs.Ordering.{nat_cmp}
use Rattle.std.specs.FinSet as set
use Rattle.std.specs.FinMap.{nat_cmp-IsAntisymmetric}
use Rattle.std.proofs.lemmas.Bool.{eqb-true, eq-eqb, ltb-true, lt-ltb, or_cases, or_left, or_right, and_parts, and_from}
use Rattle.std.proofs.lemmas.Bool.{false_from_ne_true}
use Rattle.std.proofs.lemmas.Cmp.{nat_cmp_total}
use Rattle.std.proofs.lemmas.Map.Views.{list_any-from_Contains, Contains-from_any}
use Rattle.replay_window.specs.TakenBack.{contains-insert}

pub same_tests : (a b : Bool) → (a ≡ true → b ≡ true) → (b ≡ true → a ≡ true) → a ≡ b
same_tests true b to back = sym (to refl)
same_tests false b to back = sym (false_from_ne_true b (λ is. absurd (cc (back is))))

-- two sets with the same numbers
pub same_numbers : (s t : set.FinSet nat_cmp) → ((q : ℕ) → set.contains s q ≡ true → set.contains t q ≡ true)
    → ((q : ℕ) → set.contains t q ≡ true → set.contains s q ≡ true) → s ≡ t
same_numbers s t to back =
    set.same_set nat_cmp_total nat_cmp-IsAntisymmetric s t (λ q. same_tests _ _ (to q) (back q))

tests_numbers : (s : set.FinSet nat_cmp) (q : ℕ) → set.contains s q ≡ list_any (nat_eq q) (set.items s)
tests_numbers s q = set.contains-items s q ∙ (λ i. list_any (λ x. unsigned_tied q x i) (set.items s))

pub listed : (s : set.FinSet nat_cmp) (q : ℕ) → set.contains s q ≡ true → Contains (set.items s) q
listed s q has = Contains-from_any {eq = nat_eq} (λ x y same. eqb-true x y same) q (set.items s)
    (sym (tests_numbers s q) ∙ has)

pub from_listed : (s : set.FinSet nat_cmp) (q : ℕ) → Contains (set.items s) q → set.contains s q ≡ true
from_listed s q has = tests_numbers s q ∙ list_any-from_Contains nat_eq_equiv q (set.items s) has

-- a number more, and those near enough of all
contains-retain : (s : set.FinSet nat_cmp) (p : ℕ → Bool) (q : ℕ)
    → set.contains (set.retain s p) q ≡ (set.contains s q && p q)
contains-retain s p q = set.contains-retain s p q (λ x tied. ap p (sym (nat_cmp-IsAntisymmetric q x tied)))

pub kept_near : (s : set.FinSet nat_cmp) (n top q : ℕ) → (q ≡ n) ⊎ (set.contains s q ≡ true) → top - q < 64
    → set.contains (set.retain (set.insert s n) (λ m. nat_lt (top - m) 64)) q ≡ true
kept_near s n top q which near =
    contains-retain (set.insert s n) (λ m. nat_lt (top - m) 64) q
    ∙ and_from _ _ (contains-insert s n q
    ∙ ⊎_elim (λ (here : q ≡ n). or_left _ _ (eq-eqb _ _ here)) (λ (there : set.contains s q ≡ true). or_right _ _ there)
    which) (lt-ltb _ _ near)

pub record IsKeptNear (s : set.FinSet nat_cmp) (n top q : ℕ) : Type 0 where
  pub which : (q ≡ n) ⊎ (set.contains s q ≡ true)
  pub near : top - q < 64

pub near_kept : (s : set.FinSet nat_cmp) (n top q : ℕ)
    → set.contains (set.retain (set.insert s n) (λ m. nat_lt (top - m) 64)) q ≡ true → IsKeptNear s n top q
near_kept s n top q has =
    let parts = and_parts _ _ (sym (contains-retain (set.insert s n) (λ m. nat_lt (top - m) 64) q) ∙ has) in
    record {
      which = ⊎_elim (λ (here : nat_eq q n ≡ true). inl (eqb-true _ _ here))
          (λ (there : set.contains s q ≡ true). inr there)
          (or_cases _ _ (sym (contains-insert s n q) ∙ parts.0));
      near = ltb-true _ _ parts.1;
    }
