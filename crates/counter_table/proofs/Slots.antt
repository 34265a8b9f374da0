-- What a worker's list of slots is.
use Rattle.std.proofs.Common.{◌≡◌, ℕ, eqb, true, false, Bool, ◌&&◌, List, [], ◌∷◌, sym, refl, ap, ◌∙◌, subst, Some}
use Rattle.std.proofs.Common.{None, Option, is_none}
use Rattle.std.proofs.lemmas.Bool.Decides.{nat_tests}
use Rattle.counter_table.specs.Turn.{slots_fit}

module _ {B : Type 0} where
  pub no_slots : (h : Bool) (slots : List (ℕ × Option B)) → h ≡ false → slots_fit h slots ≡ true → slots ≡ []
  no_slots true slots e k = cc
  no_slots false [] e k = refl
  no_slots false (s ∷ ss) e k = cc

  one : (i : ℕ) (o : Option B) → ((eqb i 0) && is_none o) ≡ true → (let s : List (ℕ × Option B) = (i, o) ∷ [] in s)
      ≡ (0, None) ∷ []
  one i None k = let e : i ≡ 0 = lemma (eqb i 0) refl k in λ j. (e j, None) ∷ []
    where
      lemma : (b : Bool) → eqb i 0 ≡ b → (b && true) ≡ true → i ≡ 0
      lemma true is k = grind (Rattle.std.proofs.Common.arith, nat_tests)
      lemma false is k = cc
  one i (Some b) k = lemma (eqb i 0) k
    where
      lemma : (b' : Bool) → (b' && false) ≡ true → (let s : List (ℕ × Option B) = (i, Some b) ∷ [] in s)
          ≡ (0, None) ∷ []
      lemma true k = cc
      lemma false k = cc

  pub one_slot : (h : Bool) (slots : List (ℕ × Option B)) → h ≡ true → slots_fit h slots ≡ true → slots ≡ (0, None) ∷ []
  one_slot true [] e k = cc
  one_slot true (s ∷ []) e k = one s.0 s.1 k
  one_slot true (s ∷ t ∷ ss) e k = cc
  one_slot false slots e k = cc
