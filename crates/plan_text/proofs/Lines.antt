-- What the books refuse lies on lines of the plan, for `add_refused`, `take_keys` and `refused_lines`.
use Rattle.std.proofs.Common.{◌≡◌, ℕ, ◌<◌, List, [], ◌∷◌, ◌++◌, length, slice_index_or, All, sym, subst, refl, inl, inr}
use Rattle.std.proofs.lemmas.List.Elements.{All-append, All-cons, All-nil}
use Rattle.unit_plan.specs.declared.plan.PlanKey.{PlanKey}
use Rattle.unit_plan.specs.declared.plan.PlanSa.{PlanSa}
use Rattle.unit_plan.specs.PlanLines.{PlanLines}
use Rattle.plan_text.specs.declared.wanted.Fault.{Fault}
use Rattle.plan_text.specs.Wanted.{IsLineOf}

pub key_line : (plan : PlanLines) (key : PlanKey) (i : ℕ) → i < length plan.keys → slice_index_or plan.keys i key ≡ key
    → IsLineOf plan key.line
key_line plan key i within is = inl (i, key, within, is, refl)

pub association_line : (plan : PlanLines) (found : PlanSa) (i : ℕ) → i < length plan.associations
    → slice_index_or plan.associations i found ≡ found → IsLineOf plan found.line
association_line plan found i within is = inr (i, found, within, is, refl)

-- one line more
pub line_added : (plan : PlanLines) (faults later : List (ℕ × Fault)) (line : ℕ) (fault : Fault) → IsLineOf plan line
    → later ≡ faults ++ (line, fault) ∷ [] → All (λ found. IsLineOf plan found.0) faults
    → All (λ found. IsLineOf plan found.0) later
line_added plan faults later line fault is added all =
    let P : ℕ × Fault → Type 0 = λ found. IsLineOf plan found.0 in
    subst (All P) (sym added)
    (All-append P faults ((line, fault) ∷ []) all (All-cons P (line, fault) [] is (All-nil P)))
