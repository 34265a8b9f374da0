-- The first check that fails, check by check.
use Rattle.std.proofs.Common.{◌≡◌, ℕ, Bool, true, false, refl, sym, eq-eqb, ap}
use Rattle.std.proofs.lemmas.Bool.Decides.{nat_tests}
use Rattle.std.proofs.Common.{arith}
use Rattle.std.specs.Prelude.{Option, Some, None, not, ◌==◌, if◌then◌else◌}

-- no fault is found where this check does not fail and no later one does
pub passes : {A : Type 0} (fails : Bool) (fault : A) (later : Option A) → fails ≡ false → later ≡ None
    → (if fails then Some fault else later) ≡ None
passes true fault later e f = absurd (cc)
passes false fault later e f = f

-- where no fault is found, this check does not fail
pub passed : {A : Type 0} (fails : Bool) (fault : A) (later : Option A) → (if fails then Some fault else later) ≡ None
    → fails ≡ false
passed true fault later e = absurd (cc)
passed false fault later e = refl

-- and no later one does
pub passed_later : {A : Type 0} (fails : Bool) (fault : A) (later : Option A)
    → (if fails then Some fault else later) ≡ None → later ≡ None
passed_later true fault later e = absurd (cc)
passed_later false fault later e = e

not_false : (b : Bool) → not b ≡ false → b ≡ true
not_false true e = refl
not_false false e = sym e

same : (m n : ℕ) → (m == n) ≡ true → m ≡ n
same m n e = grind (arith, nat_tests)

-- a check that two numbers are the same
pub same_if_passed : (m n : ℕ) → not (m == n) ≡ false → m ≡ n
same_if_passed m n e = same m n (not_false (m == n) e)

pub passed_if_same : (m n : ℕ) → m ≡ n → not (m == n) ≡ false
passed_if_same m n e = ap not (eq-eqb m n e)
