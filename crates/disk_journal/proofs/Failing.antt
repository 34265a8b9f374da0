-- Rows of checks, and the first one that fails.
use Rattle.std.proofs.Common.{◌≡◌, ℕ, Bool, true, false, List, [], ◌∷◌, ◌++◌, Some, None, refl}
use Rattle.sdls_base.specs.FirstFailing.{Check, first_failing}

-- a check that passes
pub passed_first : (test : Bool) (offset : ℕ) (checks : List (Check ℕ)) → test ≡ false
    → first_failing ((test, offset) ∷ checks) ≡ first_failing checks
passed_first test offset checks passed = rw passed refl

-- a check that fails
pub failed_first : (test : Bool) (offset : ℕ) (checks : List (Check ℕ)) → test ≡ true
    → first_failing ((test, offset) ∷ checks) ≡ Some offset
failed_first test offset checks failed = rw failed refl

-- where none fails, the first passes, and the others do
pub record PassFirst (test : Bool) (checks : List (Check ℕ)) : Type 0 where
  pub first : test ≡ false
  pub others : first_failing checks ≡ None

pub all_passed : (test : Bool) (offset : ℕ) (checks : List (Check ℕ)) → first_failing ((test, offset) ∷ checks) ≡ None
    → PassFirst test checks
all_passed false offset checks none = record { first = refl; others = none }
all_passed true offset checks none = absurd (cc)

pub passed_append : (front back : List (Check ℕ)) → first_failing front ≡ None → first_failing
    (front ++ back) ≡ first_failing back
passed_append [] back none = refl
passed_append ((false, offset) ∷ front) back none = passed_append front back none
passed_append ((true, offset) ∷ front) back none = absurd (cc)

pub failed_append : (front back : List (Check ℕ)) (at : ℕ) → first_failing front ≡ Some at → first_failing
    (front ++ back) ≡ Some at
failed_append [] back at failed = absurd (cc)
failed_append ((false, offset) ∷ front) back at failed = failed_append front back at failed
failed_append ((true, offset) ∷ front) back at failed = failed

pub front_passed : (front back : List (Check ℕ)) → first_failing (front ++ back) ≡ None → first_failing front ≡ None
front_passed [] back none = refl
front_passed ((false, offset) ∷ front) back none = front_passed front back none
front_passed ((true, offset) ∷ front) back none = absurd (cc)
