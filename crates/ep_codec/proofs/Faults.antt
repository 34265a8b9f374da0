-- Tests that find no fault, one after the other.
use Rattle.std.proofs.Common.{◌≡◌, ℕ, Bool, true, false, List, [], ◌∷◌, ◌++◌, Some, None, refl, ◌∙◌}
use Rattle.sdls_base.specs.FirstFailing.{Check, first_failing}

-- a test that finds none is passed over
pub passed : (check : Check ℕ) (checks : List (Check ℕ)) → first_failing (check ∷ []) ≡ None
    → first_failing (check ∷ checks) ≡ first_failing checks
passed (true, offset) checks none = absurd cc
passed (false, offset) checks none = refl

-- where none finds a fault, the first does not, and the others do not
pub first_passed : (test : Bool) (offset : ℕ) (checks : List (Check ℕ)) → first_failing ((test, offset) ∷ checks) ≡ None
    → test ≡ false
first_passed true offset checks none = absurd cc
first_passed false offset checks none = refl

pub others_passed : (test : Bool) (offset : ℕ) (checks : List (Check ℕ))
    → first_failing ((test, offset) ∷ checks) ≡ None → first_failing checks ≡ None
others_passed true offset checks none = absurd cc
others_passed false offset checks none = none

-- six tests, or lists of them, that find none
pub six_passed : (a b c d e : Check ℕ) (rest : List (Check ℕ)) → first_failing (a ∷ []) ≡ None
    → first_failing (b ∷ []) ≡ None → first_failing (c ∷ []) ≡ None
    → first_failing (d ∷ []) ≡ None → first_failing (e ∷ []) ≡ None → first_failing rest ≡ None
    → first_failing (a ∷ b ∷ c ∷ d ∷ e ∷ rest) ≡ None
six_passed a b c d e rest p q r s t u =
    passed a (b ∷ c ∷ d ∷ e ∷ rest) p ∙ passed b (c ∷ d ∷ e ∷ rest) q ∙ passed c (d ∷ e ∷ rest) r
    ∙ passed d (e ∷ rest) s ∙ passed e rest t ∙ u

-- tests after others that find no fault
pub passed_append : (front back : List (Check ℕ)) → first_failing front ≡ None
    → first_failing (front ++ back) ≡ first_failing back
passed_append [] back none = refl
passed_append ((true, offset) ∷ front) back none = absurd cc
passed_append ((false, offset) ∷ front) back none = passed_append front back none

-- tests after others that find one
pub failed_append : (front back : List (Check ℕ)) (offset : ℕ) → first_failing front ≡ Some offset
    → first_failing (front ++ back) ≡ Some offset
failed_append [] back offset some = absurd cc
failed_append ((true, at) ∷ front) back offset some = some
failed_append ((false, at) ∷ front) back offset some = failed_append front back offset some

-- the first tests find no fault, where none of all does
pub front_passed : (front back : List (Check ℕ)) → first_failing (front ++ back) ≡ None → first_failing front ≡ None
front_passed [] back none = refl
front_passed ((true, at) ∷ front) back none = absurd cc
front_passed ((false, at) ∷ front) back none = front_passed front back none

-- a test that finds no fault, before others that find none
pub passes : (test : Bool) (at : ℕ) (checks : List (Check ℕ)) → test ≡ false → first_failing checks ≡ None
    → first_failing ((test, at) ∷ checks) ≡ None
passes true at checks e none = absurd cc
passes false at checks e none = none
