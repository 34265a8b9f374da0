-- The first check of a list that fails, whatever it says. (CCSDS 355.0-B-2 and 355.1-B-1 leave the order of checks to
-- the profile.)
use Rattle.std.specs.Prelude.{Bool, true, false, if◌then◌else◌, List, [], ◌∷◌, Option, Some, None}

-- a check: whether it fails, and what it says then
abbrev pub Check : Type 0 → Type 0
Check A = Bool × A

-- what the first check that fails says
abbrev pub first_failing : {A : Type 0} → List (Check A) → Option A
first_failing [] = None
first_failing (check ∷ checks) = if check.0 then Some check.1 else first_failing checks

-- one check, seen alone
abbrev pub fails_if : {A : Type 0} → Bool → A → Option A
fails_if true told = Some told
fails_if false told = None

-- the same of checks that were seen alone: what the first of them that fails says
abbrev pub first_told : {A : Type 0} → List (Option A) → Option A
first_told [] = None
first_told (None ∷ checks) = first_told checks
first_told (Some told ∷ checks) = Some told
