-- How often a number stands in a list of a row's numbers. A pair is a row with a number.
use Rattle.std.specs.Prelude.{ℕ, ◌+◌, ◌==◌, ◌&&◌, nat_lt, Bool, List, [], ◌∷◌, if◌then◌else◌}

abbrev pub one_if : Bool → ℕ
one_if b = if b then 1 else 0

-- how often the number x of the row stands in the list
abbrev pub tally : ℕ → ℕ → List (ℕ × ℕ) → ℕ
tally row x [] = 0
tally row x (p ∷ ps) = one_if ((p.0 == row) && (p.1 == x)) + tally row x ps

-- a sum over all of a list
abbrev pub total : {V : Type 0} → (V → ℕ) → List V → ℕ
total f [] = 0
total f (v ∷ vs) = f v + total f vs

-- 1 for each number below n, else 0
abbrev pub once_below : ℕ → ℕ → ℕ
once_below x n = one_if (nat_lt x n)
