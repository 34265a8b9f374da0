-- Profile: which lines of a plan's text may be said to be at fault.
use Rattle.std.specs.Prelude.{◌≡◌, ℕ, ◌⊎◌, Any}
use Rattle.unit_plan.specs.PlanLines.{PlanLines}

-- a line of a plan that the books are asked about: that of a key or of an association
abbrev pub IsLineOf : PlanLines → ℕ → Type 0
IsLineOf plan line = Any (λ key. key.line ≡ line) plan.keys ⊎ Any (λ found. found.line ≡ line) plan.associations
