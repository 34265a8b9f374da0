-- Profile: the first line that has a cause, and that cause.
use Rattle.std.specs.Prelude.{◌≡◌, ⊤, ℕ, Bool, true, false, Option, Some, None, Result, Ok, Err}
use Rattle.unit_plan.specs.declared.plan_error.PlanCause.{PlanCause}
use Rattle.unit_plan.specs.declared.plan_error.PlanFault.{PlanFault}
use Rattle.unit_plan.specs.declared.plan_error.PlanError.{PlanError}
use Rattle.unit_plan.specs.declared.plan_error.PlanError.TheVariants.{Refused, NoMemory}

-- one test after the other: the first that fails decides
infixl 10 ◌>>=◌
abbrev pub ◌>>=◌ : {A B : Type 0} → Result A PlanFault → (A → Result B PlanFault) → Result B PlanFault
(Ok x) >>= f = f x
(Err fault) >>= f = Err fault

abbrev pub fault : {A : Type 0} → ℕ → PlanCause → Result A PlanFault
fault line cause = Err (record { line = line; cause = cause })

-- a line has this cause, unless a rule holds
abbrev pub check : ℕ → PlanCause → Bool → Result (Unit {0}) PlanFault
check line cause true = Ok tt
check line cause false = fault line cause

-- a line has this cause, unless there is a value
abbrev pub require : {A : Type 0} → ℕ → PlanCause → Option A → Result A PlanFault
require line cause None = fault line cause
require line cause (Some x) = Ok x

-- what a call answers is this, unless memory ran out
abbrev pub Gives : {A : Type 0} → Result A PlanError → Result A PlanFault → Type 0
Gives (Ok x) said = said ≡ Ok x
Gives (Err (Refused first)) said = said ≡ Err first
Gives (Err NoMemory) said = ⊤
