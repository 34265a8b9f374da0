-- What a text is as a plan, and what is said of it.
use Rattle.std.specs.Prelude.{◌≡◌, ⊤, ℕ, List, Result, Ok, Err}
use Rattle.unit_plan.specs.declared.plan_error.PlanFault.{PlanFault}
use Rattle.unit_plan.specs.declared.plan_error.PlanError.{PlanError}
use Rattle.unit_plan.specs.declared.plan_error.PlanError.TheVariants as errors
use Rattle.unit_plan.specs.PlanError.{◌>>=◌}
use Rattle.unit_plan.specs.PlanLines.{PlanLines}
use Rattle.unit_plan.specs.Plan.{plan_of}
use Rattle.unit_state.specs.declared.state.State.{State}
use Rattle.unit_state.specs.Initial.{initial}
use Rattle.status_text.specs.Text.{status_text}
use Rattle.plan_text.specs.Moved.{moved_line}
use Rattle.plan_text.specs.declared.check.Checked.{Checked}
use Rattle.plan_text.specs.declared.check.Checked.TheVariants.{Plan, NoPlan}

-- the state that the lines of a text make, or the first line at fault: of those that reading finds, or if there is
-- none the first that the books refuse
abbrev pub state_of : List ℕ → Result State PlanFault
state_of text = plan_of text >>= initial

-- the text is this plan, which makes this state
pub record Makes (text : List ℕ) (plan : PlanLines) (state : State) : Type 0 where
  pub read : plan_of text ≡ Ok plan
  pub made : initial plan ≡ Ok state

-- a text is a plan and makes a state, or has a first line at fault, unless memory ran out
abbrev pub JudgesText : List ℕ → Result (PlanLines × State) PlanError → Type 0
JudgesText text (Ok found) = Makes text found.0 found.1
JudgesText text (Err (errors.Refused fault)) = state_of text ≡ Err fault
JudgesText text (Err errors.NoMemory) = ⊤

-- what is said of a text that is no plan: the first line that is named is that of its first fault
abbrev pub SaysFault : PlanFault → Checked → Type 0
SaysFault fault (Plan summary moved) = ⊥
SaysFault fault (NoPlan first others) = first.line ≡ fault.line

-- What is said of a text: the summary of its state, of whose image no slot is used, and the line of the first
-- association whose frames can be changed into others, if it is a plan that makes a state; notes, the first of them on
-- the line of the first fault, if it has one.
abbrev pub Tells : List ℕ → Checked → Type 0
Tells text (Plan summary moved) = (plan : PlanLines) × (state : State) × Makes text plan state
    × (summary.items ≡ status_text state 0 plan.slots) × (moved ≡ moved_line text plan)
Tells text (NoPlan first others) = (fault : PlanFault) × (state_of text ≡ Err fault) × (first.line ≡ fault.line)
