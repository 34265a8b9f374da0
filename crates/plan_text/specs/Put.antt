-- How the check of a plan ends.
use Rattle.std.specs.Prelude.{◌≡◌, ⊤, ℕ, List, [], ◌∷◌, ◌++◌, codes, decimal, Err}
use Rattle.unit_plan.specs.declared.plan_error.PlanFault.{PlanFault}
use Rattle.unit_plan.specs.PlanLines.{PlanLines}
use Rattle.unit_state.specs.declared.state.State.{State}
use Rattle.status_text.specs.Text.{status_text}
use Rattle.record_io.specs.declared.status.TheConstants as statuses
use Rattle.plan_text.specs.declared.wanted.PlanNote.{PlanNote}
use Rattle.plan_text.specs.declared.check.PlanEnd.{PlanEnd}
use Rattle.plan_text.specs.declared.check.PlanEnd.TheVariants.{Plan, NoPlan, SourceFault, OutputFault, NoMemory}
use Rattle.plan_text.specs.Check.{Makes, state_of}
use Rattle.plan_text.specs.Moved.{moved_line}

abbrev pub plan_status : PlanEnd → ℕ
plan_status (Plan moved) = statuses.DONE
plan_status NoPlan = statuses.MALFORMED
plan_status SourceFault = statuses.SOURCE_FAULT
plan_status OutputFault = statuses.SITE_FAULT
plan_status NoMemory = statuses.NO_MEMORY

-- the line that names a line at fault, and what is said of it
unfoldable pub note_line : PlanNote → List ℕ
note_line note = codes "line " ++ decimal note.line ++ codes ", " ++ note.text.items ++ codes "\n"

unfoldable pub note_lines : List PlanNote → List ℕ
note_lines [] = []
note_lines (note ∷ notes) = note_line note ++ note_lines notes

-- What is put for a text, and how its check ends then: the summary of the state that it makes if it is a plan, and the
-- end names the first association whose frames can be changed into others; a line for each of some notes, the first of
-- them on the line of the first fault, if it has one.
abbrev pub EndsPlan : List ℕ → List ℕ → PlanEnd → Type 0
EndsPlan text put (Plan moved) = (plan : PlanLines) × (state : State) × Makes text plan state
    × (put ≡ status_text state 0 plan.slots) × (moved ≡ moved_line text plan)
EndsPlan text put NoPlan = (fault : PlanFault) × (first : PlanNote) × (others : List PlanNote)
    × (state_of text ≡ Err fault) × (first.line ≡ fault.line) × (put ≡ note_line first ++ note_lines others)
EndsPlan text put SourceFault = ⊥
EndsPlan text put OutputFault = ⊥
EndsPlan text put NoMemory = ⊥

-- What the check of an input put behind what was there, for these ends. After a fault of the source or if memory ran
-- out nothing is put; if the output fails a front of what was to be put may be.
abbrev pub PutsPlan : List ℕ → List ℕ → List ℕ → PlanEnd → Type 0
PutsPlan input old new (Plan moved) = (put : List ℕ) × EndsPlan input put (Plan moved) × (new ≡ old ++ put)
PutsPlan input old new NoPlan = (put : List ℕ) × EndsPlan input put NoPlan × (new ≡ old ++ put)
PutsPlan input old new SourceFault = new ≡ old
PutsPlan input old new OutputFault = ⊤
PutsPlan input old new NoMemory = new ≡ old

-- a fault is reported only if its count rose; out of memory needs no cause
abbrev pub IsPlanCause : Type 0 → Type 0 → PlanEnd → Type 0
IsPlanCause source_rose sink_rose (Plan moved) = ⊤
IsPlanCause source_rose sink_rose NoPlan = ⊤
IsPlanCause source_rose sink_rose SourceFault = source_rose
IsPlanCause source_rose sink_rose OutputFault = sink_rose
IsPlanCause source_rose sink_rose NoMemory = ⊤
