-- How `init` ends (profile).
use Rattle.std.specs.Prelude.{◌≡◌, ◌≢◌, ◌⊎◌, ⊤, ℕ, Bool, IsTrue, List, [], ◌++◌, codes, decimal, Result, Ok, Err}
use Rattle.sdls_outside.specs.Disk.{IsSynced}
use Rattle.sdls_outside.specs.Moments.{Trace, EachMoment}
use Rattle.unit_plan.specs.declared.plan_error.PlanCause.{PlanCause}
use Rattle.unit_plan.specs.declared.plan_error.PlanCause.TheVariants as causes
use Rattle.unit_plan.specs.declared.plan_error.PlanFault.{PlanFault}
use Rattle.unit_plan.specs.declared.plan_error.PlanError.{PlanError}
use Rattle.unit_plan.specs.declared.plan_error.PlanError.TheVariants as errors
use Rattle.unit_plan.specs.PlanLines.{PlanLines}
use Rattle.unit_plan.specs.Plan.{plan_of}
use Rattle.unit_state.specs.declared.state.State.{State}
use Rattle.unit_state.specs.Initial.{initial}
use Rattle.unit_image.specs.Beginning.{SaysPlan, image_of_plan}
use Rattle.unit_image.specs.Shows.{ShowsNone}
use Rattle.cli_image.specs.declared.init.InitEnd.{InitEnd}
use Rattle.cli_image.specs.declared.init.InitEnd.TheVariants.{Made, ImageExists, Refused, SourceFault, SiteFault}
use Rattle.cli_image.specs.declared.init.InitEnd.TheVariants.{NoMemory}
use Rattle.record_io.specs.declared.status.TheConstants as statuses
use Rattle.command_words.specs.Lines.{source_fault_text}
use Rattle.record_io.specs.Outcome.{Ends, line}

-- The first line of a text that has a cause: of those that reading finds, or where there is none, the first that the
-- books refuse.
abbrev pub IsPlanFault : List ℕ → PlanFault → Type 0
IsPlanFault text fault = (plan_of text ≡ Err fault)
    ⊎ ((plan : PlanLines) × (plan_of text ≡ Ok plan) × (initial plan ≡ Err fault))

-- a text is this plan, whose lines make this state; or it is none, for its first fault; out of memory needs no cause
abbrev pub JudgesPlan : List ℕ → Result (PlanLines × State) PlanError → Type 0
JudgesPlan text (Ok (plan, first)) = SaysPlan text plan first
JudgesPlan text (Err (errors.Refused fault)) = IsPlanFault text fault
JudgesPlan text (Err errors.NoMemory) = ⊤

-- the word for what is wrong with a line
abbrev pub cause_word : PlanCause → List ℕ
cause_word causes.Long = codes "long"
cause_word causes.Form = codes "form"
cause_word causes.Order = codes "order"
cause_word causes.Range = codes "range"
cause_word causes.Twice = codes "twice"
cause_word causes.Unknown = codes "unknown"
cause_word causes.Refused = codes "refused"

abbrev pub cause_text : PlanCause → List ℕ
cause_text cause = codes " " ++ (cause_word cause ++ codes "\n")

-- the line and its cause
abbrev pub plan_fault_text : PlanFault → List ℕ
plan_fault_text fault = codes "plan line " ++ (decimal fault.line ++ cause_text fault.cause)

-- the text that is due; where the image is made, there is none
abbrev pub init_text : InitEnd → List ℕ
init_text Made = []
init_text ImageExists = line (codes "image exists")
init_text (Refused fault) = plan_fault_text fault
init_text SourceFault = source_fault_text
init_text SiteFault = line (codes "site fault")
init_text NoMemory = line (codes "no memory")

abbrev pub init_status : InitEnd → ℕ
init_status Made = statuses.DONE
init_status ImageExists = statuses.NO_STATE
init_status (Refused fault) = statuses.MALFORMED
init_status SourceFault = statuses.SOURCE_FAULT
init_status SiteFault = statuses.SITE_FAULT
init_status NoMemory = statuses.NO_MEMORY

-- Why `init` ends so, and what stands before the text is put: the initial image of the plan, on the disk, or all as it
-- was. After a fault of the site, if there was no image and the input is a plan, what stands is that of `LeavesNoOther`
-- below; else all is as it was, and nothing was taken of the source (`unread`), as if an image exists. Out of memory
-- needs no cause.
abbrev pub InitEnds : (List ℕ → Type 0) → Type 0 → Type 0 → Bool → Type 0 → Trace → Trace → InitEnd → Type 0
InitEnds IsInput unread source_rose told site_rose old new Made = (input : List ℕ) × (plan : PlanLines)
    × (first : State)
    × IsInput input × SaysPlan input plan first × (IsTrue told → ((old.now.image ≡ []) × IsSynced new.now
    × (new.now.image ≡ image_of_plan input plan first) × (new.now.sunk ≡ old.now.sunk)))
InitEnds IsInput unread source_rose told site_rose old new ImageExists =
    unread × (IsTrue told → ((old.now.image ≢ []) × (new ≡ old)))
InitEnds IsInput unread source_rose told site_rose old new (Refused fault) = (input : List ℕ)
    × IsInput input × IsPlanFault input fault × (IsTrue told → ((old.now.image ≡ []) × (new ≡ old)))
InitEnds IsInput unread source_rose told site_rose old new SourceFault =
    source_rose × (IsTrue told → ((old.now.image ≡ []) × (new ≡ old)))
InitEnds IsInput unread source_rose told site_rose old new SiteFault = site_rose
    × ((unread × (IsTrue told → new ≡ old)) ⊎ ((input : List ℕ)
    × (plan : PlanLines) × (first : State) × IsInput input × SaysPlan input plan first
    × (IsTrue told → old.now.image ≡ [])))
InitEnds IsInput unread source_rose told site_rose old new NoMemory = IsTrue told → ((old.now.image ≡ []) × (new ≡ old))

-- the image is refused at its first octet, or it is the one that the plan of this input begins with
abbrev pub IsNoneOrInitial : List ℕ → List ℕ → Type 0
IsNoneOrInitial input image = ShowsNone image 0
    ⊎ ((plan : PlanLines) × (first : State) × SaysPlan input plan first × (image ≡ image_of_plan input plan first))

-- At each moment a crash leaves no unit, or that of the input's plan, and so never another one.
abbrev pub LeavesNoOther : (List ℕ → Type 0) → Trace → Trace → Type 0
LeavesNoOther IsInput old new = (input : List ℕ) × IsInput input
    × EachMoment old new (λ image sunk. IsNoneOrInitial input image)

-- How `init` ends: for one of these reasons, and then with the text and the status that are due. If there was no image,
-- no moment leaves another unit than that of the plan.
pub record EndsInit (IsInput : List ℕ → Type 0) (unread source_rose : Type 0) (told : Bool) (old new : Trace)
    (site_rose : Type 0) (status : ℕ) : Type 0 where
  pub middle : Trace
  pub end : InitEnd
  pub ends : InitEnds IsInput unread source_rose told site_rose old middle end
  pub put : Ends told middle new site_rose (init_text end) (init_status end) status
  pub moments : IsTrue told → old.now.image ≡ [] → LeavesNoOther IsInput old new
