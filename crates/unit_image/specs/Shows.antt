-- The state that an image of two banks shows (profile), or the offset that it is refused with.
use Rattle.std.specs.Prelude.{◌≡◌, ◌≢◌, ℕ, ◌+◌, ◌⊎◌, List, [], ◌∷◌, map, take, None, Some, Ok}
use Rattle.std.specs.List.{slice_get}
use Rattle.sdls_base.specs.declared.entry.Change.{Change}
use Rattle.sdls_base.specs.declared.version.Version.{Version}
use Rattle.unit_plan.specs.PlanLines.{PlanLines}
use Rattle.unit_plan.specs.Plan.{plan_of}
use Rattle.unit_state.specs.declared.state.State.{State}
use Rattle.unit_state.specs.Applied.{applied}
use Rattle.unit_state.specs.Allows.{Allows}
use Rattle.unit_state.specs.Restart.{restarted}
use Rattle.book_record.specs.Record.{IsRecord}
use Rattle.unit_image.specs.ContentReading.{IsContent}
use Rattle.disk_journal.specs.declared.layout.TheConstants.{PLAN_AT, SLOT_COUNT_AT, CONTENT_AT}
use Rattle.disk_journal.specs.Image.{Held, held, current_at, record_at}
use Rattle.disk_journal.specs.Fault.{image_fault}
use Rattle.disk_journal.specs.Forms.{Holds}

-- the text says this plan, which has no line of a key or an association
pub record SaysBarePlan (text : List ℕ) (plan : PlanLines) : Type 0 where
  pub read : plan_of text ≡ Ok plan
  pub no_keys : plan.keys ≡ []
  pub no_associations : plan.associations ≡ []

-- the content of this version is that of this state, which has the channels and the device field of the plan
pub record IsContentUnder (plan : PlanLines) (version : Version) (content : List ℕ) (state : State) : Type 0 where
  pub channels : state.channels ≡ map (λ row. row.0) plan.channels
  pub device : state.device ≡ plan.device
  pub spelled : IsContent version state content

-- the bodies, in order, are records of changes that the states before them allow, and the last state is what they lead
-- to
abbrev pub LeadTo : State → List (List ℕ) → State → Type 0
LeadTo state [] last = last ≡ state
LeadTo state (body ∷ bodies) last =
    (change : Change) × IsRecord change body × Allows state change × LeadTo (applied state change) bodies last

-- what stands in an image begins with this state
pub record Begins (what : Held) (first : State) : Type 0 where
  pub plan : PlanLines
  pub said : SaysBarePlan what.plan plan
  pub same_slots : plan.slots ≡ what.slots
  pub content : IsContentUnder plan what.version what.content first

-- What stands in an image says this state: what a restart leaves of the content's state after the records.
pub record SaysState (what : Held) (state : State) : Type 0 where
  pub first : State
  pub begins : Begins what first
  pub last : State
  pub led : LeadTo first what.records last
  pub left : state ≡ restarted last

-- all checks of the image pass, and what stands in it says this state
pub record Shows (image : List ℕ) (state : State) : Type 0 where
  pub what : Held
  pub holds : Holds image what
  pub says : SaysState what state

-- the body at this place is no record of a change that the state allows
pub record IsNoChangeAt (bodies : List (List ℕ)) (place : ℕ) (state : State) : Type 0 where
  pub body : List ℕ
  pub there : slice_get bodies place ≡ Some body
  pub bad : (change : Change) → IsRecord change body → ¬ Allows state change

-- the first body that is none
pub record IsBadRecord (state : State) (bodies : List (List ℕ)) (place : ℕ) : Type 0 where
  pub before : State
  pub led : LeadTo state (take place bodies) before
  pub unfit : IsNoChangeAt bodies place before

-- What an image holds says no state, and this is the offset of the first check that fails: that the text is a plan
-- without keys and associations; that the slots are the plan's; that the content is one; that each record is of a
-- change that is allowed.
abbrev pub SaysNone : List ℕ → Held → ℕ → Type 0
SaysNone image what offset =
    (((plan : PlanLines) → ¬ SaysBarePlan what.plan plan) × (offset ≡ PLAN_AT))
    ⊎ ((plan : PlanLines) × SaysBarePlan what.plan plan × (plan.slots ≢ what.slots) × (offset ≡ SLOT_COUNT_AT))
    ⊎ ((plan : PlanLines) × SaysBarePlan what.plan plan × (plan.slots ≡ what.slots)
    × ((state : State) → ¬ IsContentUnder plan what.version what.content state)
    × (offset ≡ current_at image + CONTENT_AT))
    ⊎ ((first : State) × Begins what first
    × ((place : ℕ) × IsBadRecord first what.records place × (offset ≡ record_at image place)))

-- the image shows no state, and this is the offset of the first check that fails: one of the journal's, or one of these
abbrev pub ShowsNone : List ℕ → ℕ → Type 0
ShowsNone image offset =
    (image_fault image ≡ Some offset) ⊎ ((image_fault image ≡ None) × SaysNone image (held image) offset)
