-- How `stat` ends (profile).
use Rattle.std.specs.Prelude.{◌≡◌, ◌≢◌, ◌⊎◌, ℕ, Bool, IsTrue, List, ◌++◌, codes, decimal, Ok}
use Rattle.sdls_outside.specs.Disk.{Leaves}
use Rattle.sdls_outside.specs.Moments.{Trace, EachMoment, Between}
use Rattle.unit_image.specs.Image.{held, IsOpenedForm, used_next}
use Rattle.unit_image.specs.OpeningImage.{LeftByOpening}
use Rattle.unit_plan.specs.PlanLines.{PlanLines}
use Rattle.unit_plan.specs.Plan.{plan_of}
use Rattle.unit_state.specs.declared.state.State.{State}
use Rattle.unit_state.specs.Restart.{restarted}
use Rattle.unit_image.specs.declared.opening_image.OpenFault.{OpenFault}
use Rattle.unit_image.specs.declared.opening_image.OpenFault.TheVariants as faults
use Rattle.unit_image.specs.Shows.{Shows, ShowsNone}
use Rattle.run_promise.specs.Sound.{HasPlan}
use Rattle.unit_book.specs.Book.{BookView}
use Rattle.status_text.specs.Text.{status_text}
use Rattle.record_io.specs.declared.status.TheConstants as statuses
use Rattle.cli_image.specs.declared.stat.StatEnd.{StatEnd}
use Rattle.cli_image.specs.declared.stat.StatEnd.TheVariants.{Told, SiteFault, NoMemory, NoState}
use Rattle.record_io.specs.Outcome.{line}

abbrev pub stat_status : StatEnd → ℕ
stat_status Told = statuses.DONE
stat_status SiteFault = statuses.SITE_FAULT
stat_status NoMemory = statuses.NO_MEMORY
stat_status (NoState offset) = statuses.NO_STATE

abbrev pub image_text : ℕ → List ℕ
image_text offset = codes "image at " ++ (decimal offset ++ codes "\n")

-- why there is no state to be told
abbrev pub end_of_open : OpenFault → StatEnd
end_of_open (faults.SiteFault count) = SiteFault
end_of_open (faults.Image offset) = NoState offset
end_of_open faults.NoMemory = NoMemory

-- the line that says so
abbrev pub fault_text : StatEnd → List ℕ
fault_text Told = line (codes "no memory")
fault_text SiteFault = line (codes "site fault")
fault_text NoMemory = line (codes "no memory")
fault_text (NoState offset) = image_text offset

-- the image says this plan and shows this state, with so many slots used once it is opened, and this is their text
pub record TellsState (image text : List ℕ) : Type 0 where
  pub plan : PlanLines
  pub state : State
  pub says : plan_of (held image).plan ≡ Ok plan
  pub shows : Shows image state
  pub text_is : text ≡ status_text state (used_next image) plan.slots

-- why `stat` ends so, and the text that is due; that memory runs out needs no cause
abbrev pub StatDue : Bool → Type 0 → List ℕ → List ℕ → StatEnd → Type 0
StatDue told site_rose image text Told = IsTrue told → TellsState image text
StatDue told site_rose image text SiteFault = site_rose × (text ≡ line (codes "site fault"))
StatDue told site_rose image text NoMemory = text ≡ line (codes "no memory")
StatDue told site_rose image text (NoState offset) = (IsTrue told → ShowsNone image offset) × (text ≡ image_text offset)

-- the image shows what a restart leaves of the state, and has no opened form
pub record ShowsAlone (state : State) (image : List ℕ) : Type 0 where
  pub shows : Shows image (restarted state)
  pub no_form : (form : List ℕ) → ¬ IsOpenedForm image form

-- A moment of `stat`: what a crash then leaves, one at the entry may leave too; or the opening of the image as read may
-- leave it; or it shows the state that was shown.
abbrev pub StatMoment : Trace → List ℕ → Type 0
StatMoment entry image = Leaves entry.now image ⊎ (LeftByOpening entry.now.image image
    ⊎ ((state : State) × Shows entry.now.image state × ShowsAlone state image))

-- The text was put whole, and the status is the one that is due; or a put failed, a front of the text was put, and the
-- status says so.
abbrev pub PutsText : Bool → List ℕ → ℕ → ℕ → Trace → Trace → Type 0 → Type 0
PutsText told text due status old new site_rose =
    ((status ≡ due) × (IsTrue told → new.now.sunk ≡ old.now.sunk ++ text))
    ⊎ ((status ≡ statuses.SITE_FAULT) × site_rose ×
    (IsTrue told → Between old.now.sunk (old.now.sunk ++ text) new.now.sunk))

-- what is written of a book that was opened: its state, or that memory ran out
abbrev pub TellsBook : BookView → List ℕ → StatEnd → Type 0
TellsBook book text Told = text ≡ status_text book.state book.journal.used book.plan.slots
TellsBook book text SiteFault = ⊥
TellsBook book text NoMemory = text ≡ line (codes "no memory")
TellsBook book text (NoState offset) = ⊥

-- the image stands as it was, and a crash leaves at each moment what it may leave at the entry
abbrev pub IsLeft : Trace → Trace → Type 0
IsLeft old new = (new.now.image ≡ old.now.image) × EachMoment old new (λ image sunk. Leaves old.now image)

-- How `stat` ends: with the text and the status that are due, or a front of the text if a put failed; and what its
-- moments leave.
pub record EndsStat (told : Bool) (old new : Trace) (site_rose : Type 0) (status : ℕ) : Type 0 where
  pub end : StatEnd
  pub text : List ℕ
  pub due : StatDue told site_rose old.now.image text end
  pub put : PutsText told text (stat_status end) status old new site_rose
  pub moments : IsTrue told → EachMoment old new (λ image sunk. StatMoment old image)
  -- an image that shows no state is left as it was, whatever the end
  pub refused : IsTrue told → (offset : ℕ) → ShowsNone old.now.image offset → IsLeft old new
  -- one that shows a state shows it still, unless the site failed; where that was told, it has no opened form
  pub stands : IsTrue told → (state : State) → Shows old.now.image state → end ≢ SiteFault → Shows new.now.image state
  pub alone : IsTrue told → end ≡ Told → (form : List ℕ) → ¬ IsOpenedForm new.now.image form
  -- the plan in an image that shows a state is at each moment the one at the entry, octet for octet
  pub same_plan : IsTrue told → (state : State) → Shows old.now.image state
      → EachMoment old new (λ image sunk. Leaves old.now image ⊎ HasPlan (held old.now.image).plan image)
  -- so it is in the image that stands, where its state was told
  pub plan_stands : IsTrue told → end ≡ Told → (held new.now.image).plan ≡ (held old.now.image).plan
