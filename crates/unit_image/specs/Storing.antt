-- How a change of the state is stored in an image of two banks (profile).
use Rattle.std.specs.Prelude.{◌≡◌, ℕ, Bool, IsTrue, List, length, take, Result, OnErr, OnOk}
use Rattle.sdls_base.specs.declared.entry.Change.{Change}
use Rattle.sdls_base.specs.declared.entry.Change.TheVariants.{Marks, Load, KeyStates, Create, Rekey, SaTo, SetNumber}
use Rattle.sdls_base.specs.declared.entry.Change.TheVariants.{SetWindow, Accepted, Nothing}
use Rattle.sdls_base.specs.declared.states.KeyState.TheVariants.{Destroyed}
use Rattle.sdls_base.specs.declared.version.Version.TheVariants.{Two}
use Rattle.sdls_outside.specs.Disk.{Leaves}
use Rattle.sdls_outside.specs.Moments.{Trace}
use Rattle.disk_journal.specs.Moments.{EachImage}
use Rattle.unit_state.specs.declared.state.State.{State}
use Rattle.unit_state.specs.Applied.{applied}
use Rattle.unit_state.specs.Restart.{restarted}
use Rattle.unit_image.specs.Content.{content_of}
use Rattle.disk_journal.specs.declared.layout.HeaderForm.{HeaderForm}
use Rattle.disk_journal.specs.declared.layout.TheConstants.{BANKS_AT, OPEN}
use Rattle.disk_journal.specs.Banks.{image_end, layout_of}
use Rattle.disk_journal.specs.Changes.{KeepsBeside}
use Rattle.disk_journal.specs.Image.{Held, held, image_layout}
use Rattle.disk_journal.specs.Initial.{front_image, rest_image}
use Rattle.disk_journal.specs.Forms.{Becomes}
use Rattle.disk_journal.specs.Journal.{IsSettled, JournalView}
use Rattle.disk_journal.specs.Rest.{IsRest}
use Rattle.unit_image.specs.Shows.{SaysState}

-- the change takes away the octets of keys
abbrev pub Destroys : Change → Type 0
Destroys (Marks key mark floor) = ⊥
Destroys (Load items) = ⊥
Destroys (KeyStates ids to) = to ≡ Destroyed
Destroys (Create new) = ⊥
Destroys (Rekey spi key number) = ⊥
Destroys (SaTo spi to) = ⊥
Destroys (SetNumber spi number) = ⊥
Destroys (SetWindow spi window) = ⊥
Destroys (Accepted spi key number floor) = ⊥
Destroys Nothing = ⊥

-- What was held said the state; what is held next says it after the change, under the same plan. Each moment is on the
-- way from the one to the other, and after Ok the next is held, at rest.
pub record Stores {T E : Type 0} (state : State) (change : Change) (result : Result T E) (journal : JournalView)
    (old new : Trace) : Type 0 where
  pub next : Held
  pub same_plan : next.plan ≡ (held old.now.image).plan
  pub same_slots : next.slots ≡ (held old.now.image).slots
  pub same_version : next.version ≡ (held old.now.image).version
  pub says : SaysState (held old.now.image) (restarted state) → SaysState next (restarted (applied state change))
  pub moments : EachImage old new (Becomes (held old.now.image) next)
  pub done : OnOk result (IsSettled new journal × (held new.now.image ≡ next))

-- In whatever a crash leaves, each octet of all banks is stated: they hold this state, with no records.
abbrev pub LeavesRest : Trace → JournalView → State → Type 0
LeavesRest new journal state =
    (image : List ℕ) → Leaves new.now image → IsRest image journal.bank journal.generation (content_of Two state)

-- Outside its banks the image has the front of this plan alone: zeros from the plan's end up to the banks, and no octet
-- past the last one.
pub record HasPlanAlone (form : HeaderForm) (plan : List ℕ) (slots : ℕ) (image : List ℕ) : Type 0 where
  pub layout : image_layout image ≡ layout_of form slots
  pub front : take BANKS_AT image ≡ front_image form OPEN plan slots
  pub ends : length image ≡ image_end (layout_of form slots)

-- If the image as it was opened has a plan alone outside its banks, whatever a crash leaves is the image of that plan
-- and this state, with no records, from its first octet to its last.
abbrev pub LeavesRestImage : List ℕ → Trace → JournalView → State → Type 0
LeavesRestImage opened new journal state =
    (form : HeaderForm) (plan : List ℕ) (slots : ℕ) → HasPlanAlone form plan slots opened
    → (image : List ℕ) → Leaves new.now image
    → image ≡ rest_image form OPEN plan slots (content_of Two state) journal.generation journal.bank

-- the journal has its places in the image: as many octets of a plan, and the banks where they were
pub record KeepsPlaces (old new : JournalView) : Type 0 where
  pub plan_length : new.plan_length ≡ old.plan_length
  pub layout : new.layout ≡ old.layout

-- What a call that stores a change does, if contracts know what the site holds.
pub record StoresChange {T E : Type 0} (told : Bool) (state : State) (change : Change) (result : Result T E)
    (before after : JournalView) (old new : Trace) : Type 0 where
  pub stores : IsTrue told → Stores state change result after old new
  -- After a change that takes away the octets of keys, each octet of all banks is stated.
  pub gone : IsTrue told → OnOk result (Destroys change → LeavesRest new after (applied state change))
  -- what stands before the banks and past them is as it was
  pub beside : IsTrue told → OnOk result (KeepsBeside before.layout old.now.image new.now.image)
  -- the journal has its places in the image, and after a fault it is as it was
  pub places : KeepsPlaces before after
  pub not_counted : OnErr result (after ≡ before)
