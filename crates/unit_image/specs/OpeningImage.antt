-- Why the opening of an image fails, and what a crash in it leaves (profile).
use Rattle.std.specs.Prelude.{◌≡◌, ℕ, ◌+◌, ◌<◌, ◌≤◌, ◌⊎◌, ⊤, List, Some, Result, IfErr, OnOk, slice_index}
use Rattle.std.specs.List.{slice_get}
use Rattle.sdls_base.specs.declared.entry.Change.{Change}
use Rattle.sdls_base.specs.declared.version.Version.TheVariants.{One, Two}
use Rattle.sdls_outside.specs.Faults.{Rose}
use Rattle.book_record.specs.Record.{IsRecord}
use Rattle.unit_state.specs.Applied.{applied}
use Rattle.unit_state.specs.Allows.{Allows}
use Rattle.sdls_outside.specs.Disk.{Leaves}
use Rattle.sdls_outside.specs.Moments.{Trace}
use Rattle.unit_plan.specs.PlanLines.{PlanLines}
use Rattle.unit_state.specs.declared.state.State.{State}
use Rattle.disk_journal.specs.declared.layout.TheConstants.{BANKS_AT, PLAN_AT, CONTENT_AT, MIGRATED_AT}
use Rattle.disk_journal.specs.declared.layout.Layout.{Layout}
use Rattle.unit_image.specs.declared.opening_image.OpenFault.{OpenFault}
use Rattle.unit_image.specs.declared.opening_image.OpenFault.TheVariants.{SiteFault, Image, NoMemory}
use Rattle.disk_journal.specs.declared.layout.JournalFault.{JournalFault}
use Rattle.disk_journal.specs.declared.layout.JournalFault.TheVariants as journal_faults
use Rattle.disk_journal.specs.Banks.{image_end}
use Rattle.disk_journal.specs.Changes.{KeepsPast}
use Rattle.unit_image.specs.Content.{content_of}
use Rattle.unit_image.specs.ContentReading.{IsContent}
use Rattle.disk_journal.specs.Moments.{EachImage, OnlySyncs}
use Rattle.disk_journal.specs.Journal.{IsSettled, JournalView}
use Rattle.disk_journal.specs.Forms.{Becomes, Settles}
use Rattle.disk_journal.specs.Image.{Held, held, content, current_at, migrated, version_in}
use Rattle.unit_image.specs.Shows.{SaysBarePlan, IsContentUnder, Shows, ShowsNone}

-- A fault of the site carries the count of faults, which rose in the call; a refused image has the cause given; want of
-- memory needs none.
abbrev pub IsOpenCause : ℕ → ℕ → (ℕ → Type 0) → OpenFault → Type 0
IsOpenCause before now refused (SiteFault count) = Rose before now × (count ≡ now)
IsOpenCause before now refused (Image offset) = refused offset
IsOpenCause before now refused NoMemory = ⊤

-- the count of faults stands where it was, unless a fault of the site is answered
abbrev pub StandsUnlessFailed : ℕ → ℕ → OpenFault → Type 0
StandsUnlessFailed before now (SiteFault count) = ⊤
StandsUnlessFailed before now (Image offset) = now ≡ before
StandsUnlessFailed before now NoMemory = now ≡ before

-- The count of faults never falls, and stands after an Ok and after each fault that is not one of the site; a fault
-- that
-- is answered has its cause.
pub record HasOpenFault {T : Type 0} (before now : ℕ) (refused : ℕ → Type 0)
    (result : Result T OpenFault) : Type 0 where
  pub later : before ≤ now
  pub stood : OnOk result (now ≡ before)
  pub cause : IfErr result (IsOpenCause before now refused)
  pub calm : IfErr result (StandsUnlessFailed before now)

-- the image shows the state, unless a fault of the site is answered
abbrev pub ShowsUnlessFailed : List ℕ → State → OpenFault → Type 0
ShowsUnlessFailed image state (SiteFault count) = ⊤
ShowsUnlessFailed image state (Image offset) = Shows image state
ShowsUnlessFailed image state NoMemory = Shows image state

-- What an opening leaves that failed: an image that shows no state stands as it was, whatever the fault; one that shows
-- a state shows it still, unless the site failed.
pub record LeavesShown (old new : Trace) (fault : OpenFault) : Type 0 where
  pub none : (offset : ℕ) → ShowsNone old.now.image offset → OnlySyncs old new
  pub stands : (state : State) → Shows old.now.image state → ShowsUnlessFailed new.now.image state fault

-- a fault of a journal that is opened or read
abbrev pub as_open_fault : JournalFault → OpenFault
as_open_fault (journal_faults.SiteFault count) = SiteFault count
as_open_fault (journal_faults.Image offset) = Image offset

-- why a text is no plan without keys and associations; lack of memory needs no cause
abbrev pub IsTextCause : List ℕ → OpenFault → Type 0
IsTextCause text (SiteFault count) = ⊥
IsTextCause text (Image offset) = ((plan : PlanLines) → ¬ SaysBarePlan text plan) × (offset ≡ PLAN_AT)
IsTextCause text NoMemory = ⊤

-- the content of an image is that of no state under the plan, and this is where it begins
pub record IsNoContent (image : List ℕ) (plan : PlanLines) (offset : ℕ) : Type 0 where
  pub none : (state : State) → ¬ IsContentUnder plan (version_in image) (content image) state
  pub offset_is : offset ≡ current_at image + CONTENT_AT

-- the body at this place is the record of a change that the state allows, and the new state is the one after it
pub record TakesRecord (bodies : List (List ℕ)) (place : ℕ) (old new : State) : Type 0 where
  pub body : List ℕ
  pub there : slice_get bodies place ≡ Some body
  pub change : Change
  pub is_record : IsRecord change body
  pub allowed : Allows old change
  pub is : new ≡ applied old change

-- What an image of version 1 becomes when it is opened: what it holds, migrated to version 2 with the content of the
-- state that it shows.
pub record IsMigration (image : List ℕ) (next : Held) : Type 0 where
  pub of_one : version_in image ≡ One
  pub state : State
  pub shows : Shows image state
  pub content : List ℕ
  pub is_content : IsContent Two state content
  pub is : next ≡ migrated content (held image)

-- what is held once an image is opened: what it held, or its migration
abbrev pub IsHeldNext : List ℕ → Held → Type 0
IsHeldNext image next = (next ≡ held image) ⊎ IsMigration image next

-- what is held next, once an image that shows this state is brought up to version 2
abbrev pub IsBroughtUp : State → Held → Held → Type 0
IsBroughtUp state old next = (next ≡ old)
    ⊎ ((old.version ≡ One) × IsContent Two state (content_of Two state) × (next ≡ migrated (content_of Two state) old))

-- An image at rest, which shows this state, is brought up to version 2: each moment is on the way to what is held next,
-- which is held after Ok.
pub record BringsUp {T E : Type 0} (state : State) (result : Result T E) (journal : JournalView) (old new : Trace)
    : Type 0 where
  pub next : Held
  pub is : IsBroughtUp state (held old.now.image) next
  pub moments : EachImage old new (Becomes (held old.now.image) next)
  pub done : OnOk result (IsSettled new journal × (held new.now.image ≡ next))

-- What stands outside the banks once an image is opened, where this layout has them: the octets before all banks are as
-- they were, but for the one that migrates an image, and so are those past the banks. The image ends where it ended, or
-- with banks that were written behind its own.
pub record StaysOutside (layout : Layout) (old new : List ℕ) : Type 0 where
  pub before : (i : ℕ) → (i < MIGRATED_AT) ⊎ ((MIGRATED_AT < i) × (i < BANKS_AT))
      → slice_index new i ≡ slice_index old i
  pub past : KeepsPast (image_end layout) old new

-- Left is on the way from an image of version 1 to its migration.
pub record IsMigrating (image left : List ℕ) : Type 0 where
  pub next : Held
  pub is_migration : IsMigration image next
  pub becomes : Becomes (held image) next left

-- An opening of the image may leave this: it but for its closed gates, or what holds the same, as its opened forms do,
-- or what is on the way to its migration.
abbrev pub LeftByOpening : List ℕ → List ℕ → Type 0
LeftByOpening image left = Settles image left ⊎ IsMigrating image left

-- A moment while an image is opened: the image is one that a crash before might leave, or one that the opening of the
-- image that was read may leave; nothing is sunk.
abbrev pub Opening : Trace → List ℕ → List ℕ → Type 0
Opening entry image sunk = (Leaves entry.now image ⊎ LeftByOpening entry.now.image image) × (sunk ≡ entry.now.sunk)
