-- A journal over the image of a site, and why its calls fail (profile).
use Rattle.std.specs.Prelude.{◌≡◌, ⊤, ℕ, ◌+◌, ◌≤◌, List, length, None, Result, Ok, Err, IfErr}
use Rattle.sdls_outside.specs.Disk.{IsSynced}
use Rattle.sdls_outside.specs.Moments.{Trace}
use Rattle.sdls_outside.specs.Faults.{Rose}
use Rattle.disk_journal.specs.declared.layout.JournalFault.{JournalFault}
use Rattle.disk_journal.specs.declared.layout.JournalFault.TheVariants.{SiteFault, Image}
use Rattle.disk_journal.specs.declared.layout.Bank.{Bank}
use Rattle.disk_journal.specs.declared.layout.Layout.{Layout}
use Rattle.disk_journal.specs.declared.layout.TheConstants.{BANKS_AT, HEADER_LENGTH}
use Rattle.disk_journal.specs.Banks.{bank_length, bank_generation}
use Rattle.disk_journal.specs.Image.{image_layout, plan_of, current, current_at, other_at, first_closed, IsAtRest}
use Rattle.disk_journal.specs.Fault.{header_checks, banks_part, image_fault}
use Rattle.sdls_base.specs.FirstFailing.{first_failing}
use Rattle.disk_journal.specs.Header.{header_of, plan_length_in}
use Rattle.disk_journal.specs.Changes.{IsZero}

-- what a journal knows of its image: the octets of the plan, where the banks stand, which one is current, its
-- generation, and how many of its slots hold records
pub record JournalView : Type 0 where
  pub plan_length : ℕ
  pub layout : Layout
  pub bank : Bank
  pub generation : ℕ
  pub used : ℕ

-- the image opens, and this is what it says
pub record IsJournalOf (image : List ℕ) (journal : JournalView) : Type 0 where
  pub opens : image_fault image ≡ None
  pub plan : journal.plan_length ≡ length (plan_of image)
  pub layout : journal.layout ≡ image_layout image
  pub bank : journal.bank ≡ current image
  pub generation : journal.generation ≡ bank_generation image (current_at image)
  pub used : journal.used ≡ first_closed image

-- the journal is the one of the site's image, all of which is on the disk
pub record IsOpen (trace : Trace) (journal : JournalView) : Type 0 where
  pub synced : IsSynced trace.now
  pub of_image : IsJournalOf trace.now.image journal

-- The journal is the one of the image, whose closed gates are 0 and whose other bank is zero.
pub record IsClosed (image : List ℕ) (journal : JournalView) : Type 0 where
  pub of_image : IsJournalOf image journal
  pub rests : IsAtRest image
  pub spare : IsZero (other_at image) (other_at image + bank_length (image_layout image)) image

-- If it was migrated, its old banks are zero too. It can take a record or turn.
pub record IsSettledImage (image : List ℕ) (journal : JournalView) : Type 0 where
  pub closed : IsClosed image journal
  pub old_banks : IsZero BANKS_AT (image_layout image).banks image

pub record IsSettled (trace : Trace) (journal : JournalView) : Type 0 where
  pub synced : IsSynced trace.now
  pub of_image : IsSettledImage trace.now.image journal

-- A fault of the site carries the count of faults, which rose in the call; the other one has the cause given.
abbrev pub IsCause : ℕ → ℕ → (ℕ → Type 0) → JournalFault → Type 0
IsCause before now image (SiteFault count) = Rose before now × (count ≡ now)
IsCause before now image (Image offset) = image offset

-- the count of faults stands where it was, unless a fault of the site is answered
abbrev pub FaultsStand : {T : Type 0} → ℕ → ℕ → Result T JournalFault → Type 0
FaultsStand before now (Ok value) = now ≡ before
FaultsStand before now (Err (SiteFault count)) = ⊤
FaultsStand before now (Err (Image offset)) = now ≡ before

-- the count of faults never falls, and stands but after a fault of the site; a fault that is answered has its cause
pub record HasFault {T : Type 0} (before now : ℕ) (image : ℕ → Type 0) (result : Result T JournalFault) : Type 0 where
  pub later : before ≤ now
  pub stood : FaultsStand before now result
  pub cause : IfErr result (IsCause before now image)

-- the same for a call that is failed by the site alone
abbrev pub HasSiteFault : {T : Type 0} → ℕ → ℕ → Result T JournalFault → Type 0
HasSiteFault before now result = HasFault before now (λ offset. ⊥) result

-- the image is long enough for a header, and this is what a header says that passes its checks
pub record IsHeaderOf (image : List ℕ) (plan_length : ℕ) (layout : Layout) : Type 0 where
  pub whole : HEADER_LENGTH ≤ length image
  pub passes : first_failing (header_checks (header_of image) (length image)) ≡ None
  pub plan : plan_length ≡ plan_length_in (header_of image)
  pub layout_is : layout ≡ image_layout image

-- the banks pass their checks, and this is the current one, with this generation
pub record IsCurrent (image : List ℕ) (bank : Bank) (generation : ℕ) : Type 0 where
  pub passes : first_failing (banks_part image) ≡ None
  pub is_current : bank ≡ current image
  pub generation_is : generation ≡ bank_generation image (current_at image)
