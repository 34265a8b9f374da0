-- The writes that change an image of two banks (profile).
use Rattle.std.specs.Prelude.{◌≡◌, ◌≢◌, ℕ, ◌+◌, ◌-◌, ◌*◌, ◌<◌, ◌≤◌, ◌⊎◌, List, [], ◌∷◌, length, take, drop}
use Rattle.std.specs.Prelude.{slice_index, max}
use Rattle.byteorder.specs.Endian.{big_bytes}
use Rattle.sdls_outside.specs.Disk.{Disk, Outside}
use Rattle.sdls_outside.specs.Moments.{Trace}
use Rattle.sdls_outside.specs.Site.{overwritten}
use Rattle.disk_journal.specs.declared.layout.TheConstants.{OPEN, CLOSED}
use Rattle.disk_journal.specs.Moments.{AllBut, EachImage}
use Rattle.disk_journal.specs.declared.layout.Layout.{Layout}
use Rattle.disk_journal.specs.declared.layout.HeaderForm.{HeaderForm}
use Rattle.disk_journal.specs.declared.layout.HeaderForm.TheVariants.{Old}
use Rattle.disk_journal.specs.Banks.{head_length, bank_length, bank_content, image_end}
use Rattle.disk_journal.specs.declared.layout.TheConstants.{BANKS_AT, MIGRATED_AT, GENERATION_AT, GENERATION_LENGTH}
use Rattle.disk_journal.specs.declared.layout.TheConstants.{CONTENT_AT}

-- new is old before this place, and at least as long
pub record KeepsBelow (at : ℕ) (old new : List ℕ) : Type 0 where
  pub no_shorter : length old ≤ length new
  pub below : (i : ℕ) → i < at → slice_index new i ≡ slice_index old i

-- new is old from this place on, and ends there, or where old does if that is later
pub record KeepsPast (at : ℕ) (old new : List ℕ) : Type 0 where
  pub length_is : length new ≡ max (length old) at
  pub past : (i : ℕ) → at ≤ i → slice_index new i ≡ slice_index old i

-- new is old outside of this range, and may have grown up to the range's end
pub record KeepsOutside (at count : ℕ) (old new : List ℕ) : Type 0 where
  pub no_shorter : length old ≤ length new
  pub no_longer : length new ≤ max (length old) (at + count)
  pub outside : (i : ℕ) → (i < at) ⊎ (at + count ≤ i) → slice_index new i ≡ slice_index old i

-- All that is pending lies in this range, up to which the image stands on the disk.
pub record IsPendingIn (at count : ℕ) (disk : Disk) : Type 0 where
  pub within : at ≤ length disk.synced
  pub away : (i : ℕ) → i < length disk.synced → (i < at) ⊎ (at + count ≤ i) → Outside disk.ranges i
  pub keeps : KeepsOutside at count disk.synced disk.image

-- a row of writes in this range, which one sync is to bring to the disk
pub record Row (at count : ℕ) (old new : Trace) : Type 0 where
  pub each : EachImage old new (KeepsOutside at count old.now.synced)
  pub pending : IsPendingIn at count new.now
  pub synced : new.now.synced ≡ old.now.synced

-- What was written lies in this range: it goes on with a row in any range around it.
abbrev pub WritesIn : ℕ → ℕ → Trace → Trace → Type 0
WritesIn at count old new = (from size : ℕ) → from ≤ at → at + count ≤ from + size → IsPendingIn from size old.now
    → Row from size old new

-- new is old, but for what stands in the banks
abbrev pub KeepsBeside : Layout → List ℕ → List ℕ → Type 0
KeepsBeside layout old new = AllBut layout.banks (2 * bank_length layout) old new

-- new is old, but for what stands in the banks, and for the octet that migrates an image
pub record KeepsPlan (layout : Layout) (old new : List ℕ) : Type 0 where
  pub same_length : length new ≡ length old
  pub outside : (i : ℕ) → (i < MIGRATED_AT) ⊎ ((MIGRATED_AT < i) × (i < BANKS_AT)) ⊎ (image_end layout ≤ i)
      → slice_index new i ≡ slice_index old i

-- each octet from one place to before another is 0
abbrev pub IsZero : ℕ → ℕ → List ℕ → Type 0
IsZero from to image = (i : ℕ) → from ≤ i → i < to → slice_index image i ≡ 0

abbrev pub with_gate : ℕ → ℕ → List ℕ → List ℕ
with_gate octet bank image = overwritten image bank (octet ∷ [])

-- the image with this generation and content in the bank that begins here
abbrev pub filled : ℕ → ℕ → List ℕ → List ℕ → List ℕ
filled bank generation content image =
    overwritten (overwritten image (bank + GENERATION_AT) (big_bytes GENERATION_LENGTH generation)) (bank + CONTENT_AT)
    content

-- new is old, but that so many octets from here on are 0
pub record IsErased (at size : ℕ) (old new : List ℕ) : Type 0 where
  pub change : AllBut at size old new
  pub zero : IsZero at (at + size) new

-- A moment of a turn from the bank at `from` to the bank at `to`, of these lengths: the other bank is filled; its gate
-- is opened; the old gate is closed; the rest of the old bank is zeroed.
abbrev pub Steps : ℕ → ℕ → ℕ → ℕ → ℕ → List ℕ → List ℕ → List ℕ → Type 0
Steps from to head size generation content old image =
    AllBut (to + 1) (head - 1) old image
    ⊎ AllBut to 1 (filled to generation content old) image
    ⊎ AllBut from 1 (with_gate OPEN to (filled to generation content old)) image
    ⊎ AllBut (from + 1) (size - 1) (with_gate CLOSED from (with_gate OPEN to (filled to generation content old))) image

-- new is old, or old with another octet here, which is not 0 in old
abbrev pub Gated : ℕ → List ℕ → List ℕ → Type 0
Gated at old new = (new ≡ old) ⊎ ((slice_index old at ≢ CLOSED) × AllBut at 1 old new)

-- new is old, or old with another octet as the gate of this slot, which is there and whose gate is not 0
abbrev pub GatedSlot : ℕ → ℕ → ℕ → List ℕ → List ℕ → Type 0
GatedSlot at index slots old new = (new ≡ old) ⊎ ((index < slots) × (slice_index old at ≢ CLOSED) × AllBut at 1 old new)

-- new is old, or old with another octet in the place of the one that migrates an image, which is of version 1 and has
-- another octet than 0 there
abbrev pub GatedForm : HeaderForm → List ℕ → List ℕ → Type 0
GatedForm form old new =
    (new ≡ old) ⊎ ((form ≡ Old) × (slice_index old MIGRATED_AT ≢ CLOSED) × AllBut MIGRATED_AT 1 old new)

-- the image that says that it was migrated
abbrev pub with_migration : List ℕ → List ℕ
with_migration image = overwritten image MIGRATED_AT (OPEN ∷ [])

-- From where the banks of this layout begin there are two, of which the first is open, with this generation and content
-- and slots that are zero; the second is zero.
pub record HasNewBanks (layout : Layout) (generation : ℕ) (content image : List ℕ) : Type 0 where
  pub long : image_end layout ≤ length image
  pub gate : slice_index image layout.banks ≡ OPEN
  pub has_generation : take GENERATION_LENGTH (drop (layout.banks + GENERATION_AT) image)
      ≡ big_bytes GENERATION_LENGTH generation
  pub has_content : bank_content layout image layout.banks ≡ content
  pub zero : IsZero (layout.banks + head_length layout) (image_end layout) image

-- old with new banks behind its own, which end the image, if it was no longer
pub record IsLaidBehind (layout : Layout) (generation : ℕ) (content old laid : List ℕ) : Type 0 where
  pub keeps : KeepsBelow layout.banks old laid
  pub past : KeepsPast (image_end layout) old laid
  pub banks : HasNewBanks layout generation content laid

-- A moment of a migration to banks of this layout: they are written; then the octet that migrates the image; then the
-- old banks are zeroed.
abbrev pub Migrates : Layout → ℕ → List ℕ → List ℕ → List ℕ → Type 0
Migrates layout generation content old image =
    KeepsBelow layout.banks old image
    ⊎ ((laid : List ℕ) × IsLaidBehind layout generation content old laid × (AllBut MIGRATED_AT 1 laid image
    ⊎ AllBut BANKS_AT (layout.banks - BANKS_AT) (with_migration laid) image))
