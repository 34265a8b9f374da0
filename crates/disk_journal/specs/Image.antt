-- What an image of two banks says (profile): the fields of its header, its plan, its content and its records.
use Rattle.std.specs.Prelude.{◌≡◌, ◌≢◌, ℕ, ◌<◌, ◌==◌, ◌⊎◌, Bool, List, [], ◌∷◌, ◌++◌, length, take, drop, slice_index}
use Rattle.std.specs.Prelude.{slice_set}
use Rattle.sdls_base.specs.declared.version.Version.{Version}
use Rattle.sdls_base.specs.declared.version.Version.TheVariants.{Two}
use Rattle.disk_journal.specs.declared.layout.TheConstants.{HEADER_LENGTH, OPEN, CLOSED, MIGRATED_AT}
use Rattle.disk_journal.specs.Slots.{gated}
use Rattle.disk_journal.specs.Header.{header_of, plan_length_in, slot_count_in, form_in}
use Rattle.disk_journal.specs.declared.layout.Bank.{Bank}
use Rattle.disk_journal.specs.declared.layout.Bank.TheVariants.{First, Second}
use Rattle.disk_journal.specs.declared.layout.Layout.{Layout}
use Rattle.disk_journal.specs.declared.layout.HeaderForm.TheVariants.{Old}
use Rattle.disk_journal.specs.Banks.{version_of, layout_of, bank_at, other, slot_at, slot_gate, slot_body, next, chosen}
use Rattle.disk_journal.specs.Banks.{bank_generation, bank_content}

-- where the banks stand
unfoldable pub image_layout : List ℕ → Layout
image_layout image = layout_of (form_in (header_of image)) (slot_count_in (header_of image))

-- how much its contents have room for
abbrev pub version_in : List ℕ → Version
version_in image = version_of (image_layout image).form

-- the slots of a bank
abbrev pub slot_count : List ℕ → ℕ
slot_count image = (image_layout image).slots

-- the text of the plan
unfoldable pub plan_of : List ℕ → List ℕ
plan_of image = take (plan_length_in (header_of image)) (drop HEADER_LENGTH image)

-- whether a bank is open
abbrev pub is_open : List ℕ → Bank → Bool
is_open image bank = slice_index image (bank_at (image_layout image) bank) == OPEN

abbrev pub generation_of : List ℕ → Bank → ℕ
generation_of image bank = bank_generation image (bank_at (image_layout image) bank)

-- the open bank, or of two open ones the one of the later generation
unfoldable pub current : List ℕ → Bank
current image = chosen (is_open image First) (is_open image Second)
    (generation_of image Second == next (generation_of image First))

-- where the current bank begins, and where the other one does
abbrev pub current_at : List ℕ → ℕ
current_at image = bank_at (image_layout image) (current image)

abbrev pub other_at : List ℕ → ℕ
other_at image = bank_at (image_layout image) (other (current image))

-- the content of the current bank
abbrev pub content : List ℕ → List ℕ
content image = bank_content (image_layout image) image (current_at image)

-- the records of the journal: the bodies of the current bank's slots before the first closed one
unfoldable pub records : List ℕ → List (List ℕ)
records image = gated (slot_gate (image_layout image) image (current_at image))
    (slot_body (image_layout image) image (current_at image)) (slot_count image) 0

-- the first closed slot; if none is closed, the number of slots
abbrev pub first_closed : List ℕ → ℕ
first_closed image = length (records image)

-- where the record with this index stands
abbrev pub record_at : List ℕ → ℕ → ℕ
record_at image index = slot_at (image_layout image) (current_at image) index

-- What stands in an image: the text of the plan, the number of slots, the version, the content and the records.
pub record Held : Type 0 where
  pub plan : List ℕ
  pub slots : ℕ
  pub version : Version
  pub content : List ℕ
  pub records : List (List ℕ)

abbrev pub held : List ℕ → Held
held image = record {
  plan = plan_of image;
  slots = slot_count image;
  version = version_in image;
  content = content image;
  records = records image;
}

-- the old with one record more
abbrev pub grown : List ℕ → Held → Held
grown body old = record old { records = old.records ++ body ∷ [] }

-- the old with another content and no records
abbrev pub turned : List ℕ → Held → Held
turned content old = record old { content = content; records = [] }

-- the old, once it is migrated to version 2 with this content
abbrev pub migrated : List ℕ → Held → Held
migrated content old = record old { version = Two; content = content; records = [] }

-- A closed gate that is not 0 stands here: that of the current bank's first closed slot, that of the other bank, or in
-- an image of version 1 the octet that migrates it.
abbrev pub IsClosedGate : List ℕ → ℕ → Type 0
IsClosedGate image at = (slice_index image at ≢ CLOSED)
    × (((first_closed image < slot_count image) × (at ≡ record_at image (first_closed image)))
    ⊎ (at ≡ other_at image)
    ⊎ (((image_layout image).form ≡ Old) × (at ≡ MIGRATED_AT)))

-- the image with one closed gate opened
abbrev pub IsOpenedForm : List ℕ → List ℕ → Type 0
IsOpenedForm image form = (at : ℕ) × IsClosedGate image at × (slice_index image at ≢ OPEN)
    × (form ≡ slice_set image at OPEN)

-- no closed gate is other than 0
abbrev pub IsAtRest : List ℕ → Type 0
IsAtRest image = (at : ℕ) → IsClosedGate image at → ⊥
