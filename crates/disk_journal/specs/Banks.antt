-- The header's forms and the two banks of an image (profile): where they stand, what stands in them, and which is the
-- current one.
use Rattle.std.specs.Prelude.{◌≡◌, ℕ, ◌+◌, ◌*◌, ◌%◌, ◌^◌, ◌<◌, ◌≤◌, Bool, if◌then◌else◌, List, take, drop, slice_index}
use Rattle.byteorder.specs.Endian.{big_number}
use Rattle.sdls_base.specs.declared.TheConstants.{BODY_LENGTH}
use Rattle.sdls_base.specs.declared.version.Version.{Version}
use Rattle.sdls_base.specs.declared.version.Version.TheVariants.{One, Two}
use Rattle.sdls_base.specs.declared.version.TheConstants.{CONTENT_LENGTH_ONE}
use Rattle.sdls_base.specs.Version.{content_length_of}
use Rattle.disk_journal.specs.declared.layout.TheConstants.{HEADER_LENGTH, PLAN_ROOM, SLOT_LENGTH, MOST_SLOTS, ZEROS_AT}
use Rattle.disk_journal.specs.declared.layout.Bank.{Bank}
use Rattle.disk_journal.specs.declared.layout.Bank.TheVariants.{First, Second}
use Rattle.disk_journal.specs.declared.layout.HeaderForm.{HeaderForm}
use Rattle.disk_journal.specs.declared.layout.HeaderForm.TheVariants.{Old, Migrated, New}
use Rattle.disk_journal.specs.declared.layout.Layout.{Layout}
use Rattle.disk_journal.specs.declared.layout.TheConstants.{BANKS_AT, GENERATION_AT, GENERATION_LENGTH, CONTENT_AT}
use Rattle.disk_journal.specs.declared.layout.TheConstants.{MAGIC_ONE, MAGIC_TWO, MIGRATED_AT}

-- the version of an image whose header has this form
abbrev pub version_of : HeaderForm → Version
version_of Old = One
version_of Migrated = Two
version_of New = Two

-- the number of a version
abbrev pub version_number : Version → ℕ
version_number One = 1
version_number Two = 2

-- the magic, the first of the octets that fill the header with zeros, and where the banks begin
abbrev pub magic_of : HeaderForm → List ℕ
magic_of Old = MAGIC_ONE
magic_of Migrated = MAGIC_ONE
magic_of New = MAGIC_TWO

abbrev pub zeros_at_of : HeaderForm → ℕ
zeros_at_of Old = MIGRATED_AT + 1
zeros_at_of Migrated = MIGRATED_AT + 1
zeros_at_of New = ZEROS_AT

abbrev pub banks_of : HeaderForm → ℕ → ℕ
banks_of Old slots = BANKS_AT
banks_of Migrated slots = BANKS_AT + 2 * (CONTENT_AT + CONTENT_LENGTH_ONE + SLOT_LENGTH * slots)
banks_of New slots = BANKS_AT

-- the layout of an image with a header of this form, and so many slots a bank
abbrev pub layout_of : HeaderForm → ℕ → Layout
layout_of form slots = record {
  form = form;
  banks = banks_of form slots;
  content_length = content_length_of (version_of form);
  slots = slots;
}

-- the octets of a bank before its slots: its gate, its generation and its content
abbrev pub head_length : Layout → ℕ
head_length layout = CONTENT_AT + layout.content_length

abbrev pub bank_length : Layout → ℕ
bank_length layout = head_length layout + SLOT_LENGTH * layout.slots

-- where a bank begins
abbrev pub bank_at : Layout → Bank → ℕ
bank_at layout First = layout.banks
bank_at layout Second = layout.banks + bank_length layout

abbrev pub image_end : Layout → ℕ
image_end layout = layout.banks + 2 * bank_length layout

-- The layout is the one of its form and slots: the banks stand behind the plan, and what stands before their slots
-- fills blocks of a slot's length.
pub record IsLayout (layout : Layout) : Type 0 where
  pub is : layout ≡ layout_of layout.form layout.slots
  pub behind_plan : HEADER_LENGTH + PLAN_ROOM ≤ layout.banks
  pub whole_blocks : head_length layout % SLOT_LENGTH ≡ 0
  pub most : layout.slots ≤ MOST_SLOTS
  pub short : image_end layout < 2 ^ 40

abbrev pub other : Bank → Bank
other First = Second
other Second = First

-- where slot i begins, of the bank that begins at this place
abbrev pub slot_at : Layout → ℕ → ℕ → ℕ
slot_at layout bank i = bank + head_length layout + SLOT_LENGTH * i

abbrev pub slot_gate : Layout → List ℕ → ℕ → ℕ → ℕ
slot_gate layout image bank i = slice_index image (slot_at layout bank i)

abbrev pub slot_body : Layout → List ℕ → ℕ → ℕ → List ℕ
slot_body layout image bank i = take BODY_LENGTH (drop (slot_at layout bank i + 1) image)

abbrev pub bank_generation : List ℕ → ℕ → ℕ
bank_generation image bank = big_number GENERATION_LENGTH (take GENERATION_LENGTH (drop (bank + GENERATION_AT) image))

abbrev pub bank_content : Layout → List ℕ → ℕ → List ℕ
bank_content layout image bank = take layout.content_length (drop (bank + CONTENT_AT) image)

-- the generation after this one
abbrev pub next : ℕ → ℕ
next generation = (generation + 1) % 2 ^ 64

-- the current one of two banks, by whether each is open, and whether the second has the generation after the first's
abbrev pub chosen : Bool → Bool → Bool → Bank
chosen first second follows =
    if second then (if first then (if follows then Second else First) else Second) else First
