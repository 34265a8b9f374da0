-- The image that a journal begins with, and how it is written (profile).
use Rattle.std.specs.Prelude.{◌≡◌, ℕ, ◌-◌, ◌*◌, ◌⊎◌, List, [], ◌∷◌, ◌++◌, length, Some}
use Rattle.byteorder.specs.Endian.{big_bytes}
use Rattle.sdls_outside.specs.Disk.{IsSynced}
use Rattle.sdls_outside.specs.Moments.{Trace}
use Rattle.disk_journal.specs.declared.layout.TheConstants.{HEADER_LENGTH, PLAN_ROOM, SLOT_LENGTH, FIELD_LENGTH}
use Rattle.disk_journal.specs.declared.layout.TheConstants.{OPEN, CLOSED, BANKS_AT, MIGRATED_AT, GENERATION_LENGTH}
use Rattle.disk_journal.specs.Moments.{AllBut, EachImage}
use Rattle.disk_journal.specs.Zeros.{zeros}
use Rattle.disk_journal.specs.declared.layout.Bank.{Bank}
use Rattle.disk_journal.specs.declared.layout.Bank.TheVariants.{First, Second}
use Rattle.disk_journal.specs.declared.layout.HeaderForm.{HeaderForm}
use Rattle.disk_journal.specs.declared.layout.HeaderForm.TheVariants.{Old, Migrated, New}
use Rattle.disk_journal.specs.declared.layout.Layout.{Layout}
use Rattle.disk_journal.specs.declared.layout.TheConstants.{FIRST_GENERATION}
use Rattle.disk_journal.specs.Banks.{version_of, magic_of, banks_of, layout_of, bank_length}
use Rattle.disk_journal.specs.Fault.{image_fault}
use Rattle.disk_journal.specs.Forms.{Holds}
use Rattle.disk_journal.specs.Journal.{IsSettledImage}

-- the gate of an open bank, its generation and its content, and zeros for its slots
abbrev pub bank_at_rest : Layout → ℕ → List ℕ → List ℕ
bank_at_rest layout generation text =
    (OPEN ∷ big_bytes GENERATION_LENGTH generation) ++ text ++ zeros (SLOT_LENGTH * layout.slots)

-- the two banks, of which this one is open and the other is zero
abbrev pub banks_at_rest : Layout → ℕ → List ℕ → Bank → List ℕ
banks_at_rest layout generation text First = bank_at_rest layout generation text ++ zeros (bank_length layout)
banks_at_rest layout generation text Second = zeros (bank_length layout) ++ bank_at_rest layout generation text

-- what the header has from its magic to its last number
abbrev pub fields_of : HeaderForm → ℕ → ℕ → List ℕ
fields_of form plan_length slots =
    magic_of form ++ big_bytes FIELD_LENGTH plan_length ++ big_bytes FIELD_LENGTH slots

-- the octet that says whether an image was migrated
abbrev pub migration_of : HeaderForm → ℕ
migration_of Old = CLOSED
migration_of Migrated = OPEN
migration_of New = CLOSED

-- what stands before the banks: the gate, the magic, the length of the plan, the slots, the octet of migration, and
-- zeros to the header's end; the plan, and zeros to where banks begin
abbrev pub front_image : HeaderForm → ℕ → List ℕ → ℕ → List ℕ
front_image form gate plan slots =
    ((gate ∷ fields_of form (length plan) slots) ++ migration_of form ∷ zeros (HEADER_LENGTH - MIGRATED_AT - 1))
    ++ plan ++ zeros (PLAN_ROOM - length plan)

-- the image of a plan whose banks are at rest, of which this one is open; the old banks of a migrated image are zero
unfoldable pub rest_image : HeaderForm → ℕ → List ℕ → ℕ → List ℕ → ℕ → Bank → List ℕ
rest_image form gate plan slots text generation bank =
    front_image form gate plan slots ++ zeros (banks_of form slots - BANKS_AT)
    ++ banks_at_rest (layout_of form slots) generation text bank

-- the image that a journal begins with
abbrev pub created_image : HeaderForm → List ℕ → ℕ → List ℕ → List ℕ
created_image form plan slots text = rest_image form OPEN plan slots text FIRST_GENERATION First

-- the same before its gate is written
abbrev pub laid_image : HeaderForm → List ℕ → ℕ → List ℕ → List ℕ
laid_image form plan slots text = rest_image form CLOSED plan slots text FIRST_GENERATION First

-- The image that a journal begins with opens, holds these with no records, and can take a record or turn.
pub record BeginsAtRest (form : HeaderForm) (plan : List ℕ) (slots : ℕ) (text : List ℕ) : Type 0 where
  pub holds : Holds (created_image form plan slots text) (record {
    plan = plan;
    slots = slots;
    version = version_of form;
    content = text;
    records = [];
  })
  pub settled : IsSettledImage (created_image form plan slots text) (record {
    plan_length = length plan;
    layout = layout_of form slots;
    bank = First;
    generation = FIRST_GENERATION;
    used = 0;
  })

-- A crash early in the call leaves an image that is refused at its first octet. From then on the image without its gate
-- is on the disk, and a crash leaves the initial image but for the gate.
pub record IsLaid (form : HeaderForm) (plan : List ℕ) (slots : ℕ) (text : List ℕ) (old mid new : Trace)
    : Type 0 where
  pub early : EachImage old mid (λ image. image_fault image ≡ Some 0)
  pub late : (new ≡ mid) ⊎ (IsSynced mid.now × (mid.now.image ≡ laid_image form plan slots text)
      × EachImage mid new (AllBut 0 1 (created_image form plan slots text)))
