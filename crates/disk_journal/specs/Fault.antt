-- The checks that opening makes of an image, in their order, each with the offset that a refusal names (profile).
use Rattle.std.specs.Prelude.{ℕ, zero, suc, ◌+◌, ◌-◌, ◌==◌, ◌||◌, ◌&&◌, not, nat_lt, Bool, List, [], ◌∷◌, ◌++◌, length}
use Rattle.std.specs.Prelude.{drop, slice_index, Option}
use Rattle.std.specs.List.{list_any}
use Rattle.sdls_base.specs.FirstFailing.{Check, first_failing}
use Rattle.disk_journal.specs.declared.layout.TheConstants.{HEADER_LENGTH, PLAN_ROOM, LEAST_SLOTS, MOST_SLOTS, MAGIC_AT}
use Rattle.disk_journal.specs.declared.layout.TheConstants.{PLAN_LENGTH_AT, SLOT_COUNT_AT, OPEN, CLOSED}
use Rattle.disk_journal.specs.Header.{header_of, plan_length_in, slot_count_in, has_magic, form_in}
use Rattle.disk_journal.specs.declared.layout.Bank.TheVariants.{First, Second}
use Rattle.disk_journal.specs.declared.layout.Layout.{Layout}
use Rattle.disk_journal.specs.declared.layout.TheConstants.{MAGIC_ONE, MAGIC_TWO, GENERATION_AT}
use Rattle.disk_journal.specs.Banks.{zeros_at_of, layout_of, bank_at, image_end, slot_at, slot_gate, next}
use Rattle.disk_journal.specs.Image.{image_layout, slot_count, is_open, generation_of, current_at, first_closed}

-- the checks of a whole header in an image of this length
abbrev pub header_checks : List ℕ → ℕ → List (Check ℕ)
header_checks header image_length =
    (not (slice_index header 0 == OPEN), 0)
    ∷ (not (has_magic MAGIC_ONE header) && not (has_magic MAGIC_TWO header), MAGIC_AT)
    ∷ (nat_lt PLAN_ROOM (plan_length_in header), PLAN_LENGTH_AT)
    ∷ (nat_lt (slot_count_in header) LEAST_SLOTS || nat_lt MOST_SLOTS (slot_count_in header), SLOT_COUNT_AT)
    ∷ (nat_lt image_length (image_end (layout_of (form_in header) (slot_count_in header))), image_length)
    ∷ (list_any (λ octet. not (octet == 0)) (drop (zeros_at_of (form_in header)) header), zeros_at_of (form_in header))
    ∷ []

-- the checks of two banks, of these places: one is open; if both are, the generation of one is the other's plus one
abbrev pub bank_checks : Bool → Bool → ℕ → ℕ → ℕ → ℕ → List (Check ℕ)
bank_checks first second first_generation second_generation first_at second_at =
    (not first && not second, first_at)
    ∷ (
      first && second && not (second_generation == next first_generation)
          && not (first_generation == next second_generation),
      second_at + GENERATION_AT,
    ) ∷ []

-- a check of each of n gates from slot i on, of the bank that begins at this place: it is 0
abbrev pub gate_checks : Layout → ℕ → (ℕ → ℕ) → ℕ → ℕ → List (Check ℕ)
gate_checks layout bank gate zero i = []
gate_checks layout bank gate (suc n) i =
    (not (gate i == CLOSED), slot_at layout bank i) ∷ gate_checks layout bank gate n (i + 1)

-- the checks of an image's banks
abbrev pub banks_part : List ℕ → List (Check ℕ)
banks_part image = bank_checks (is_open image First) (is_open image Second) (generation_of image First)
    (generation_of image Second) (bank_at (image_layout image) First) (bank_at (image_layout image) Second)

-- the checks of the gates after the first closed one of the current bank
abbrev pub gates_part : List ℕ → List (Check ℕ)
gates_part image = gate_checks (image_layout image) (current_at image)
    (slot_gate (image_layout image) image (current_at image)) (slot_count image - (first_closed image + 1))
    (first_closed image + 1)

-- the checks of an image: its length, its header, its banks, and the gates of the current one
abbrev pub checks : List ℕ → List (Check ℕ)
checks image =
    (nat_lt (length image) HEADER_LENGTH, 0)
    ∷ (header_checks (header_of image) (length image) ++ (banks_part image ++ gates_part image))

-- the offset that opening refuses the image with; none if it opens
unfoldable pub image_fault : List ℕ → Option ℕ
image_fault image = first_failing (checks image)
