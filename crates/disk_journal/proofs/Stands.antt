-- What an image of two banks shows, told by place.
use Rattle.std.proofs.Common.{◌≡◌, ◌≢◌, ℕ, ◌+◌, ◌-◌, ◌<◌, ◌≤◌, ◌⊎◌, ◌==◌, ◌++◌, ◌∙◌, nat_lt, false, List, length}
use Rattle.std.proofs.Common.{get_or, None, refl, sym, ap, subst, inl, inr, arith}
use Rattle.disk_journal.proofs.Chosen.{Decided, IsNewest, decided, first_chosen, first_passes, second_chosen}
use Rattle.disk_journal.proofs.Chosen.{second_passes}
use Rattle.disk_journal.proofs.GateChecks.{closed_pass, pass_closed}
use Rattle.disk_journal.specs.Banks.{bank_at, bank_length, banks_of, slot_body, chosen, bank_content, slot_gate}
use Rattle.disk_journal.specs.Banks.{bank_generation, next, other, slot_at, version_of}
use Rattle.disk_journal.specs.Header.{form_in, header_of, slot_count_in}
use Rattle.disk_journal.specs.Fault.{bank_checks, banks_part, gates_part, header_checks, image_fault}
use Rattle.disk_journal.specs.Forms.{Holds}
use Rattle.disk_journal.specs.Image.{Held, IsClosedGate, content, current, current_at, first_closed, image_layout}
use Rattle.disk_journal.specs.Image.{plan_of, records, slot_count}
use Rattle.disk_journal.specs.declared.layout.Bank.{Bank}
use Rattle.disk_journal.specs.declared.layout.Bank.TheVariants.{First, Second}
use Rattle.disk_journal.specs.declared.layout.HeaderForm.{HeaderForm}
use Rattle.disk_journal.specs.declared.layout.HeaderForm.TheVariants.{Old, Migrated, New}
use Rattle.disk_journal.specs.declared.layout.Layout.{Layout}
use Rattle.disk_journal.specs.declared.layout.TheConstants.{MIGRATED_AT, CLOSED, HEADER_LENGTH, OPEN, PLAN_ROOM}
use Rattle.disk_journal.proofs.Failing.{all_passed, front_passed, passed_append, passed_first}
use Rattle.disk_journal.proofs.Gating.{AreRecords, records_are, records_is}
use Rattle.disk_journal.proofs.Calls.{short_test}
use Rattle.disk_journal.specs.Moments.{AllBut}
use Rattle.sdls_base.specs.FirstFailing.{Check, first_failing}
use Rattle.std.proofs.lemmas.Bool.Decides.{nat_tests}

-- where the banks stand to each other
pub apart : (layout : Layout) (bank : Bank) → (bank_at layout bank + bank_length layout ≤ bank_at layout (other bank))
    ⊎ (bank_at layout (other bank) + bank_length layout ≤ bank_at layout bank)
apart layout First = inl (omega arith)
apart layout Second = inr (omega arith)

pub behind : (layout : Layout) (bank : Bank) → HEADER_LENGTH + PLAN_ROOM ≤ layout.banks
    → HEADER_LENGTH + PLAN_ROOM ≤ bank_at layout bank
behind layout First behind_plan = behind_plan
behind layout Second behind_plan = omega arith

pub twice_other : (bank : Bank) → other (other bank) ≡ bank
twice_other First = refl
twice_other Second = refl

-- the front of an image passes, and this is its layout
pub record HasFront (image : List ℕ) (layout : Layout) : Type 0 where
  pub whole : HEADER_LENGTH ≤ length image
  pub header : first_failing (header_checks (header_of image) (length image)) ≡ None
  pub same_layout : image_layout image ≡ layout
  pub behind_plan : HEADER_LENGTH + PLAN_ROOM ≤ layout.banks

abbrev pub NewestOf : Layout → Bank → List ℕ → Type 0
NewestOf layout bank image = IsNewest (get_or image (bank_at layout bank) 0)
    (get_or image (bank_at layout (other bank)) 0)
    (bank_generation image (bank_at layout bank)) (bank_generation image (bank_at layout (other bank)))

-- the bank that is chosen by the gates and the generations
abbrev pub chosen_of : Layout → List ℕ → Bank
chosen_of layout image = chosen (get_or image (bank_at layout First) 0 == OPEN)
    (get_or image (bank_at layout Second) 0 == OPEN)
    (bank_generation image (bank_at layout Second) == next (bank_generation image (bank_at layout First)))

-- the checks of the banks
abbrev pub bank_checks_of : Layout → List ℕ → List (Check ℕ)
bank_checks_of layout image = bank_checks (get_or image (bank_at layout First) 0 == OPEN)
    (get_or image (bank_at layout Second) 0 == OPEN)
    (bank_generation image (bank_at layout First)) (bank_generation image (bank_at layout Second))
    (bank_at layout First) (bank_at layout Second)

-- this bank is the newest, and these are its records
pub record Stands (image : List ℕ) (layout : Layout) (bank : Bank) (bodies : List (List ℕ)) : Type 0 where
  pub front : HasFront image layout
  pub newest : NewestOf layout bank image
  pub are : AreRecords (slot_gate layout image (bank_at layout bank))
      (slot_body layout image (bank_at layout bank)) layout.slots bodies
  pub quiet : (k : ℕ) → length bodies < k → k < layout.slots → slot_gate layout image (bank_at layout bank) k ≡ CLOSED

-- what stands, shows
newest_chosen : (layout : Layout) (bank : Bank) (image : List ℕ) → NewestOf layout bank image
    → chosen_of layout image ≡ bank
newest_chosen layout First image newest = first_chosen (get_or image (bank_at layout First) 0)
    (get_or image (bank_at layout Second) 0)
    (bank_generation image (bank_at layout First)) (bank_generation image (bank_at layout Second)) newest
newest_chosen layout Second image newest = second_chosen (get_or image (bank_at layout First) 0)
    (get_or image (bank_at layout Second) 0)
    (bank_generation image (bank_at layout First)) (bank_generation image (bank_at layout Second)) newest

pub stands_current : (image : List ℕ) (layout : Layout) (bank : Bank) (bodies : List (List ℕ))
    → Stands image layout bank bodies → current image ≡ bank
unfolding current
stands_current image layout bank bodies stands =
    subst (λ (one : Layout). chosen_of one image ≡ bank) (sym stands.front.same_layout)
    (newest_chosen layout bank image stands.newest)

pub stands_at : (image : List ℕ) (layout : Layout) (bank : Bank) (bodies : List (List ℕ))
    → Stands image layout bank bodies
    → current_at image ≡ bank_at layout bank
stands_at image layout bank bodies stands =
    ap (λ (one : Layout). bank_at one (current image)) stands.front.same_layout ∙ ap (bank_at layout)
    (stands_current image layout bank bodies stands)

pub stands_records : (image : List ℕ) (layout : Layout) (bank : Bank) (bodies : List (List ℕ))
    → Stands image layout bank bodies → records image ≡ bodies
unfolding records
stands_records image layout bank bodies stands =
    records_is (slot_gate (image_layout image) image (current_at image))
    (slot_body (image_layout image) image (current_at image)) (slot_count image) bodies
    (subst (λ (at : ℕ). AreRecords (slot_gate (image_layout image) image at) (slot_body (image_layout image) image at)
    (slot_count image) bodies)
    (sym (stands_at image layout bank bodies stands))
    (subst (λ (one : Layout). AreRecords (slot_gate one image (bank_at layout bank))
    (slot_body one image (bank_at layout bank)) one.slots bodies)
    (sym stands.front.same_layout) stands.are))

newest_passes : (layout : Layout) (bank : Bank) (image : List ℕ) → NewestOf layout bank image → first_failing
    (bank_checks_of layout image) ≡ None
newest_passes layout First image newest = first_passes (get_or image (bank_at layout First) 0)
    (get_or image (bank_at layout Second) 0)
    (bank_generation image (bank_at layout First)) (bank_generation image (bank_at layout Second))
    (bank_at layout First) (bank_at layout Second) newest
newest_passes layout Second image newest = second_passes (get_or image (bank_at layout First) 0)
    (get_or image (bank_at layout Second) 0)
    (bank_generation image (bank_at layout First)) (bank_generation image (bank_at layout Second))
    (bank_at layout First) (bank_at layout Second) newest

banks_pass : (image : List ℕ) (layout : Layout) (bank : Bank) (bodies : List (List ℕ)) → Stands image layout bank bodies
    → first_failing (banks_part image) ≡ None
banks_pass image layout bank bodies stands =
    subst (λ (one : Layout). first_failing (bank_checks_of one image) ≡ None) (sym stands.front.same_layout)
    (newest_passes layout bank image stands.newest)

abbrev pub header_part : List ℕ → List (Check ℕ)
header_part image = header_checks (header_of image) (length image)

pub stands_opens : (image : List ℕ) (layout : Layout) (bank : Bank) (bodies : List (List ℕ))
    → Stands image layout bank bodies → image_fault image ≡ None
unfolding image_fault
stands_opens image layout bank bodies stands =
    let used : first_closed image ≡ length bodies = ap (λ (some : List (List ℕ)). length some)
    (stands_records image layout bank bodies stands) in
    let count : slot_count image ≡ layout.slots = ap (λ (one : Layout). one.slots) stands.front.same_layout in
    passed_first (nat_lt (length image) HEADER_LENGTH) 0 (header_part image ++ (banks_part image ++ gates_part image))
    (short_test (length image) stands.front.whole)
    ∙ passed_append (header_part image) (banks_part image ++ gates_part image) stands.front.header
    ∙ passed_append (banks_part image) (gates_part image) (banks_pass image layout bank bodies stands)
    ∙ closed_pass (image_layout image) (current_at image) (slot_gate (image_layout image) image (current_at image))
    (slot_count image - (first_closed image + 1)) (first_closed image + 1)
    (λ k low high.
    let above : length bodies < k = omega arith in
    let below : k < layout.slots = omega arith in
    subst (λ (at : ℕ). slot_gate (image_layout image) image at k ≡ CLOSED)
    (sym (stands_at image layout bank bodies stands))
    (subst (λ (one : Layout). slot_gate one image (bank_at layout bank) k ≡ CLOSED) (sym stands.front.same_layout)
    (stands.quiet k above below)))

long_enough : (size : ℕ) → nat_lt size HEADER_LENGTH ≡ false → HEADER_LENGTH ≤ size
long_enough size test = grind (arith, nat_tests)

newest_by : (layout : Layout) (bank : Bank) (image : List ℕ)
    → Decided bank (get_or image (bank_at layout First) 0) (get_or image (bank_at layout Second) 0)
    (bank_generation image (bank_at layout First)) (bank_generation image (bank_at layout Second))
    → NewestOf layout bank image
newest_by layout First image decided = decided
newest_by layout Second image decided = decided

-- where the checks pass, the chosen bank is the newest
pub newest_of : (layout : Layout) (image : List ℕ) → first_failing (bank_checks_of layout image) ≡ None
    → NewestOf layout (chosen_of layout image) image
newest_of layout image none = newest_by layout (chosen_of layout image) image
    (decided (get_or image (bank_at layout First) 0) (get_or image (bank_at layout Second) 0)
    (bank_generation image (bank_at layout First)) (bank_generation image (bank_at layout Second))
    (bank_at layout First) (bank_at layout Second) none)

abbrev pub held_by : List ℕ → Layout → List ℕ → List (List ℕ) → Held
held_by plan layout text bodies =
    record { plan = plan; slots = layout.slots; version = version_of layout.form; content = text; records = bodies }

same_held : (plan plan_next : List ℕ) (layout layout_next : Layout) (text text_next : List ℕ)
    (bodies bodies_next : List (List ℕ))
    → plan ≡ plan_next → layout ≡ layout_next → text ≡ text_next → bodies ≡ bodies_next
    → held_by plan layout text bodies ≡ held_by plan_next layout_next text_next bodies_next
same_held plan plan_next layout layout_next text text_next bodies bodies_next a b c d = rw a (rw b (rw c (rw d refl)))

pub banks_behind : (form : HeaderForm) (slots : ℕ) → HEADER_LENGTH + PLAN_ROOM ≤ banks_of form slots
banks_behind Old slots = omega arith
banks_behind Migrated slots = omega arith
banks_behind New slots = omega arith

pub layout_behind : (image : List ℕ) → HEADER_LENGTH + PLAN_ROOM ≤ (image_layout image).banks
unfolding image_layout
layout_behind image = banks_behind (form_in (header_of image)) (slot_count_in (header_of image))

-- what opens, stands
pub opens_stands : (image : List ℕ) → image_fault image ≡ None → Stands image (image_layout image) (current image)
    (records image)
unfolding image_fault current records
opens_stands image none =
    let first = all_passed (nat_lt (length image) HEADER_LENGTH) 0
    (header_part image ++ (banks_part image ++ gates_part image)) none in
    let header = front_passed (header_part image) (banks_part image ++ gates_part image) first.others in
    let behind_header = sym (passed_append (header_part image) (banks_part image ++ gates_part image) header)
    ∙ first.others in
    let banks = front_passed (banks_part image) (gates_part image) behind_header in
    let gates = sym (passed_append (banks_part image) (gates_part image) banks) ∙ behind_header in
    record {
      front = record {
        whole = long_enough (length image) first.first;
        header = header;
        same_layout = refl;
        behind_plan = layout_behind image;
      };
      newest = newest_of (image_layout image) image banks;
      are = records_are (slot_gate (image_layout image) image (current_at image))
          (slot_body (image_layout image) image (current_at image)) (slot_count image);
      quiet = λ k above below.
          pass_closed (image_layout image) (current_at image) (slot_gate (image_layout image) image (current_at image))
          (slot_count image - (first_closed image + 1)) (first_closed image + 1)
          gates k (omega arith) (omega arith);
    }

-- what it holds
pub holds_of : (image : List ℕ) (layout : Layout) (bank : Bank) (bodies : List (List ℕ)) (plan text : List ℕ)
    → Stands image layout bank bodies
    → plan_of image ≡ plan → bank_content layout image (bank_at layout bank) ≡ text
    → Holds image (held_by plan layout text bodies)
holds_of image layout bank bodies plan text stands planned content_is = record {
  opens = stands_opens image layout bank bodies stands;
  is = same_held (plan_of image) plan (image_layout image) layout (content image) text (records image) bodies
      planned stands.front.same_layout
      (ap (λ (one : Layout). bank_content one image (current_at image)) stands.front.same_layout
      ∙ ap (bank_content layout image) (stands_at image layout bank bodies stands) ∙ content_is)
      (stands_records image layout bank bodies stands);
}

-- its closed gates
abbrev pub IsClosedIn : Layout → Bank → ℕ → List ℕ → ℕ → Type 0
IsClosedIn layout bank used image at = (get_or image at 0 ≢ CLOSED)
    × (((used < layout.slots) × (at ≡ slot_at layout (bank_at layout bank) used)) ⊎ (at ≡ bank_at layout (other bank))
    ⊎ ((layout.form ≡ Old) × (at ≡ MIGRATED_AT)))

pub closed_in : (image : List ℕ) (layout : Layout) (bank : Bank) (bodies : List (List ℕ)) (at : ℕ)
    → Stands image layout bank bodies
    → IsClosedGate image at → IsClosedIn layout bank (length bodies) image at
closed_in image layout bank bodies at stands closed =
    subst (λ (some : List (List ℕ)). IsClosedIn layout bank (length some) image at)
    (stands_records image layout bank bodies stands)
    (subst (λ (one : Bank). IsClosedIn layout one (length (records image)) image at)
    (stands_current image layout bank bodies stands)
    (subst (λ (one : Layout). IsClosedIn one (current image) (length (records image)) image at) stands.front.same_layout
    closed))

-- an image of version 1 is not on its way to be migrated
abbrev pub IsStill : Layout → List ℕ → Type 0
IsStill layout image = layout.form ≡ Old → get_or image MIGRATED_AT 0 ≡ CLOSED

pub still_kept : (at count : ℕ) (layout : Layout) (old new : List ℕ) → AllBut at count old new
    → HEADER_LENGTH + PLAN_ROOM ≤ at
    → IsStill layout old → IsStill layout new
still_kept at count layout old new change behind still old_is = change.outside MIGRATED_AT (inl (omega arith))
    ∙ still old_is

-- then its closed gates are those of its banks
abbrev pub IsGateIn : Layout → Bank → ℕ → List ℕ → ℕ → Type 0
IsGateIn layout bank used image at = (get_or image at 0 ≢ CLOSED)
    × (((used < layout.slots) × (at ≡ slot_at layout (bank_at layout bank) used)) ⊎ (at ≡ bank_at layout (other bank)))

pub gate_in : (image : List ℕ) (layout : Layout) (bank : Bank) (bodies : List (List ℕ)) (at : ℕ)
    → Stands image layout bank bodies
    → IsStill layout image → IsClosedGate image at → IsGateIn layout bank (length bodies) image at
gate_in image layout bank bodies at stands still closed =
    let here = closed_in image layout bank bodies at stands closed in (
      here.0,
      elim here.1 [
        | inl slot ↦ inl slot
        | inr beside ↦ elim beside [
          | inl gate ↦ inr gate
          | inr moves ↦ absurd (here.0 (ap (λ (k : ℕ). get_or image k 0) moves.1 ∙ still moves.0))
        ]
      ],
    )
