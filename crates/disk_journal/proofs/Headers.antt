-- The header of an image of which the octet that migrates it may differ.
use Rattle.std.proofs.Common.{◌≡◌, ◌≢◌, ℕ, ◌+◌, ◌-◌, ◌<◌, ◌≤◌, ◌⊎◌, ◌==◌, ◌&&◌, ◌||◌, ◌∙◌, not, nat_lt, Bool, true}
use Rattle.std.proofs.Common.{false, List, length, get_or, take, drop, None, refl, sym, ap, subst, inl, inr, arith}
use Rattle.std.proofs.Common.{if◌then◌else◌}
use Rattle.byteorder.specs.Endian.{big_number}
use Rattle.byteorder.specs.Numbers.{big_from-take}
use Rattle.disk_journal.proofs.Keeping.{header_bounds, header_passed, header_passes}
use Rattle.disk_journal.proofs.Stands.{HasFront, banks_behind}
use Rattle.disk_journal.specs.Banks.{image_end, layout_of, zeros_at_of}
use Rattle.disk_journal.specs.Fault.{header_checks}
use Rattle.disk_journal.specs.Header.{form_in, has_magic, header_of, plan_length_in, slot_count_in}
use Rattle.disk_journal.specs.Image.{image_layout, plan_of}
use Rattle.disk_journal.specs.declared.layout.HeaderForm.{HeaderForm}
use Rattle.disk_journal.specs.declared.layout.HeaderForm.TheVariants.{Old, Migrated, New}
use Rattle.disk_journal.specs.declared.layout.Layout.{Layout}
use Rattle.disk_journal.specs.declared.layout.TheConstants.{MAGIC_ONE, MAGIC_TWO, MIGRATED_AT, FIELD_LENGTH}
use Rattle.disk_journal.specs.declared.layout.TheConstants.{HEADER_LENGTH, LEAST_SLOTS, MAGIC_AT, MOST_SLOTS, OPEN}
use Rattle.disk_journal.specs.declared.layout.TheConstants.{PLAN_LENGTH_AT, PLAN_ROOM, SLOT_COUNT_AT}
use Rattle.disk_journal.proofs.Ranges.{same_stretch}
use Rattle.disk_journal.specs.Moments.{AllBut}
use Rattle.sdls_base.specs.FirstFailing.{first_failing}
use Rattle.std.proofs.lemmas.Bool.Decides.{nat_tests}
use Rattle.std.proofs.Math.ListN.{get_or-eq_default}
use Rattle.std.proofs.lemmas.Bool.{cases_lt}
use Rattle.std.proofs.lemmas.List.{get_or-take, length-drop, length-take-le, take_all}
use Rattle.std.specs.List.{list_any, slice_range}
use Rattle.std.specs.Str.{bytes_eq}

-- what the checks read of a header beside that octet
pub record SameFields (old new : List ℕ) : Type 0 where
  pub gate : get_or new 0 0 ≡ get_or old 0 0
  pub magic : slice_range new MAGIC_AT PLAN_LENGTH_AT ≡ slice_range old MAGIC_AT PLAN_LENGTH_AT
  pub plan : plan_length_in new ≡ plan_length_in old
  pub slots : slot_count_in new ≡ slot_count_in old
  pub rest : drop (MIGRATED_AT + 1) new ≡ drop (MIGRATED_AT + 1) old

number_same : (at : ℕ) (old new : List ℕ) → AllBut MIGRATED_AT 1 old new → at + FIELD_LENGTH ≤ MIGRATED_AT
    → big_number FIELD_LENGTH (drop at new) ≡ big_number FIELD_LENGTH (drop at old)
number_same at old new change below =
    sym (big_from-take 0 FIELD_LENGTH FIELD_LENGTH (drop at new) (omega arith))
    ∙ ap (big_number FIELD_LENGTH) (same_stretch MIGRATED_AT 1 at FIELD_LENGTH old new change (inl (omega arith)))
    ∙ big_from-take 0 FIELD_LENGTH FIELD_LENGTH (drop at old) (omega arith)

whole_rest : (image : List ℕ) → take (length image) (drop (MIGRATED_AT + 1) image) ≡ drop (MIGRATED_AT + 1) image
whole_rest image =
    let cut : length (drop (MIGRATED_AT + 1) image) ≡ length image - (MIGRATED_AT + 1) = length-drop
    (MIGRATED_AT + 1) image in
    take_all (length image) (drop (MIGRATED_AT + 1) image) (omega arith)

pub same_fields : (old new : List ℕ) → AllBut MIGRATED_AT 1 old new → SameFields old new
same_fields old new change = record {
  gate = change.outside 0 (inl (omega arith));
  magic = same_stretch MIGRATED_AT 1 MAGIC_AT (PLAN_LENGTH_AT - MAGIC_AT) old new change (inl (omega arith));
  plan = number_same PLAN_LENGTH_AT old new change (omega arith);
  slots = number_same SLOT_COUNT_AT old new change (omega arith);
  rest = sym (whole_rest new) ∙ ap (λ (n : ℕ). take n (drop (MIGRATED_AT + 1) new)) change.same_length
      ∙ same_stretch MIGRATED_AT 1 (MIGRATED_AT + 1) (length old) old new change (inr (omega arith)) ∙ whole_rest old;
}

-- the headers of two images that are alike in their headers but for that octet
pub header_but : (old new : List ℕ) → HEADER_LENGTH ≤ length old → HEADER_LENGTH ≤ length new
    → ((i : ℕ) → i < HEADER_LENGTH → (i < MIGRATED_AT) ⊎ (MIGRATED_AT + 1 ≤ i) → get_or new i 0 ≡ get_or old i 0)
    → AllBut MIGRATED_AT 1 (header_of old) (header_of new)
header_but old new old_long new_long same =
    let size : length (header_of old) ≡ HEADER_LENGTH = length-take-le HEADER_LENGTH old old_long in
    let size_new : length (header_of new) ≡ HEADER_LENGTH = length-take-le HEADER_LENGTH new new_long in
    record {
      same_length = size_new ∙ sym size;
      outside = λ i away. elim (cases_lt i HEADER_LENGTH) [
        | inl low ↦ get_or-take HEADER_LENGTH new i 0 low ∙ same i low away
            ∙ sym (get_or-take HEADER_LENGTH old i 0 low)
        | inr high ↦ get_or-eq_default (header_of new) 0 (omega arith)
            ∙ sym (get_or-eq_default (header_of old) 0 (omega arith))
      ];
    }

-- that octet in the header
pub header_octet : (image : List ℕ) → get_or (header_of image) MIGRATED_AT 0 ≡ get_or image MIGRATED_AT 0
header_octet image = get_or-take HEADER_LENGTH image MIGRATED_AT 0 (omega arith)

-- the form by its tests
abbrev form_by : Bool → Bool → HeaderForm
form_by two migrated = if two then New else (if migrated then Migrated else Old)

old_by : (two migrated : Bool) → form_by two migrated ≡ Old → (two ≡ false) × (migrated ≡ false)
old_by true migrated is = absurd (cc)
old_by false true is = absurd (cc)
old_by false false is = (refl, refl)

is_one : (octet : ℕ) → octet ≡ OPEN → (octet == OPEN) ≡ true
is_one octet same = grind (arith, nat_tests)

not_one : (octet : ℕ) → octet ≢ OPEN → (octet == OPEN) ≡ false
not_one octet other = grind (arith, nat_tests)

is_other : (octet : ℕ) → (octet == OPEN) ≡ false → octet ≢ OPEN
is_other octet test same = absurd (let gone = is_one octet same in cc)

-- a header of version 1 has another magic, and another octet than 1
pub old_tests : (header : List ℕ) → form_in header ≡ Old → (has_magic MAGIC_TWO header ≡ false) ×
    (get_or header MIGRATED_AT 0 ≢ OPEN)
unfolding form_in
old_tests header is =
    let tests = old_by (has_magic MAGIC_TWO header) (get_or header MIGRATED_AT 0 == OPEN) is in
    (tests.0, is_other (get_or header MIGRATED_AT 0) tests.1)

pub old_form : (header : List ℕ) → has_magic MAGIC_TWO header ≡ false → get_or header MIGRATED_AT 0 ≢ OPEN
    → form_in header ≡ Old
unfolding form_in
old_form header magic other = rw magic (rw (not_one (get_or header MIGRATED_AT 0) other) refl)

pub migrated_form : (header : List ℕ) → has_magic MAGIC_TWO header ≡ false → get_or header MIGRATED_AT 0 ≡ OPEN
    → form_in header ≡ Migrated
unfolding form_in
migrated_form header magic same = rw magic (rw (is_one (get_or header MIGRATED_AT 0) same) refl)

long_test : (size end : ℕ) → end ≤ size → nat_lt size end ≡ false
long_test size end below = grind (arith, nat_tests)

-- a header passes, if one of version 1 does that is alike but for that octet, and the image is long enough
pub passes_as : (old new : List ℕ) (size new_size : ℕ) (form : HeaderForm) → SameFields old new → form_in old ≡ Old
    → first_failing (header_checks old size) ≡ None → form_in new ≡ form → zeros_at_of form ≡ MIGRATED_AT + 1
    → image_end (layout_of form (slot_count_in old)) ≤ new_size → first_failing (header_checks new new_size) ≡ None
passes_as old new size new_size form same old_is none is zeros long =
    let pass = header_passed old size none in
    header_passes new new_size (record {
      gate = ap (λ (octet : ℕ). not (octet == OPEN)) same.gate ∙ pass.gate;
      magic = ap (λ (octets : List ℕ). not (bytes_eq octets MAGIC_ONE) && not (bytes_eq octets MAGIC_TWO)) same.magic
          ∙ pass.magic;
      plan = ap (λ (n : ℕ). nat_lt PLAN_ROOM n) same.plan ∙ pass.plan;
      slots = ap (λ (n : ℕ). nat_lt n LEAST_SLOTS || nat_lt MOST_SLOTS n) same.slots ∙ pass.slots;
      long = ap (λ (n : ℕ). nat_lt new_size (image_end (layout_of (form_in new) n))) same.slots
          ∙ ap (λ (one : HeaderForm). nat_lt new_size (image_end (layout_of one (slot_count_in old)))) is
          ∙ long_test new_size (image_end (layout_of form (slot_count_in old))) long;
      rest = ap (λ (one : HeaderForm). list_any (λ octet. not (octet == 0)) (drop (zeros_at_of one) new)) is
          ∙ ap (λ (n : ℕ). list_any (λ octet. not (octet == 0)) (drop n new)) zeros
          ∙ ap (λ (octets : List ℕ). list_any (λ octet. not (octet == 0)) octets) same.rest
          ∙ ap (λ (one : HeaderForm). list_any (λ octet. not (octet == 0)) (drop (zeros_at_of one) old)) (sym old_is)
          ∙ pass.rest;
    })

-- an image whose header is alike but for that octet
pub record IsAlike (old new : List ℕ) : Type 0 where
  pub whole : HEADER_LENGTH ≤ length new
  pub fields : SameFields (header_of old) (header_of new)

pub alike : (old new : List ℕ) → HEADER_LENGTH ≤ length old → HEADER_LENGTH ≤ length new
    → ((i : ℕ) → i < HEADER_LENGTH → (i < MIGRATED_AT) ⊎ (MIGRATED_AT + 1 ≤ i) → get_or new i 0 ≡ get_or old i 0)
    → IsAlike old new
alike old new old_long new_long same = record {
  whole = new_long;
  fields = same_fields (header_of old) (header_of new) (header_but old new old_long new_long same);
}

-- the layout of an image of version 1
pub old_layout : (image : List ℕ) (layout : Layout) → HasFront image layout → layout.form ≡ Old
    → (form_in (header_of image) ≡ Old) × (layout ≡ layout_of Old (slot_count_in (header_of image)))
unfolding image_layout
old_layout image layout front old_is =
    let is : form_in (header_of image) ≡ Old = ap (λ (one : Layout). one.form) front.same_layout ∙ old_is in
    (is, sym front.same_layout ∙ ap (λ (one : HeaderForm). layout_of one (slot_count_in (header_of image))) is)

-- the front of an image that is alike to one of version 1, with another octet than 1 there: it is of version 1 too
pub front_old : (old new : List ℕ) (layout : Layout) → HasFront old layout → layout.form ≡ Old → IsAlike old new
    → length old ≤ length new → get_or new MIGRATED_AT 0 ≢ OPEN → HasFront new layout
unfolding image_layout
front_old old new layout front old_is same long other =
    let is = old_layout old layout front old_is in
    let tests = old_tests (header_of old) is.0 in
    let magic : has_magic MAGIC_TWO
    (header_of new) ≡ false = ap (λ (octets : List ℕ). bytes_eq octets MAGIC_TWO) same.fields.magic ∙ tests.0 in
    let new_is : form_in (header_of new) ≡ Old = old_form (header_of new) magic
    (λ one. other (sym (header_octet new) ∙ one)) in
    let bounds = header_bounds (header_of old) (length old) front.header in
    let end : image_end (layout_of Old (slot_count_in (header_of old))) ≤ length old =
    subst (λ (one : HeaderForm). image_end (layout_of one (slot_count_in (header_of old))) ≤ length old) is.0
    bounds.long in
    record {
      whole = same.whole;
      header = passes_as (header_of old) (header_of new) (length old)
          (length new) Old same.fields is.0 front.header new_is refl (omega (arith, end, long));
      same_layout = ap (λ (one : HeaderForm). layout_of one (slot_count_in (header_of new))) new_is
          ∙ ap (λ (n : ℕ). layout_of Old n) same.fields.slots ∙ sym is.1;
      behind_plan = front.behind_plan;
    }

-- the front of such an image with 1 there: it is migrated
pub front_migrated : (old new : List ℕ) (layout : Layout) → HasFront old layout → layout.form ≡ Old → IsAlike old new
    → image_end (layout_of Migrated layout.slots) ≤ length new → get_or new MIGRATED_AT 0 ≡ OPEN
    → HasFront new (layout_of Migrated layout.slots)
unfolding image_layout
front_migrated old new layout front old_is same long one =
    let is = old_layout old layout front old_is in
    let tests = old_tests (header_of old) is.0 in
    let slots : layout.slots ≡ slot_count_in (header_of old) = ap (λ (some : Layout). some.slots) is.1 in
    let magic : has_magic MAGIC_TWO
    (header_of new) ≡ false = ap (λ (octets : List ℕ). bytes_eq octets MAGIC_TWO) same.fields.magic ∙ tests.0 in
    let new_is : form_in (header_of new) ≡ Migrated = migrated_form (header_of new) magic (header_octet new ∙ one) in
    record {
      whole = same.whole;
      header = passes_as (header_of old) (header_of new) (length old)
          (length new) Migrated same.fields is.0 front.header new_is refl
          (subst (λ (n : ℕ). image_end (layout_of Migrated n) ≤ length new) slots long);
      same_layout = ap (λ (some : HeaderForm). layout_of some (slot_count_in (header_of new))) new_is
          ∙ ap (λ (n : ℕ). layout_of Migrated n) (same.fields.slots ∙ sym slots);
      behind_plan = banks_behind Migrated layout.slots;
    }

-- the plan of an image that is alike, also in what stands behind the header up to the banks
pub plan_alike : (old new : List ℕ) → IsAlike old new
    → take (plan_length_in (header_of old)) (drop HEADER_LENGTH new) ≡ take (plan_length_in (header_of old))
    (drop HEADER_LENGTH old)
    → plan_of new ≡ plan_of old
unfolding plan_of
plan_alike old new same text = ap (λ (n : ℕ). take n (drop HEADER_LENGTH new)) same.fields.plan ∙ text
