-- What the checks of an image come to.
use Rattle.std.proofs.Common.{◌≡◌, ℕ, ◌+◌, ◌-◌, ◌≤◌, ◌==◌, ◌++◌, ◌∙◌, nat_lt, Bool, List, length, get_or, Some, None}
use Rattle.std.proofs.Common.{refl, sym, ap, subst, inl, inr, arith, Result}
use Rattle.disk_journal.proofs.GateChecks.{open_gate}
use Rattle.disk_journal.proofs.Keeping.{header_bounds}
use Rattle.disk_journal.proofs.Reading.{plan_size}
use Rattle.disk_journal.proofs.Stands.{HasFront, header_part, layout_behind}
use Rattle.disk_journal.proofs.Turns.{bank_within}
use Rattle.disk_journal.specs.Banks.{bank_at, bank_length, slot_body, chosen, slot_gate, bank_generation, layout_of}
use Rattle.disk_journal.specs.Banks.{next}
use Rattle.disk_journal.specs.Fault.{bank_checks, banks_part, gate_checks, gates_part, header_checks, image_fault}
use Rattle.disk_journal.specs.Header.{form_in, header_of, plan_length_in, slot_count_in}
use Rattle.disk_journal.specs.Image.{current, current_at, first_closed, generation_of, image_layout, is_open, records}
use Rattle.disk_journal.specs.Image.{slot_count}
use Rattle.disk_journal.specs.Journal.{IsCurrent, IsHeaderOf, IsJournalOf}
use Rattle.disk_journal.specs.Verdict.{IsVerdict}
use Rattle.disk_journal.specs.declared.layout.Bank.{Bank}
use Rattle.disk_journal.specs.declared.layout.Bank.TheVariants.{First, Second}
use Rattle.disk_journal.specs.declared.layout.Layout.{Layout}
use Rattle.disk_journal.specs.declared.layout.TheConstants.{CONTENT_AT, HEADER_LENGTH, OPEN, PLAN_ROOM}
use Rattle.disk_journal.specs.declared.opening_image.Verdict.{Verdict}
use Rattle.disk_journal.proofs.Failing.{failed_append, passed_append, passed_first}
use Rattle.disk_journal.proofs.Gating.{AreRecords, records_are}
use Rattle.disk_journal.proofs.Calls.{short_test}
use Rattle.disk_journal.specs.Gates.{IsFirstClosed}
use Rattle.sdls_base.specs.FirstFailing.{Check, first_failing}
use Rattle.sdls_outside.specs.Moments.{Trace}
use Rattle.sdls_outside.specs.Site.{Synced}
use Rattle.std.proofs.lemmas.Bool.{cases_lt}
use Rattle.std.specs.Result.{IfOk}

pub front_of : (image : List ℕ) (plan_length : ℕ) (layout : Layout) → IsHeaderOf image plan_length layout
    → HasFront image layout
front_of image plan_length layout header = record {
  whole = header.whole;
  header = header.passes;
  same_layout = sym header.layout_is;
  behind_plan = subst (λ (one : Layout). HEADER_LENGTH + PLAN_ROOM ≤ one.banks) (sym header.layout_is)
      (layout_behind image);
}

-- the banks of a header that passes its checks lie within the image
pub bank_inside : (old image : List ℕ) (plan_length : ℕ) (layout : Layout) (bank : Bank) (at : ℕ) → image ≡ old
    → IsHeaderOf old plan_length layout
    → at ≡ bank_at layout bank → at + bank_length layout ≤ length image
bank_inside old image plan_length layout bank at same header place =
    subst (λ (i : List ℕ). at + bank_length layout ≤ length i) (sym same)
    (subst (λ (n : ℕ). n + bank_length layout ≤ length old) (sym place)
    (bank_within old layout bank (front_of old plan_length layout header)))

pub head_inside : (old image : List ℕ) (plan_length : ℕ) (layout : Layout) (bank : Bank) (at : ℕ) → image ≡ old
    → IsHeaderOf old plan_length layout
    → at ≡ bank_at layout bank → at + CONTENT_AT ≤ length image
head_inside old image plan_length layout bank at same header place =
    let within = bank_inside old image plan_length layout bank at same header place in omega (arith, within)

-- a header that passes its checks
pub header_found : (image octets : List ℕ) (size plan_length : ℕ) (layout : Layout) → size ≡ length image
    → HEADER_LENGTH ≤ size
    → octets ≡ header_of image → first_failing (header_checks octets size) ≡ None → plan_length ≡ plan_length_in octets
    → layout ≡ layout_of (form_in octets) (slot_count_in octets) → IsHeaderOf image plan_length layout
unfolding image_layout
header_found image octets size plan_length layout sized whole same passed plan layout_is = record {
  whole = subst (λ (n : ℕ). HEADER_LENGTH ≤ n) sized whole;
  passes = subst (λ (n : ℕ). first_failing (header_checks (header_of image) n) ≡ None) sized
      (subst (λ (header : List ℕ). first_failing (header_checks header size) ≡ None) same passed);
  plan = plan ∙ ap plan_length_in same;
  layout_is = layout_is ∙ ap (λ (header : List ℕ). layout_of (form_in header) (slot_count_in header)) same;
}

-- what was read at the front of a bank
pub record IsFront (image : List ℕ) (layout : Layout) (bank : Bank) (at : ℕ) (open_gate : Bool)
    (generation : ℕ) : Type 0 where
  pub place : at ≡ bank_at layout bank
  pub gate : open_gate ≡ (get_or image at 0 == OPEN)
  pub number : generation ≡ bank_generation image at

pub front_read : (old image : List ℕ) (layout : Layout) (bank : Bank) (at : ℕ) (open_gate : Bool) (generation : ℕ)
    → image ≡ old
    → at ≡ bank_at layout bank → (open_gate ≡ (get_or image at 0 == OPEN)) × (generation ≡ bank_generation image at)
    → IsFront old layout bank at open_gate generation
front_read old image layout bank at open_gate generation same place read = record {
  place = place;
  gate = read.0 ∙ ap (λ (i : List ℕ). get_or i at 0 == OPEN) same;
  number = read.1 ∙ ap (λ (i : List ℕ). bank_generation i at) same;
}

abbrev Checks : ℕ → ℕ → Bool → Bool → ℕ → ℕ → List (Check ℕ)
Checks first_at second_at first second a b = bank_checks first second a b first_at second_at

same_checks : (p p' q q' : ℕ) (t t' u u' : Bool) (a a' b b' : ℕ) → p ≡ p' → q ≡ q' → t ≡ t' → u ≡ u' → a ≡ a' → b ≡ b'
    → Checks p q t u a b ≡ Checks p' q' t' u' a' b'
same_checks p p' q q' t t' u u' a a' b b' e f g h i j = rw e (rw f (rw g (rw h (rw i (rw j refl)))))

-- what was read at the fronts of both
pub record AreFronts (image : List ℕ) (layout : Layout) (first_at second_at : ℕ) (first second : Bool)
    (a b : ℕ) : Type 0 where
  pub one : IsFront image layout First first_at first a
  pub two : IsFront image layout Second second_at second b

there : (image : List ℕ) (plan_length : ℕ) (layout : Layout) (bank : Bank) (at : ℕ) (open_gate : Bool) (generation : ℕ)
    → IsHeaderOf image plan_length layout → IsFront image layout bank at open_gate generation
    → IsFront image (image_layout image) bank at open_gate generation
there image plan_length layout bank at open_gate generation header front =
    subst (λ (one : Layout). IsFront image one bank at open_gate generation) header.layout_is front

fronts_checks : (image : List ℕ) (plan_length : ℕ) (layout : Layout) (first_at second_at : ℕ) (first second : Bool)
    (a b : ℕ)
    → IsHeaderOf image plan_length layout → AreFronts image layout first_at second_at first second a b
    → bank_checks first second a b first_at second_at ≡ banks_part image
fronts_checks image plan_length layout first_at second_at first second a b header fronts =
    let one = there image plan_length layout First first_at first a header fronts.one in
    let two = there image plan_length layout Second second_at second b header fronts.two in
    same_checks first_at (bank_at (image_layout image) First) second_at (bank_at (image_layout image) Second)
    first (is_open image First) second (is_open image Second) a (generation_of image First) b
    (generation_of image Second)
    one.place two.place
    (one.gate ∙ ap (λ (at : ℕ). get_or image at 0 == OPEN) one.place)
    (two.gate ∙ ap (λ (at : ℕ). get_or image at 0 == OPEN) two.place)
    (one.number ∙ ap (bank_generation image) one.place) (two.number ∙ ap (bank_generation image) two.place)

same_choice : (t t' u u' : Bool) (a a' b b' : ℕ) → t ≡ t' → u ≡ u' → a ≡ a' → b ≡ b'
    → chosen t u (b == next a) ≡ chosen t' u' (b' == next a')
same_choice t t' u u' a a' b b' g h i j = rw g (rw h (rw i (rw j refl)))

fronts_choice : (image : List ℕ) (plan_length : ℕ) (layout : Layout) (first_at second_at : ℕ) (first second : Bool)
    (a b : ℕ)
    → IsHeaderOf image plan_length layout → AreFronts image layout first_at second_at first second a b
    → chosen first second (b == next a) ≡ current image
unfolding current
fronts_choice image plan_length layout first_at second_at first second a b header fronts =
    let one = there image plan_length layout First first_at first a header fronts.one in
    let two = there image plan_length layout Second second_at second b header fronts.two in
    same_choice first (is_open image First) second (is_open image Second) a (generation_of image First) b
    (generation_of image Second)
    (one.gate ∙ ap (λ (at : ℕ). get_or image at 0 == OPEN) one.place)
    (two.gate ∙ ap (λ (at : ℕ). get_or image at 0 == OPEN) two.place)
    (one.number ∙ ap (bank_generation image) one.place) (two.number ∙ ap (bank_generation image) two.place)

-- the chosen bank is the current one, and this is its generation
pub chosen_current : (image : List ℕ) (plan_length : ℕ) (layout : Layout) (first_at second_at : ℕ) (first second : Bool)
    (a b : ℕ)
    (bank : Bank) (at generation : ℕ) (open_gate : Bool)
    → IsHeaderOf image plan_length layout → AreFronts image layout first_at second_at first second a b
    → IsFront image layout bank at open_gate generation
    → first_failing (bank_checks first second a b first_at second_at) ≡ None → bank ≡ chosen first second (b == next a)
    → IsCurrent image bank generation
chosen_current image plan_length layout first_at second_at first second a b bank at generation open_gate header fronts
    front passed is =
    let here = there image plan_length layout bank at open_gate generation header front in
    let same : bank ≡ current image = is
    ∙ fronts_choice image plan_length layout first_at second_at first second a b header fronts in
    record {
      passes = subst (λ (checks : List (Check ℕ)). first_failing checks ≡ None)
          (fronts_checks image plan_length layout first_at second_at first second a b header fronts) passed;
      is_current = same;
      generation_is = here.number ∙ ap (bank_generation image) here.place
          ∙ ap (λ (one : Bank). bank_generation image (bank_at (image_layout image) one)) same;
    }

-- banks that fail a check
pub banks_verdict : (image : List ℕ) (plan_length : ℕ) (layout : Layout) (first_at second_at : ℕ) (first second : Bool)
    (a b offset : ℕ)
    → IsHeaderOf image plan_length layout → AreFronts image layout first_at second_at first second a b
    → first_failing (bank_checks first second a b first_at second_at) ≡ Some offset → image_fault image ≡ Some offset
unfolding image_fault
banks_verdict image plan_length layout first_at second_at first second a b offset header fronts failed =
    passed_first (nat_lt (length image) HEADER_LENGTH) 0 (header_part image ++ (banks_part image ++ gates_part image))
    (short_test (length image) header.whole)
    ∙ passed_append (header_part image) (banks_part image ++ gates_part image) header.passes
    ∙ failed_append (banks_part image) (gates_part image) offset
    (subst (λ (checks : List (Check ℕ)). first_failing checks ≡ Some offset)
    (fronts_checks image plan_length layout first_at second_at first second a b header fronts) failed)

-- the first closed slot by place is the number of records
counted : (gate : ℕ → ℕ) (body : ℕ → List ℕ) (n u : ℕ) (bodies : List (List ℕ)) → IsFirstClosed gate n u
    → AreRecords gate body n bodies → u ≡ length bodies
counted gate body n u bodies first are =
    let within : length bodies ≤ n = are.within in
    let low : u ≤ n = first.within in
    elim (cases_lt u (length bodies)) [
      | inl below ↦ absurd (first.closed (omega arith) (are.opened u below))
      | inr above ↦ elim (cases_lt (length bodies) u) [
        | inl below ↦ absurd (are.closed (omega arith) (first.before (length bodies) below))
        | inr same ↦ omega arith
      ]
    ]

-- the slots of the current bank, as they were looked at
pub record Looked (image : List ℕ) (plan_length : ℕ) (layout : Layout) (bank : Bank)
    (generation at used : ℕ) : Type 0 where
  pub header : IsHeaderOf image plan_length layout
  pub newest : IsCurrent image bank generation
  pub place : at ≡ bank_at layout bank
  pub first : IsFirstClosed (slot_gate layout image at) layout.slots used

at_current : (image : List ℕ) (plan_length : ℕ) (layout : Layout) (bank : Bank) (generation at used : ℕ)
    → Looked image plan_length layout bank generation at used → at ≡ current_at image
at_current image plan_length layout bank generation at used looked =
    looked.place ∙ ap (λ (one : Layout). bank_at one bank) looked.header.layout_is
    ∙ ap (bank_at (image_layout image)) looked.newest.is_current

used_is : (image : List ℕ) (plan_length : ℕ) (layout : Layout) (bank : Bank) (generation at used : ℕ)
    → Looked image plan_length layout bank generation at used → used ≡ first_closed image
unfolding records
used_is image plan_length layout bank generation at used looked =
    counted (slot_gate (image_layout image) image (current_at image))
    (slot_body (image_layout image) image (current_at image)) (slot_count image) used
    (records image)
    (subst (λ (one : Layout). IsFirstClosed (slot_gate one image (current_at image)) one.slots used)
    looked.header.layout_is
    (subst (λ (n : ℕ). IsFirstClosed (slot_gate layout image n) layout.slots used)
    (at_current image plan_length layout bank generation at used looked) looked.first))
    (records_are (slot_gate (image_layout image) image (current_at image))
    (slot_body (image_layout image) image (current_at image)) (slot_count image))

abbrev pub gates_from : Layout → List ℕ → ℕ → ℕ → List (Check ℕ)
gates_from layout image at used = gate_checks layout at (slot_gate layout image at) (layout.slots - (used + 1))
    (used + 1)

-- the checks of the gates decide, where those before pass
gates_decide : (image : List ℕ) (plan_length : ℕ) (layout : Layout) (bank : Bank) (generation at used : ℕ)
    → Looked image plan_length layout bank generation at used → image_fault image ≡ first_failing
    (gates_from layout image at used)
unfolding image_fault
gates_decide image plan_length layout bank generation at used looked =
    passed_first (nat_lt (length image) HEADER_LENGTH) 0 (header_part image ++ (banks_part image ++ gates_part image))
    (short_test (length image) looked.header.whole)
    ∙ passed_append (header_part image) (banks_part image ++ gates_part image) looked.header.passes
    ∙ passed_append (banks_part image) (gates_part image) looked.newest.passes
    ∙ ap (λ (one : Layout). first_failing (gates_from one image (current_at image) (first_closed image)))
    (sym looked.header.layout_is)
    ∙ ap (λ (n : ℕ). first_failing (gates_from layout image n (first_closed image)))
    (sym (at_current image plan_length layout bank generation at used looked))
    ∙ ap (λ (n : ℕ). first_failing (gates_from layout image at n))
    (sym (used_is image plan_length layout bank generation at used looked))

pub stray_verdict : (old mid : Trace) (plan_length : ℕ) (layout : Layout) (bank : Bank) (generation at used offset : ℕ)
    → Looked old.now.image plan_length layout bank generation at used → mid ≡ old
    → Some offset ≡ first_failing (gates_from layout mid.now.image at used) → image_fault old.now.image ≡ Some offset
stray_verdict old mid plan_length layout bank generation at used offset looked same stray =
    gates_decide old.now.image plan_length layout bank generation at used looked
    ∙ sym (ap (λ (trace : Trace). first_failing (gates_from layout trace.now.image at used)) same) ∙ sym stray

pub clear_verdict : (old mid : Trace) (plan_length : ℕ) (layout : Layout) (bank : Bank) (generation at used : ℕ)
    → Looked old.now.image plan_length layout bank generation at used → mid ≡ old
    → None ≡ first_failing (gates_from layout mid.now.image at used)
    → IsJournalOf old.now.image (record
    { plan_length = plan_length; layout = layout; bank = bank; generation = generation; used = used })
clear_verdict old mid plan_length layout bank generation at used looked same clear =
    let image = old.now.image in
    record {
      opens = gates_decide image plan_length layout bank generation at used looked
          ∙ sym (ap (λ (trace : Trace). first_failing (gates_from layout trace.now.image at used)) same) ∙ sym clear;
      plan = looked.header.plan ∙ plan_size image (header_bounds (header_of image) (length image) looked.header.passes);
      layout = looked.header.layout_is;
      bank = looked.newest.is_current;
      generation = looked.newest.generation_is;
      used = used_is image plan_length layout bank generation at used looked;
    }

-- a run begun, a sync, and reads behind it
pub same_verdict : {E : Type 0} → (result : Result Verdict E) (old first mid : Trace) → first ≡ old → Synced first mid
    → IfOk result (IsVerdict mid.now.image) → IfOk result (IsVerdict old.now.image)
same_verdict result old first mid begun synced found =
    subst (λ (image : List ℕ). IfOk result (IsVerdict image))
    (synced.image ∙ ap (λ (trace : Trace). trace.now.image) begun) found
