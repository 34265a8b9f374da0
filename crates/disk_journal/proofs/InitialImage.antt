-- The image that a journal begins with opens, and is at rest.
use Rattle.std.proofs.Common.{◌≡◌, ℕ, zero, suc, ◌+◌, ◌-◌, ◌*◌, ◌^◌, ◌<◌, ◌≤◌, ◌==◌, ◌||◌, ◌&&◌, ◌++◌, ◌∷◌, ◌∙◌, not}
use Rattle.std.proofs.Common.{nat_lt, false, List, [], length, get_or, take, drop, replicate, None, refl, sym, ap}
use Rattle.std.proofs.Common.{subst, inl, inr, arith, append_assoc, length-append}
use Rattle.disk_journal.proofs.Beginning.{IsBegun, fields_size, first_banks, without_gap, zeros_joined}
use Rattle.disk_journal.proofs.Keeping.{fresh_generation, header_passes}
use Rattle.disk_journal.proofs.Stands.{Stands, banks_behind, held_by, stands_at, stands_current, stands_records}
use Rattle.disk_journal.proofs.Turns.{IsNew, new_holds, new_rests, new_stands}
use Rattle.disk_journal.specs.Banks.{bank_at, bank_length, banks_of, bank_generation, image_end, layout_of, other}
use Rattle.disk_journal.specs.Banks.{version_of, zeros_at_of}
use Rattle.disk_journal.specs.Changes.{IsZero}
use Rattle.disk_journal.specs.Fault.{header_checks}
use Rattle.disk_journal.specs.Forms.{Holds}
use Rattle.disk_journal.specs.Header.{form_in, has_magic, header_of, plan_length_in, slot_count_in}
use Rattle.disk_journal.specs.Image.{current, image_layout, plan_of}
use Rattle.disk_journal.specs.Initial.{BeginsAtRest, banks_at_rest, created_image, fields_of, front_image, migration_of}
use Rattle.disk_journal.specs.declared.layout.Bank.{Bank}
use Rattle.disk_journal.specs.declared.layout.Bank.TheVariants.{First, Second}
use Rattle.disk_journal.specs.declared.layout.HeaderForm.{HeaderForm}
use Rattle.disk_journal.specs.declared.layout.HeaderForm.TheVariants.{Old, Migrated, New}
use Rattle.disk_journal.specs.declared.layout.Layout.{Layout}
use Rattle.disk_journal.specs.declared.layout.TheConstants.{BANKS_AT, CONTENT_AT, FIRST_GENERATION, GENERATION_AT}
use Rattle.disk_journal.specs.declared.layout.TheConstants.{GENERATION_LENGTH, MAGIC_ONE, MAGIC_TWO, MIGRATED_AT}
use Rattle.disk_journal.specs.declared.layout.TheConstants.{CLOSED, FIELD_LENGTH, HEADER_LENGTH, LEAST_SLOTS}
use Rattle.disk_journal.specs.declared.layout.TheConstants.{MOST_SLOTS, OPEN, PLAN_LENGTH_AT, PLAN_ROOM, SLOT_COUNT_AT}
use Rattle.disk_journal.specs.declared.layout.TheConstants.{SLOT_LENGTH}
use Rattle.byteorder.specs.Endian.{big_bytes, big_number}
use Rattle.byteorder.specs.Numbers.{big_number-reads_back}
use Rattle.disk_journal.proofs.ZeroLists.{length_zeros}
use Rattle.disk_journal.specs.Zeros.{zeros}
use Rattle.sdls_base.specs.FirstFailing.{first_failing}
use Rattle.sdls_base.specs.Version.{content_length_of}
use Rattle.std.proofs.Math.ListN.{get_or-eq_default, get_or-replicate}
use Rattle.std.proofs.Math.Seq.{drop-append_seam, take-append_seam}
use Rattle.std.proofs.lemmas.Bool.{cases_lt}
use Rattle.std.proofs.lemmas.Bool.Decides.{nat_tests}
use Rattle.std.proofs.lemmas.List.{drop-drop, get_or-append_right, get_or-drop, get_or-take, length-replicate}
use Rattle.std.specs.List.{list_any}

-- the header
abbrev head : HeaderForm → ℕ → ℕ → List ℕ
head form plan_length slots = (OPEN ∷ fields_of form plan_length slots) ++ migration_of form ∷ zeros 494

head_size : (form : HeaderForm) (plan_length slots : ℕ) → length (head form plan_length slots) ≡ HEADER_LENGTH
head_size form plan_length slots =
    let fields : length (fields_of form plan_length slots) ≡ 16 = fields_size form plan_length slots in
    let rest : length (zeros 494) ≡ 494 = length_zeros 494 in
    length-append (OPEN ∷ fields_of form plan_length slots) (migration_of form ∷ zeros 494) ∙ omega
    (arith, fields, rest)

abbrev behind_fields : HeaderForm → List ℕ
behind_fields form = migration_of form ∷ zeros 494

behind_magic : (form : HeaderForm) (plan_length slots : ℕ) → drop PLAN_LENGTH_AT (head form plan_length slots)
    ≡ big_bytes FIELD_LENGTH plan_length ++ big_bytes FIELD_LENGTH slots ++ behind_fields form
behind_magic Old plan_length slots = refl
behind_magic Migrated plan_length slots = refl
behind_magic New plan_length slots = refl

behind_plan_length : (form : HeaderForm) (plan_length slots : ℕ)
    → drop SLOT_COUNT_AT (head form plan_length slots) ≡ big_bytes FIELD_LENGTH slots ++ behind_fields form
behind_plan_length Old plan_length slots = refl
behind_plan_length Migrated plan_length slots = refl
behind_plan_length New plan_length slots = refl

plan_length_read : (form : HeaderForm) (plan_length slots : ℕ) → plan_length ≤ PLAN_ROOM → plan_length_in
    (head form plan_length slots) ≡ plan_length
plan_length_read form plan_length slots room =
    ap (big_number FIELD_LENGTH) (behind_magic form plan_length slots)
    ∙ big_number-reads_back 4 plan_length (big_bytes FIELD_LENGTH slots ++ behind_fields form)
    (let fits : plan_length < 256 ^ 4 = omega arith in fits)

slots_read : (form : HeaderForm) (plan_length slots : ℕ) → slots ≤ MOST_SLOTS → slot_count_in
    (head form plan_length slots) ≡ slots
slots_read form plan_length slots most =
    ap (big_number FIELD_LENGTH) (behind_plan_length form plan_length slots)
    ∙ big_number-reads_back 4 slots (behind_fields form) (let fits : slots < 256 ^ 4 = omega arith in fits)

form_read : (form : HeaderForm) (plan_length slots : ℕ) → form_in (head form plan_length slots) ≡ form
unfolding form_in
form_read Old plan_length slots = refl
form_read Migrated plan_length slots = refl
form_read New plan_length slots = refl

migration_read : (form : HeaderForm) (plan_length slots : ℕ) → get_or
    (head form plan_length slots) MIGRATED_AT 0 ≡ migration_of form
migration_read Old plan_length slots = refl
migration_read Migrated plan_length slots = refl
migration_read New plan_length slots = refl

magic_test : (form : HeaderForm) (plan_length slots : ℕ)
    → (not (has_magic MAGIC_ONE (head form plan_length slots)) && not
    (has_magic MAGIC_TWO (head form plan_length slots))) ≡ false
magic_test Old plan_length slots = refl
magic_test Migrated plan_length slots = refl
magic_test New plan_length slots = refl

none_other_in : (n : ℕ) → list_any (λ octet. not (octet == 0)) (replicate n 0) ≡ false
none_other_in zero = refl
none_other_in (suc n) = none_other_in n

zeros_pass : (n : ℕ) → list_any (λ octet. not (octet == 0)) (zeros n) ≡ false
unfolding zeros
zeros_pass n = none_other_in n

rest_test : (form : HeaderForm) (plan_length slots : ℕ)
    → list_any (λ octet. not (octet == 0)) (drop (zeros_at_of form) (head form plan_length slots)) ≡ false
rest_test Old plan_length slots = zeros_pass 494
rest_test Migrated plan_length slots = zeros_pass 494
rest_test New plan_length slots = zeros_pass 494

plan_test : (n plan_length : ℕ) → n ≡ plan_length → plan_length ≤ PLAN_ROOM → nat_lt PLAN_ROOM n ≡ false
plan_test n plan_length is room = let low : n ≤ PLAN_ROOM = omega arith in grind (arith, nat_tests)

slots_test : (n slots : ℕ) → n ≡ slots → LEAST_SLOTS ≤ slots → slots ≤ MOST_SLOTS →
    (nat_lt n LEAST_SLOTS || nat_lt MOST_SLOTS n) ≡ false
slots_test n slots is least most =
    let low : nat_lt n LEAST_SLOTS ≡ false = let above : LEAST_SLOTS ≤ n = omega arith in grind (arith, nat_tests) in
    let high : nat_lt MOST_SLOTS n ≡ false = let below : n ≤ MOST_SLOTS = omega arith in grind (arith, nat_tests) in
    rw (low, high) refl

length_test : (size end : ℕ) → size ≡ end → nat_lt size end ≡ false
length_test size end sized = let enough : end ≤ size = omega arith in grind (arith, nat_tests)

layout_read : (form : HeaderForm) (plan_length slots : ℕ) → slots ≤ MOST_SLOTS
    → layout_of (form_in (head form plan_length slots))
    (slot_count_in (head form plan_length slots)) ≡ layout_of form slots
layout_read form plan_length slots most =
    ap (λ (one : HeaderForm). layout_of one (slot_count_in (head form plan_length slots)))
    (form_read form plan_length slots)
    ∙ ap (layout_of form) (slots_read form plan_length slots most)

head_passes : (form : HeaderForm) (plan_length slots size : ℕ) → plan_length ≤ PLAN_ROOM → LEAST_SLOTS ≤ slots
    → slots ≤ MOST_SLOTS
    → size ≡ image_end (layout_of form slots) → first_failing (header_checks (head form plan_length slots) size) ≡ None
head_passes form plan_length slots size room least most sized =
    let header = head form plan_length slots in
    header_passes header size (record {
      gate = refl;
      magic = magic_test form plan_length slots;
      plan = plan_test (plan_length_in header) plan_length (plan_length_read form plan_length slots room) room;
      slots = slots_test (slot_count_in header) slots (slots_read form plan_length slots most) least most;
      long = length_test size (image_end (layout_of (form_in header) (slot_count_in header)))
          (sized ∙ sym (ap (λ (one : Layout). image_end one) (layout_read form plan_length slots most)));
      rest = ap (λ (one : HeaderForm). list_any (λ octet. not (octet == 0)) (drop (zeros_at_of one) header))
          (form_read form plan_length slots)
          ∙ rest_test form plan_length slots;
    })

-- the parts of the image
abbrev banks : HeaderForm → ℕ → List ℕ → List ℕ
banks form slots text = banks_at_rest (layout_of form slots) FIRST_GENERATION text First

abbrev front : HeaderForm → List ℕ → ℕ → List ℕ
front form plan slots = front_image form OPEN plan slots

-- what an image is made of
pub record Made (form : HeaderForm) (plan : List ℕ) (slots : ℕ) (text : List ℕ) : Type 0 where
  pub begun : IsBegun form
  pub room : length plan ≤ PLAN_ROOM
  pub least : LEAST_SLOTS ≤ slots
  pub most : slots ≤ MOST_SLOTS
  pub sized : length text ≡ content_length_of (version_of form)

in_two : (form : HeaderForm) (plan : List ℕ) (slots : ℕ) (text : List ℕ) → IsBegun form
    → created_image form plan slots text ≡ front form plan slots ++ banks form slots text
in_two form plan slots text begun = without_gap form OPEN plan slots text FIRST_GENERATION First begun

in_parts : (form : HeaderForm) (plan : List ℕ) (slots : ℕ) (text : List ℕ) → IsBegun form
    → created_image form plan slots text
    ≡ head form (length plan) slots ++ (plan ++ (zeros (PLAN_ROOM - length plan) ++ banks form slots text))
in_parts form plan slots text begun =
    in_two form plan slots text begun
    ∙ append_assoc (head form (length plan) slots ++ plan) (zeros (PLAN_ROOM - length plan)) (banks form slots text)
    ∙ append_assoc (head form (length plan) slots) plan (zeros (PLAN_ROOM - length plan) ++ banks form slots text)

header_is : (form : HeaderForm) (plan : List ℕ) (slots : ℕ) (text : List ℕ) → IsBegun form
    → header_of (created_image form plan slots text) ≡ head form (length plan) slots
header_is form plan slots text begun =
    let header = head form (length plan) slots in
    let rest = plan ++ (zeros (PLAN_ROOM - length plan) ++ banks form slots text) in
    ap (take HEADER_LENGTH) (in_parts form plan slots text begun)
    ∙ subst (λ (n : ℕ). take n (header ++ rest) ≡ header) (head_size form (length plan) slots)
    (take-append_seam header rest)

behind_header : (form : HeaderForm) (plan : List ℕ) (slots : ℕ) (text : List ℕ) → IsBegun form
    → drop HEADER_LENGTH (created_image form plan slots text) ≡ plan ++
    (zeros (PLAN_ROOM - length plan) ++ banks form slots text)
behind_header form plan slots text begun =
    let header = head form (length plan) slots in
    let rest = plan ++ (zeros (PLAN_ROOM - length plan) ++ banks form slots text) in
    ap (drop HEADER_LENGTH) (in_parts form plan slots text begun)
    ∙ subst (λ (n : ℕ). drop n (header ++ rest) ≡ rest) (head_size form (length plan) slots)
    (drop-append_seam header rest)

front_length : (form : HeaderForm) (plan : List ℕ) (slots : ℕ) → length plan ≤ PLAN_ROOM → length
    (front form plan slots) ≡ BANKS_AT
front_length form plan slots room =
    let header = head form (length plan) slots in
    let k = PLAN_ROOM - length plan in
    let one : length header ≡ HEADER_LENGTH = head_size form (length plan) slots in
    let two : length (header ++ plan) ≡ length header + length plan = length-append header plan in
    let three : length (front form plan slots) ≡ length (header ++ plan) + length (zeros k) = length-append
    (header ++ plan) (zeros k) in
    let four : length (zeros k) ≡ k = length_zeros k in
    omega arith

behind_front : (form : HeaderForm) (plan : List ℕ) (slots : ℕ) (text : List ℕ) → IsBegun form → length plan ≤ PLAN_ROOM
    → drop BANKS_AT (created_image form plan slots text) ≡ banks form slots text
behind_front form plan slots text begun room =
    ap (drop BANKS_AT) (in_two form plan slots text begun)
    ∙ subst (λ (n : ℕ). drop n (front form plan slots ++ banks form slots text) ≡ banks form slots text)
    (front_length form plan slots room)
    (drop-append_seam (front form plan slots) (banks form slots text))

-- the banks: what is written, and zeros behind it
abbrev written : List ℕ → List ℕ
written text = (OPEN ∷ big_bytes GENERATION_LENGTH FIRST_GENERATION) ++ text

abbrev left : HeaderForm → ℕ → ℕ
left form slots = SLOT_LENGTH * slots + bank_length (layout_of form slots)

banks_are : (form : HeaderForm) (slots : ℕ) (text : List ℕ) → banks form slots text ≡ written text ++ zeros
    (left form slots)
banks_are form slots text =
    append_assoc (written text) (zeros (SLOT_LENGTH * slots)) (zeros (bank_length (layout_of form slots)))
    ∙ ap (λ (some : List ℕ). written text ++ some)
    (zeros_joined (SLOT_LENGTH * slots) (bank_length (layout_of form slots)))

written_length : (text : List ℕ) → length (written text) ≡ CONTENT_AT + length text
written_length text = length-append (OPEN ∷ big_bytes GENERATION_LENGTH FIRST_GENERATION) text

image_length : (form : HeaderForm) (plan : List ℕ) (slots : ℕ) (text : List ℕ) → Made form plan slots text
    → length (created_image form plan slots text) ≡ image_end (layout_of form slots)
image_length form plan slots text made =
    let zero : List ℕ = zeros (left form slots) in
    let at : banks_of form slots ≡ BANKS_AT = first_banks form slots made.begun in
    let sized : length text ≡ content_length_of (version_of form) = made.sized in
    let one : length (front form plan slots) ≡ BANKS_AT = front_length form plan slots made.room in
    let two : length (banks form slots text) ≡ length (written text) + length zero =
    ap (λ (some : List ℕ). length some) (banks_are form slots text) ∙ length-append (written text) zero in
    let three : length (written text) ≡ CONTENT_AT + length text = written_length text in
    let four : length zero ≡ left form slots = length_zeros (left form slots) in
    let whole : length (created_image form plan slots text) ≡ length (front form plan slots) + length
    (banks form slots text) =
    ap (λ (some : List ℕ). length some) (in_two form plan slots text made.begun) ∙ length-append (front form plan slots)
    (banks form slots text) in
    omega (arith, at, sized, one, two, three, four, whole)

zero_at : (n i : ℕ) → get_or (zeros n) i 0 ≡ 0
unfolding zeros
zero_at n i = elim (cases_lt i n) [
  | inl below ↦ get_or-replicate n i 0 0 below
  | inr above ↦ get_or-eq_default (replicate n 0) 0 (subst (λ (k : ℕ). k ≤ i) (sym (length-replicate n 0)) above)
]

-- every octet behind the content is 0
far_zero : (form : HeaderForm) (plan : List ℕ) (slots : ℕ) (text : List ℕ) (at : ℕ) → Made form plan slots text
    → BANKS_AT + CONTENT_AT + length text ≤ at → get_or (created_image form plan slots text) at 0 ≡ 0
far_zero form plan slots text at made far =
    ap (λ (image : List ℕ). get_or image at 0) (in_two form plan slots text made.begun)
    ∙ get_or-append_right (front form plan slots) (banks form slots text) BANKS_AT at 0
    (front_length form plan slots made.room) (omega arith)
    ∙ ap (λ (some : List ℕ). get_or some (at - BANKS_AT) 0) (banks_are form slots text)
    ∙ get_or-append_right (written text) (zeros (left form slots)) (CONTENT_AT + length text) (at - BANKS_AT) 0
    (written_length text) (omega arith)
    ∙ zero_at (left form slots) (at - BANKS_AT - (CONTENT_AT + length text))

behind_bank : (form : HeaderForm) (plan : List ℕ) (slots : ℕ) (text : List ℕ) (at : ℕ) → Made form plan slots text
    → drop (banks_of form slots + at) (created_image form plan slots text) ≡ drop at (banks form slots text)
behind_bank form plan slots text at made =
    let image = created_image form plan slots text in
    ap (λ (from : ℕ). drop (from + at) image) (first_banks form slots made.begun)
    ∙ sym (drop-drop at BANKS_AT image) ∙ ap (drop at) (behind_front form plan slots text made.begun made.room)

content_there : (form : HeaderForm) (slots : ℕ) (text : List ℕ) → length text ≡ content_length_of (version_of form)
    → take (content_length_of (version_of form)) (drop CONTENT_AT (banks form slots text)) ≡ text
content_there form slots text sized =
    ap (λ (some : List ℕ). take (content_length_of (version_of form)) (drop CONTENT_AT some))
    (banks_are form slots text)
    ∙ subst (λ (n : ℕ). take n (text ++ zeros (left form slots)) ≡ text) sized
    (take-append_seam text (zeros (left form slots)))

gate_there : (form : HeaderForm) (plan : List ℕ) (slots : ℕ) (text : List ℕ) → Made form plan slots text
    → get_or (created_image form plan slots text) (banks_of form slots) 0 ≡ OPEN
gate_there form plan slots text made =
    let image = created_image form plan slots text in
    ap (λ (at : ℕ). get_or image at 0) (first_banks form slots made.begun)
    ∙ sym (get_or-drop BANKS_AT image 0 0)
    ∙ ap (λ (some : List ℕ). get_or some 0 0) (behind_front form plan slots text made.begun made.room)

-- octet 17 is the one of the form
still_there : (form : HeaderForm) (plan : List ℕ) (slots : ℕ) (text : List ℕ) → IsBegun form → form ≡ Old
    → get_or (created_image form plan slots text) MIGRATED_AT 0 ≡ CLOSED
still_there form plan slots text begun old_is =
    let image = created_image form plan slots text in
    sym (get_or-take HEADER_LENGTH image MIGRATED_AT 0 (omega arith))
    ∙ ap (λ (some : List ℕ). get_or some MIGRATED_AT 0) (header_is form plan slots text begun)
    ∙ migration_read form (length plan) slots ∙ ap migration_of old_is

layout_there : (form : HeaderForm) (plan : List ℕ) (slots : ℕ) (text : List ℕ) → IsBegun form → slots ≤ MOST_SLOTS
    → image_layout (created_image form plan slots text) ≡ layout_of form slots
unfolding image_layout
layout_there form plan slots text begun most =
    ap (λ (header : List ℕ). layout_of (form_in header) (slot_count_in header)) (header_is form plan slots text begun)
    ∙ layout_read form (length plan) slots most

plan_is : (form : HeaderForm) (plan : List ℕ) (slots : ℕ) (text : List ℕ) → IsBegun form → length plan ≤ PLAN_ROOM
    → plan_of (created_image form plan slots text) ≡ plan
unfolding plan_of
plan_is form plan slots text begun room =
    let image = created_image form plan slots text in
    ap (λ (n : ℕ). take n (drop HEADER_LENGTH image))
    (ap plan_length_in (header_is form plan slots text begun) ∙ plan_length_read form (length plan) slots room)
    ∙ ap (take (length plan)) (behind_header form plan slots text begun)
    ∙ take-append_seam plan (zeros (PLAN_ROOM - length plan) ++ banks form slots text)

-- the other bank is zero
spare_zero : (form : HeaderForm) (plan : List ℕ) (slots : ℕ) (text : List ℕ) (i : ℕ) → Made form plan slots text
    → bank_at (layout_of form slots) Second ≤ i → get_or (created_image form plan slots text) i 0 ≡ 0
spare_zero form plan slots text i made far =
    let at : banks_of form slots ≡ BANKS_AT = first_banks form slots made.begun in
    let sized : length text ≡ content_length_of (version_of form) = made.sized in
    far_zero form plan slots text i made (omega (arith, at, sized, far))

-- the first bank is the current one
begins_new : (form : HeaderForm) (plan : List ℕ) (slots : ℕ) (text : List ℕ) → Made form plan slots text
    → IsNew (created_image form plan slots text) (layout_of form slots) FIRST_GENERATION First text
    (created_image form plan slots text)
begins_new form plan slots text made =
    let image = created_image form plan slots text in
    let layout = layout_of form slots in
    let at : banks_of form slots ≡ BANKS_AT = first_banks form slots made.begun in
    let sized : length text ≡ content_length_of (version_of form) = made.sized in
    let long : length image ≡ image_end layout = image_length form plan slots text made in
    record {
      front = record {
        whole = omega (arith, at, long);
        header = subst (λ (header : List ℕ). first_failing (header_checks header (length image)) ≡ None)
            (sym (header_is form plan slots text made.begun))
            (head_passes form (length plan) slots (length image) made.room made.least made.most long);
        same_layout = layout_there form plan slots text made.begun made.most;
        behind_plan = banks_behind form slots;
      };
      plan = refl;
      still = still_there form plan slots text made.begun;
      fresh = record {
        has_generation = ap (take GENERATION_LENGTH) (behind_bank form plan slots text GENERATION_AT made);
        has_content = ap (take layout.content_length) (behind_bank form plan slots text CONTENT_AT made)
            ∙ content_there form slots text made.sized;
        zero = λ i low high. far_zero form plan slots text i made (omega (arith, at, sized, low));
      };
      gate = gate_there form plan slots text made;
      newest = inl (λ is_open. let shut = spare_zero form plan slots text (bank_at layout Second) made
          (omega arith) in omega (arith, shut, is_open));
    }

begins_settled : (form : HeaderForm) (plan : List ℕ) (slots : ℕ) (text : List ℕ) → Made form plan slots text
    → BeginsAtRest form plan slots text
begins_settled form plan slots text made =
    let image = created_image form plan slots text in
    let layout = layout_of form slots in
    let is_new = begins_new form plan slots text made in
    let stands : Stands image layout First [] = new_stands image layout FIRST_GENERATION First text image is_new in
    let held_is : Holds image (held_by (plan_of image) layout text []) =
    new_holds image layout FIRST_GENERATION First text image is_new in
    let planned : plan_of image ≡ plan = plan_is form plan slots text made.begun made.room in
    let other_shut : get_or image (bank_at layout Second) 0 ≡ CLOSED = spare_zero form plan slots text
    (bank_at layout Second) made (omega arith) in
    let is_current : current image ≡ First = stands_current image layout First [] stands in
    let is_layout : image_layout image ≡ layout = is_new.front.same_layout in
    let at : banks_of form slots ≡ BANKS_AT = first_banks form slots made.begun in
    record {
      holds = subst (λ (some : List ℕ). Holds image (held_by some layout text [])) planned held_is;
      settled = record {
        closed = record {
          of_image = record {
            opens = held_is.opens;
            plan = ap (λ (some : List ℕ). length some) (sym planned);
            layout = sym is_layout;
            bank = sym is_current;
            generation = sym (ap (λ (at : ℕ). bank_generation image at) (stands_at image layout First [] stands)
                ∙ fresh_generation (bank_at layout First) layout FIRST_GENERATION text image is_new.fresh
                (omega arith));
            used = ap (λ (bodies : List (List ℕ)). length bodies) (sym (stands_records image layout First [] stands));
          };
          rests = new_rests image image layout FIRST_GENERATION Second text is_new other_shut;
          spare = subst (λ (one : Layout). IsZero (bank_at one (other (current image)))
              (bank_at one (other (current image)) + bank_length one) image)
              (sym is_layout)
              (subst (λ (one : Bank). IsZero (bank_at layout (other one))
              (bank_at layout (other one) + bank_length layout) image) (sym is_current)
              (λ i low high. spare_zero form plan slots text i made low));
        };
        old_banks = subst (λ (one : Layout). IsZero BANKS_AT one.banks image) (sym is_layout)
            (λ i low high. absurd (omega (arith, at, low, high)));
      };
    }

pub begins : (form : HeaderForm) (plan text : List ℕ) (slots : ℕ) → IsBegun form → length plan ≤ PLAN_ROOM
    → LEAST_SLOTS ≤ slots
    → slots ≤ MOST_SLOTS → length text ≡ content_length_of (version_of form) → BeginsAtRest form plan slots text
begins form plan text slots begun room least most sized =
    begins_settled form plan slots text
    (record { begun = begun; room = room; least = least; most = most; sized = sized })
