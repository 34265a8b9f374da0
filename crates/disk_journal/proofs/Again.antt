-- What an opening that is cut off leaves of an image with one closed gate.
use Rattle.std.proofs.Common.{◌≡◌, ◌≢◌, ℕ, ◌+◌, ◌<◌, ◌≤◌, ◌⊎◌, ◌∙◌, List, length, get_or, set, None, refl, sym, ap}
use Rattle.std.proofs.Common.{subst, inl, inr, arith}
use Rattle.disk_journal.proofs.Headers.{header_octet, old_tests}
use Rattle.disk_journal.proofs.Keeping.{bank_kept, front_bounds}
use Rattle.disk_journal.proofs.Moving.{KeepsBanks, moved_bank, moved_plan, moved_stands}
use Rattle.disk_journal.proofs.Rests.{Keeps, keeps_other, keeps_same, keeps_slot}
use Rattle.disk_journal.proofs.Stands.{IsStill, Stands, apart, closed_in, holds_of, opens_stands}
use Rattle.disk_journal.proofs.Turns.{after, before}
use Rattle.disk_journal.specs.Banks.{bank_at, bank_length, slot_body, bank_content, slot_gate, next, other, slot_at}
use Rattle.disk_journal.specs.Fault.{image_fault}
use Rattle.disk_journal.specs.Forms.{HasOneClosed, Regates, StaysWithin}
use Rattle.disk_journal.specs.Image.{IsAtRest, IsClosedGate, IsOpenedForm, current, current_at, first_closed}
use Rattle.disk_journal.specs.Image.{image_layout, other_at, plan_of, records, slot_count}
use Rattle.disk_journal.specs.declared.layout.Bank.{Bank}
use Rattle.disk_journal.specs.declared.layout.HeaderForm.{HeaderForm}
use Rattle.disk_journal.specs.declared.layout.HeaderForm.TheVariants.{Old, Migrated, New}
use Rattle.disk_journal.specs.declared.layout.Layout.{Layout}
use Rattle.disk_journal.specs.declared.layout.TheConstants.{MIGRATED_AT, CLOSED, OPEN}
use Rattle.disk_journal.specs.Header.{header_of}
use Rattle.disk_journal.proofs.Gating.{records_are, records_stay}
use Rattle.disk_journal.proofs.Ranges.{set_back}
use Rattle.disk_journal.specs.Moments.{AllBut}
use Rattle.std.proofs.Math.ListN.{get_or-eq_default}
use Rattle.std.proofs.lemmas.Bool.{cases_eq, cases_lt}
use Rattle.std.proofs.lemmas.List.{ext_get_or, get_or-set_other, get_or-set_same, length-set}

-- an image of which one gate is another octet, which does not open it
pub record Torn (image left : List ℕ) (at : ℕ) : Type 0 where
  pub closed : IsClosedGate image at
  pub change : AllBut at 1 image left
  pub shut : get_or left at 0 ≢ OPEN

torn_stands : (image left : List ℕ) (layout : Layout) (at : ℕ) (bank : Bank) (bodies : List (List ℕ))
    → Stands image layout bank bodies
    → AllBut at 1 image left → get_or left at 0 ≢ OPEN
    → ((length bodies < layout.slots) × (at ≡ slot_at layout (bank_at layout bank) (length bodies))) ⊎
    (at ≡ bank_at layout (other bank))
    ⊎ ((layout.form ≡ Old) × (at ≡ MIGRATED_AT))
    → Stands left layout bank bodies × Keeps image left layout bank (length bodies)
torn_stands image left layout at bank bodies stands change shut (inl slot) =
    let from = bank_at layout bank in
    let to = bank_at layout (other bank) in
    let place : at ≡ slot_at layout from (length bodies) = slot.1 in
    let room : length bodies < layout.slots = slot.0 in
    let within : length bodies ≤ layout.slots = stands.are.within in
    let here : AllBut (slot_at layout from (length bodies)) 1 image left =
    subst (λ (k : ℕ). AllBut k 1 image left) place change in
    let closed : slot_gate layout left from
    (length bodies) ≢ OPEN = subst (λ (k : ℕ). get_or left k 0 ≢ OPEN) place shut in
    let keeps = keeps_slot image left layout (length bodies) bank bodies stands refl here in
    let aside : (to + bank_length layout ≤ slot_at layout from (length bodies)) ⊎
    (slot_at layout from (length bodies) + 1 ≤ to) =
    elim (apart layout bank) [ inl before ↦ inr (omega arith) | inr after ↦ inl (omega arith) ] in
    let to_same = bank_kept (slot_at layout from (length bodies)) 1 to layout image left here
    (elim aside [ inl before ↦ inl before | inr after ↦ inr (omega arith) ]) in
    let to_gate : get_or left to 0 ≡ get_or image to 0 =
    here.outside to (elim aside [ inl before ↦ inl (omega arith) | inr after ↦ inr after ]) in (
      record {
        front = keeps.front;
        newest = (
          keeps.gate,
          elim stands.newest.1 [
            | inl other_shut ↦ inl (subst (λ (octet : ℕ). octet ≢ OPEN) (sym to_gate) other_shut)
            | inr later ↦ inr (keeps.same_generation ∙ later ∙ ap next (sym to_same.generation))
          ],
        );
        are = records_stay (slot_gate layout image from) (slot_gate layout left from) (slot_body layout image from)
            (slot_body layout left from) layout.slots bodies stands.are
            (record {
              gates = λ k below. keeps.gates k (omega arith) (omega arith);
              bodies = λ k below. keeps.bodies k
                  (omega arith) (omega arith);
            })
            (λ room. closed);
        quiet = λ k above below. keeps.gates k below (omega arith) ∙ stands.quiet k above below;
      },
      keeps,
    )
torn_stands image left layout at bank bodies stands change shut (inr (inl beside)) =
    let from = bank_at layout bank in
    let to = bank_at layout (other bank) in
    let within : length bodies ≤ layout.slots = stands.are.within in
    let here : AllBut to 1 image left = subst (λ (k : ℕ). AllBut k 1 image left) beside change in
    let keeps = keeps_other image image left layout (length bodies) to 1 bank
    (keeps_same image layout bank bodies stands) here (omega arith) (omega arith) in
    let same = bank_kept to 1 from layout image left here
    (elim (apart layout bank) [ inl before ↦ inl before | inr after ↦ inr (omega arith) ]) in (
      record {
        front = keeps.front;
        newest = (keeps.gate, inl (subst (λ (k : ℕ). get_or left k 0 ≢ OPEN) beside shut));
        are = records_stay (slot_gate layout image from) (slot_gate layout left from) (slot_body layout image from)
            (slot_body layout left from) layout.slots bodies stands.are
            (record { gates = λ k below. same.gates k (omega arith); bodies = λ k below. same.bodies k (omega arith) })
            (λ room. subst (λ (octet : ℕ). octet ≢ OPEN) (sym (same.gates (length bodies) room))
            (stands.are.closed room));
        quiet = λ k above below. same.gates k below ∙ stands.quiet k above below;
      },
      keeps,
    )
torn_stands image left layout at bank bodies stands change shut (inr (inr moves)) =
    let here : AllBut MIGRATED_AT 1 image left = subst (λ (k : ℕ). AllBut k 1 image left) moves.1 change in
    let other_octet : get_or left MIGRATED_AT 0 ≢ OPEN = subst (λ (k : ℕ). get_or left k 0 ≢ OPEN) moves.1 shut in
    let long : length left ≡ length image = here.same_length in
    let keeps : KeepsBanks layout image left =
    record { no_shorter = omega arith; same = λ i below away. here.outside i away } in
    let moved = moved_stands image left layout bank bodies stands moves.0 keeps other_octet in
    let same = moved_bank layout bank image left keeps
    (front_bounds image layout stands.front) stands.front.behind_plan in (
      moved,
      record {
        front = moved.front;
        plan = moved_plan layout image left stands.front keeps;
        gate = moved.newest.0;
        same_content = same.content;
        same_generation = same.generation;
        gates = λ k below other_slot. same.gates k below;
        bodies = λ k below other_slot. same.bodies k below;
      },
    )

-- its closed gates are the same one
torn_gates : (image left : List ℕ) (at : ℕ) → image_fault image ≡ None → HasOneClosed image → Torn image left at
    → Stands left (image_layout image) (current image) (records image) → (place : ℕ) → IsClosedGate left place
    → place ≡ at
torn_gates image left at none one torn stands place closed = elim (cases_eq place at) [
  | inl same ↦ same
  | inr away ↦
      let in_place = closed_in left (image_layout image) (current image) (records image) place stands closed in
      let same : get_or left place 0 ≡ get_or image place 0 =
      torn.change.outside place (elim (cases_lt place at) [ inl low ↦ inl low | inr high ↦ inr (omega arith) ]) in
      one.one place at (subst (λ (octet : ℕ). octet ≢ CLOSED) same in_place.0, in_place.1) torn.closed
]

same_image : (image left : List ℕ) (at : ℕ) → AllBut at 1 image left → get_or left at 0 ≡ get_or image at 0
    → left ≡ image
same_image image left at change same = ext_get_or 0 left image change.same_length (λ i below. elim (cases_eq i at) [
  | inl here ↦ ap (λ (k : ℕ). get_or left k 0) here ∙ same ∙ ap (λ (k : ℕ). get_or image k 0) (sym here)
  | inr away ↦ change.outside i (elim (cases_lt i at) [ inl low ↦ inl low | inr high ↦ inr (omega arith) ])
])

within_image : (image : List ℕ) (at : ℕ) → get_or image at 0 ≢ CLOSED → at < length image
within_image image at torn = elim (cases_lt at (length image)) [
  | inl low ↦ low
  | inr high ↦ absurd (torn (get_or-eq_default image 0 high))
]

-- the form of left
torn_form : (image left form : List ℕ) (at : ℕ) → Torn image left at → form ≡ set left at OPEN → (form ≡ image)
    ⊎ IsOpenedForm image form
torn_form image left form at torn is =
    let inside : at < length image = within_image image at torn.closed.0 in
    let long : length left ≡ length image = torn.change.same_length in
    let change : AllBut at 1 image form = record {
      same_length = ap (λ (octets : List ℕ). length octets) is ∙ length-set left at OPEN ∙ long;
      outside = λ i away.
          let other : i ≢ at = elim away [ inl before ↦ omega arith | inr after ↦ omega arith ] in
          ap (λ (octets : List ℕ). get_or octets i 0) is ∙ get_or-set_other left at i OPEN 0 other
          ∙ torn.change.outside i away;
    } in
    let here : get_or form at 0 ≡ OPEN = ap (λ (octets : List ℕ). get_or octets at 0) is
    ∙ get_or-set_same left at OPEN 0 (omega arith) in
    elim (cases_eq (get_or image at 0) OPEN) [
      | inl open_now ↦ inl (same_image image form at change (here ∙ sym open_now))
      | inr shut ↦ inr (at, torn.closed, shut, set_back at image form change inside ∙ ap (set image at) here)
    ]

torn_stays : (image left : List ℕ) (at : ℕ) → image_fault image ≡ None → HasOneClosed image → Torn image left at
    → StaysWithin image left
torn_stays image left at none one torn =
    let found = torn_stands image left (image_layout image) at (current image) (records image)
    (opens_stands image none) torn.change torn.shut torn.closed.1 in
    let gates = torn_gates image left at none one torn found.0 in
    let form_of : (form : List ℕ) → IsOpenedForm left form → (form ≡ image) ⊎ IsOpenedForm image form =
    λ form opened. torn_form image left form at torn
    (opened.3 ∙ ap (λ (k : ℕ). set left k OPEN) (gates opened.0 opened.1)) in
    record {
      holds = inl (holds_of left (image_layout image) (current image) (records image) (plan_of image)
          (bank_content (image_layout image) image (current_at image)) found.0
          found.1.plan found.1.same_content);
      forms = form_of;
      settled = record {
        one = λ place beside here there. gates place here ∙ sym (gates beside there);
        opened = λ form place opened closed.
            let inside : at < length left = within_image left at
            (subst (λ (k : ℕ). get_or left k 0 ≢ CLOSED) (gates opened.0 opened.1) opened.1.0) in
            let is : form ≡ set left at OPEN = opened.3 ∙ ap (λ (k : ℕ). set left k OPEN) (gates opened.0 opened.1) in
            elim (form_of form opened) [
              | inl same ↦
                  let place_is : place ≡ at = one.one place at
                  (subst (λ (octets : List ℕ). IsClosedGate octets place) same closed) torn.closed in
                  ap (λ (k : ℕ). get_or form k 0) place_is ∙ ap (λ (octets : List ℕ). get_or octets at 0) is
                  ∙ get_or-set_same left at OPEN 0 inside
              | inr of_image ↦ one.opened form place of_image closed
            ];
      };
    }

-- nothing has changed
same_stays : (image left : List ℕ) → image_fault image ≡ None → HasOneClosed image → left ≡ image
    → StaysWithin image left
same_stays image left none one same = subst (StaysWithin image) (sym same) (record {
  holds = inl (record { opens = none; is = refl });
  forms = λ form opened. inr opened;
  settled = one;
})

-- the octet that migrates an image of version 1 is not 1
moves_not_open : (image : List ℕ) → (image_layout image).form ≡ Old → get_or image MIGRATED_AT 0 ≢ OPEN
unfolding image_layout
moves_not_open image old_is here = (old_tests (header_of image) old_is).1 (header_octet image ∙ here)

-- a closed gate that is 1 is the other bank's
open_is_other : (image : List ℕ) (at : ℕ) → IsClosedGate image at → get_or image at 0 ≡ OPEN → at ≡ other_at image
unfolding records
open_is_other image at closed here = elim closed.1 [
  | inl slot ↦
      let are = records_are (slot_gate (image_layout image) image (current_at image))
      (slot_body (image_layout image) image (current_at image)) (slot_count image) in
      absurd (are.closed slot.0 (subst (λ (k : ℕ). get_or image k 0 ≡ OPEN) slot.1 here))
  | inr beside ↦ elim beside [
    | inl gate ↦ gate
    | inr moves ↦ absurd (moves_not_open image moves.0 (subst (λ (k : ℕ). get_or image k 0 ≡ OPEN) moves.1 here))
  ]
]

form_stays : (image left : List ℕ) → HasOneClosed image → IsOpenedForm image left → StaysWithin image left
form_stays image left one form = record {
  holds = inr form;
  forms = λ next opened. absurd (opened.2 (one.opened left opened.0 form opened.1));
  settled = record {
    one = λ at beside here there.
        open_is_other left at here (one.opened left at form here)
        ∙ sym (open_is_other left beside there (one.opened left beside form there));
    opened = λ next at opened closed. absurd (opened.2 (one.opened left opened.0 form opened.1));
  };
}

-- the one closed gate is any octet
gate_stays : (image left : List ℕ) (at : ℕ) → image_fault image ≡ None → HasOneClosed image → IsClosedGate image at
    → Regates image left
    → StaysWithin image left
gate_stays image left at none one closed regates =
    let inside : at < length image = within_image image at closed.0 in
    let change : AllBut at 1 image left = record {
      same_length = regates.same_length;
      outside = λ i away. regates.others i (λ also.
          let same : i ≡ at = one.one i at also closed in
          elim away [ inl before ↦ omega arith | inr after ↦ omega arith ]);
    } in
    elim (cases_eq (get_or left at 0) OPEN) [
      | inl here ↦ elim (cases_eq (get_or image at 0) OPEN) [
        | inl was ↦ same_stays image left none one (same_image image left at change (here ∙ sym was))
        | inr shut ↦ form_stays image left one
            (at, closed, shut, set_back at image left change inside ∙ ap (set image at) here)
      ]
      | inr shut ↦ torn_stays image left at none one (record { closed = closed; change = change; shut = shut })
    ]

rest_stays : (image left : List ℕ) → image_fault image ≡ None → HasOneClosed image → IsAtRest image → Regates image left
    → StaysWithin image left
rest_stays image left none one rests regates = same_stays image left none one
    (ext_get_or 0 left image regates.same_length (λ i below. regates.others i (rests i)))

-- whether an image is on its way to be migrated
moves_or_still : (form : HeaderForm) (octet : ℕ) → (form ≡ Old → octet ≡ CLOSED) ⊎ ((form ≡ Old) × (octet ≢ CLOSED))
moves_or_still Old octet = elim (cases_eq octet CLOSED) [ inl shut ↦ inl (λ is. shut) | inr torn ↦ inr (refl, torn) ]
moves_or_still Migrated octet = inl (λ is. absurd (cc))
moves_or_still New octet = inl (λ is. absurd (cc))

stays_still : (image left : List ℕ) → image_fault image ≡ None → HasOneClosed image → IsStill (image_layout image) image
    → Regates image left
    → StaysWithin image left
stays_still image left none one still regates = elim (cases_eq (get_or image (other_at image) 0) CLOSED) [
  | inr torn ↦ gate_stays image left (other_at image) none one (torn, inr (inl refl)) regates
  | inl shut ↦ elim (cases_lt (first_closed image) (slot_count image)) [
    | inr full ↦ rest_stays image left none one (λ at closed. elim closed.1 [
      | inl slot ↦ let room : first_closed image < slot_count image = slot.0 in omega arith
      | inr beside ↦ elim beside [
        | inl gate ↦ closed.0 (ap (λ (k : ℕ). get_or image k 0) gate ∙ shut)
        | inr moves ↦ closed.0 (ap (λ (k : ℕ). get_or image k 0) moves.1 ∙ still moves.0)
      ]
    ]) regates
    | inl room ↦ elim (cases_eq (slot_gate (image_layout image) image (current_at image) (first_closed image)) CLOSED) [
      | inr torn ↦ gate_stays image left (slot_at (image_layout image) (current_at image) (first_closed image)) none one
          (torn, inl (room, refl)) regates
      | inl slot_shut ↦ rest_stays image left none one (λ at closed. elim closed.1 [
        | inl slot ↦ closed.0 (ap (λ (k : ℕ). get_or image k 0) slot.1 ∙ slot_shut)
        | inr beside ↦ elim beside [
          | inl gate ↦ closed.0 (ap (λ (k : ℕ). get_or image k 0) gate ∙ shut)
          | inr moves ↦ closed.0 (ap (λ (k : ℕ). get_or image k 0) moves.1 ∙ still moves.0)
        ]
      ]) regates
    ]
  ]
]

pub stays_within : (image left : List ℕ) → image_fault image ≡ None → HasOneClosed image → Regates image left
    → StaysWithin image left
stays_within image left none one regates = elim
    (moves_or_still (image_layout image).form (get_or image MIGRATED_AT 0)) [
      | inl still ↦ stays_still image left none one still regates
      | inr moves ↦ gate_stays image left MIGRATED_AT none one (moves.1, inr (inr (moves.0, refl))) regates
    ]
