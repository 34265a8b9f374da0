-- What an opening or a migration leaves that is cut off: for `opening_keeps_forms` and `migration_keeps_state`. With
-- it,
-- lemmas on what images and their opened forms hold, passed on for what lies above.
use Rattle.std.proofs.Common.{slice_index, ◌≢◌, ◌≡◌, ◌⊎◌, ℕ, ◌+◌, ◌-◌, ◌<◌, ◌≤◌, List, length, set, take, drop, min}
use Rattle.std.proofs.Common.{None, refl, sym, ap, ◌∙◌, length-drop, subst, inl, inr, arith}
use Rattle.std.proofs.lemmas.Bool.{cases_lt}
use Rattle.std.proofs.lemmas.List.{ext_get_or, get_or-drop, get_or-take, length-take}
use Rattle.disk_journal.proofs.Gating.{AreRecords, records_are}
use Rattle.disk_journal.proofs.Ranges.{set_but}
use Rattle.disk_journal.specs.Moments.{AllBut}
use Rattle.disk_journal.specs.Banks.{bank_at, slot_at, other, slot_gate, slot_body}
use Rattle.disk_journal.specs.Image.{Held, IsAtRest, IsClosedGate, IsOpenedForm, held, migrated, plan_of, records}
use Rattle.disk_journal.specs.Image.{current, current_at, first_closed, image_layout, slot_count}
use Rattle.disk_journal.specs.Fault.{image_fault}
use Rattle.disk_journal.specs.Forms.{Holds, HasOneClosed, Becomes, Regates, StaysWithin}
use Rattle.disk_journal.proofs.Again.{stays_within}
use Rattle.disk_journal.proofs.Headers.{alike, header_octet, old_tests, plan_alike}
use Rattle.disk_journal.proofs.Keeping.{header_bounds, plan_kept}
use Rattle.disk_journal.proofs.Moving.{moved_plan}
use Rattle.disk_journal.proofs.Stands.{HasFront, behind, layout_behind, opens_stands}
use Rattle.disk_journal.specs.declared.layout.HeaderForm.TheVariants.{Old}
use Rattle.disk_journal.specs.declared.layout.TheConstants.{MIGRATED_AT, HEADER_LENGTH, OPEN, PLAN_ROOM}
use Rattle.disk_journal.specs.Header.{header_of, plan_length_in}
use Rattle.unit_state.specs.declared.state.State.{State}
use Rattle.unit_image.specs.OpeningImage.{IsMigration, LeftByOpening, IsMigrating}
use Rattle.unit_image.specs.Shows.{SaysState, Shows}
use Rattle.unit_image.proofs.Turned.{says_migrated}
use Rattle.law_image.specs.Keeping.{HoldsNext, HoldsSame, IsShown, KeepsForms, ShowsThroughout}
pub use Rattle.disk_journal.proofs.Moments.{only_syncs_moments}

-- the records by place
pub records_of : (image : List ℕ)
    → AreRecords (slot_gate (image_layout image) image (current_at image))
    (slot_body (image_layout image) image (current_at image))
    (slot_count image) (records image)
unfolding records
records_of image =
    records_are (slot_gate (image_layout image) image (current_at image))
    (slot_body (image_layout image) image (current_at image))
    (slot_count image)

-- the octet that migrates an image of version 1 is not 1
pub moves_not_open : (image : List ℕ) → (image_layout image).form ≡ Old → slice_index image MIGRATED_AT ≢ OPEN
unfolding image_layout
moves_not_open image old_is here = (old_tests (header_of image) old_is).1 (header_octet image ∙ here)

-- an image at rest has no closed gate that is not 0
pub rests_settled : (image : List ℕ) → IsAtRest image → HasOneClosed image
rests_settled image rests = record {
  one = λ at beside closed other. absurd (rests at closed);
  opened = λ form at is closed. absurd (rests is.0 is.1);
}

-- what holds the old or the new holds it, if both are one
pub holds_same : (image left : List ℕ) → Becomes (held image) (held image) left → HoldsSame image left
holds_same image left becomes = record {
  holds = elim becomes.holds [ inl old ↦ old | inr new ↦ new ];
  forms = becomes.forms;
  settled = becomes.settled;
}

same_next : (image left : List ℕ) → Holds left (held image) → HoldsNext image left
same_next image left same = record { opens = same.opens; next = inl same.is }

moved_next : (image left : List ℕ) (next : Held) → IsMigration image next → Holds left next → HoldsNext image left
moved_next image left next moves is =
    record { opens = is.opens; next = inr (subst (IsMigration image) (sym is.is) moves) }

regated_keeps : (image left : List ℕ) → image_fault image ≡ None → StaysWithin image left → KeepsForms image left
regated_keeps image left opens stays = record {
  holds = elim stays.holds [ inl same ↦ inl (same_next image left same) | inr of_image ↦ inr of_image ];
  forms = λ form opened. elim (stays.forms form opened) [
    | inl is ↦ inl (subst (HoldsNext image) (sym is) (same_next image image (record { opens = opens; is = refl })))
    | inr of_image ↦ inr of_image
  ];
  settled = stays.settled;
}

same_keeps : (image left : List ℕ) → HoldsSame image left → KeepsForms image left
same_keeps image left same = record {
  holds = inl (same_next image left same.holds);
  forms = λ form opened. inl (same_next image form (same.forms form opened));
  settled = same.settled;
}

-- on the way to version 2
migrating : (image left : List ℕ) → IsMigrating image left → HoldsNext image left
migrating image left moves = elim moves.becomes.holds [
  | inl old ↦ same_next image left old
  | inr new ↦ moved_next image left moves.next moves.is_migration new
]

migrating_form : (image left form : List ℕ) → IsMigrating image left → IsOpenedForm left form → HoldsNext image form
migrating_form image left form moves opened =
    moved_next image form moves.next moves.is_migration (moves.becomes.forms form opened)

moved_keeps : (image left : List ℕ) → IsMigrating image left → KeepsForms image left
moved_keeps image left moves = record {
  holds = inl (migrating image left moves);
  forms = λ form opened. inl (migrating_form image left form moves opened);
  settled = moves.becomes.settled;
}

-- an opening that is cut off
pub stays_opened : (image left : List ℕ) → image_fault image ≡ None → HasOneClosed image → LeftByOpening image left
    → KeepsForms image left
stays_opened image left opens one (inl (inl regates)) =
    regated_keeps image left opens (stays_within image left opens one regates)
stays_opened image left opens one (inl (inr becomes)) = same_keeps image left (holds_same image left becomes)
stays_opened image left opens one (inr moves) = moved_keeps image left moves

-- ---- the plan of an opened form

-- an octet at or behind the first bank is no octet of the plan
bank_plan : (image form : List ℕ) (at : ℕ) → HasFront image (image_layout image) → HEADER_LENGTH + PLAN_ROOM ≤ at
    → form ≡ set image at OPEN → plan_of form ≡ plan_of image
bank_plan image form at front low is =
    plan_kept at 1 (image_layout image) image form
    (subst (AllBut at 1 image) (sym is) (set_but image at OPEN)) low front

-- neither is the octet that migrates an image of version 1
moving_plan : (image form : List ℕ) → HasFront image (image_layout image) → form ≡ set image MIGRATED_AT OPEN
    → plan_of form ≡ plan_of image
moving_plan image form front is =
    let change : AllBut MIGRATED_AT 1 image form =
    subst (AllBut MIGRATED_AT 1 image) (sym is) (set_but image MIGRATED_AT OPEN) in
    let long : length form ≡ length image = change.same_length in
    moved_plan (image_layout image) image form front
    (record { no_shorter = omega arith; same = λ i below away. change.outside i away })

pub form_plan : (image form : List ℕ) → image_fault image ≡ None → IsOpenedForm image form
    → (held form).plan ≡ (held image).plan
form_plan image form opens opened =
    let layout = image_layout image in
    let front : HasFront image layout = (opens_stands image opens).front in
    let far : HEADER_LENGTH + PLAN_ROOM ≤ layout.banks = front.behind_plan in
    elim opened.1.1 [
      | inl slot ↦
          let low : HEADER_LENGTH + PLAN_ROOM ≤ bank_at layout (current image) = behind layout (current image) far in
          let place : opened.0 ≡ slot_at layout (bank_at layout (current image)) (first_closed image) = slot.1 in
          bank_plan image form opened.0 front (omega arith) opened.3
      | inr (inl beside) ↦
          let low : HEADER_LENGTH + PLAN_ROOM ≤ bank_at layout (other (current image)) =
          behind layout (other (current image)) far in
          bank_plan image form opened.0 front (subst (λ (at : ℕ). HEADER_LENGTH + PLAN_ROOM ≤ at) (sym beside) low)
          opened.3
      | inr (inr moves) ↦ moving_plan image form front (opened.3 ∙ ap (λ (at : ℕ). set image at OPEN) moves.1)
    ]

-- ---- the plan in what an opening leaves

-- the octets before the first bank are the same, but for the one that migrates an image of version 1
abbrev SameFront : List ℕ → List ℕ → Type 0
SameFront old new = (i : ℕ) → i < HEADER_LENGTH + PLAN_ROOM → (i < MIGRATED_AT) ⊎ (MIGRATED_AT + 1 ≤ i)
    → slice_index new i ≡ slice_index old i

-- then so is the plan
front_plan : (old new : List ℕ) → image_fault old ≡ None → length new ≡ length old → SameFront old new
    → plan_of new ≡ plan_of old
front_plan old new opens long same =
    let front : HasFront old (image_layout old) = (opens_stands old opens).front in
    let whole : HEADER_LENGTH ≤ length old = front.whole in
    let room : plan_length_in (header_of old) ≤ PLAN_ROOM =
    (header_bounds (header_of old) (length old) front.header).plan in
    let text : take (plan_length_in (header_of old)) (drop HEADER_LENGTH new)
    ≡ take (plan_length_in (header_of old)) (drop HEADER_LENGTH old) =
    same_part HEADER_LENGTH (plan_length_in (header_of old)) old new long
    (λ i from below. same i (omega arith) (inr (omega arith))) in
    plan_alike old new (alike old new whole (omega arith) (λ i below away. same i (omega arith) away)) text
  where
    same_part : (from size : ℕ) (old new : List ℕ) → length new ≡ length old
        → ((i : ℕ) → from ≤ i → i < from + size → slice_index new i ≡ slice_index old i)
        → take size (drop from new) ≡ take size (drop from old)
    same_part from size old new long same =
        let rest : length (drop from new) ≡ length (drop from old) =
        length-drop from new ∙ ap (λ (n : ℕ). n - from) long ∙ sym (length-drop from old) in
        let sizes : length (take size (drop from new)) ≡ length (take size (drop from old)) =
        length-take size (drop from new) ∙ ap (min size) rest ∙ sym (length-take size (drop from old)) in
        ext_get_or 0 (take size (drop from new)) (take size (drop from old)) sizes (λ i below.
        let cut : length (take size (drop from new)) ≡ min size (length (drop from new)) =
        length-take size (drop from new) in
        let low : i < size = omega arith in
        get_or-take size (drop from new) i 0 low ∙ get_or-drop from new i 0
        ∙ same (from + i) (omega arith) (omega arith)
        ∙ sym (get_or-drop from old i 0) ∙ sym (get_or-take size (drop from old) i 0 low))

-- no closed gate stands before the first bank, but for the octet that migrates an image
gate_behind : (image : List ℕ) (at : ℕ) → at < HEADER_LENGTH + PLAN_ROOM
    → (at < MIGRATED_AT) ⊎ (MIGRATED_AT + 1 ≤ at) → IsClosedGate image at → ⊥
gate_behind image at low away closed =
    let layout = image_layout image in
    let far : HEADER_LENGTH + PLAN_ROOM ≤ layout.banks = layout_behind image in
    elim closed.1 [
      | inl slot ↦
          let bank : HEADER_LENGTH + PLAN_ROOM ≤ bank_at layout (current image) = behind layout (current image) far in
          let place : at ≡ slot_at layout (bank_at layout (current image)) (first_closed image) = slot.1 in
          absurd (omega arith)
      | inr (inl beside) ↦
          let bank : HEADER_LENGTH + PLAN_ROOM ≤ bank_at layout (other (current image)) =
          behind layout (other (current image)) far in
          let place : at ≡ bank_at layout (other (current image)) = beside in
          absurd (omega arith)
      | inr (inr moves) ↦ absurd (let same = moves.1 in omega arith)
    ]

-- an image with other octets at its closed gates has the front of the image, and so has each opened form of it
gates_front : (image left : List ℕ) → Regates image left → SameFront image left
gates_front image left gates i low away = gates.others i (gate_behind image i low away)

form_front : (left form : List ℕ) → IsOpenedForm left form → SameFront left form
form_front left form opened i low away =
    let change : AllBut opened.0 1 left form =
    subst (AllBut opened.0 1 left) (sym opened.3) (set_but left opened.0 OPEN) in
    change.outside i (elim (cases_lt i opened.0) [
      | inl before ↦ inl before
      | inr beyond ↦ elim (cases_lt opened.0 i) [
        | inl behind ↦ inr (omega arith)
        | inr least ↦
            let same : i ≡ opened.0 = omega arith in
            absurd (gate_behind left i low away (subst (IsClosedGate left) (sym same) opened.1))
      ]
    ])

left_plan : (image left : List ℕ) → image_fault image ≡ None → LeftByOpening image left
    → ((held left).plan ≡ (held image).plan)
    × ((form : List ℕ) → IsOpenedForm left form → (held form).plan ≡ (held image).plan)
left_plan image left opens (inl (inl gates)) = (
  front_plan image left opens gates.same_length (gates_front image left gates),
  λ form is. front_plan image form opens (form_long form is ∙ gates.same_length)
      (λ i low away. form_front left form is i low away ∙ gates_front image left gates i low away),
)
  where
    form_long : (form : List ℕ) → IsOpenedForm left form → length form ≡ length left
    form_long form is = ap (λ (l : List ℕ). length l) is.3 ∙ (set_but left is.0 OPEN).same_length
left_plan image left opens (inl (inr becomes)) = (
  ap (λ (what : Held). what.plan) (holds_same image left becomes).holds.is,
  λ form is. ap (λ (what : Held). what.plan) (becomes.forms form is).is,
)
left_plan image left opens (inr moves) =
    let kept : moves.next.plan ≡ (held image).plan = ap (λ (what : Held). what.plan) moves.is_migration.is in (
      elim moves.becomes.holds [
        | inl old ↦ ap (λ (what : Held). what.plan) old.is
        | inr new ↦ ap (λ (what : Held). what.plan) new.is ∙ kept
      ],
      λ form is. ap (λ (what : Held). what.plan) (moves.becomes.forms form is).is ∙ kept,
    )

-- Whatever an opening leaves of an image that shows a state has the plan of that image, and so has each opened form of
-- it.
pub opened_plan : (image left : List ℕ) (state : State) → Shows image state → LeftByOpening image left
    → ((held left).plan ≡ (held image).plan)
    × ((form : List ℕ) → IsOpenedForm left form → (held form).plan ≡ (held image).plan)
opened_plan image left state shows leaves = left_plan image left shows.holds.opens leaves

-- ---- what is shown

-- what is owed by the layer below: an image shows one state
abbrev pub ShowsOne : Type 0
ShowsOne = (image : List ℕ) (one other : State) → Shows image one → Shows image other → one ≡ other

-- what holds the same as an image shows what the image shows
same_shows : (image left : List ℕ) (state : State) → image_fault image ≡ None → held left ≡ held image
    → Shows left state → Shows image state
same_shows image left state opens same shows = record {
  what = held image;
  holds = record { opens = opens; is = refl };
  says = subst (λ (what : Held). SaysState what state) (sym shows.holds.is ∙ same) shows.says;
}

-- the migration of an image shows the state that it was made of
migration_shows : (image left : List ℕ) → image_fault left ≡ None → (moves : IsMigration image (held left))
    → Shows left moves.state
migration_shows image left opens moves =
    let said : SaysState (held image) moves.state =
    subst (λ (what : Held). SaysState what moves.state) (sym moves.shows.holds.is) moves.shows.says in
    record {
      what = migrated moves.content (held image);
      holds = record { opens = opens; is = moves.is };
      says = says_migrated (held image) moves.state moves.content said moves.is_content;
    }

module _ (once : ShowsOne) (image left : List ℕ) (state : State) where
  -- so what holds it shows the state of the image, and no other
  pub shows_next : HoldsNext image left → Shows image state → Shows left state
  shows_next holds shows = elim holds.next [
    | inl same ↦ same_shows left image state holds.opens (sym same) shows
    | inr moves ↦ subst (Shows left) (once image moves.state state moves.shows shows)
        (migration_shows image left holds.opens moves)
  ]

  moved_shows : image_fault left ≡ None → IsMigration image (held left) → Shows left state → Shows image state
  moved_shows opens moves shows =
      subst (Shows image) (once left moves.state state (migration_shows image left opens moves) shows) moves.shows

  either_shows : image_fault image ≡ None → HoldsNext image left ⊎ IsOpenedForm image left → Shows left state
      → IsShown image state
  either_shows opens (inr form) shows = inr (left, form, shows)
  either_shows opens (inl holds) shows = elim holds.next [
    | inl same ↦ inl (same_shows image left state opens same shows)
    | inr moves ↦ inl (moved_shows holds.opens moves shows)
  ]

-- a state that is shown after an opening was shown before
pub shown_before : ShowsOne → (image left : List ℕ) (state : State) → image_fault image ≡ None → KeepsForms image left
    → IsShown left state
    → IsShown image state
shown_before once image left state opens keeps (inl shows) = either_shows once image left state opens keeps.holds shows
shown_before once image left state opens keeps (inr (form, opened, shows)) =
    either_shows once image form state opens (keeps.forms form opened) shows

-- a migration that is cut off shows the state of the image
pub shown_throughout : ShowsOne → (image left : List ℕ) (state : State) → IsMigrating image left → Shows image state
    → ShowsThroughout left state
shown_throughout once image left state moves shows = record {
  shows = shows_next once image left state (migrating image left moves) shows;
  forms = λ form opened. shows_next once image form state (migrating_form image left form moves opened) shows;
}
