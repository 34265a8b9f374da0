-- An image that is brought to rest.
use Rattle.std.proofs.Common.{◌≡◌, ◌≢◌, ℕ, ◌+◌, ◌<◌, ◌≤◌, ◌⊎◌, ◌∙◌, List, length, get_or, refl, sym, ap, subst, inl}
use Rattle.std.proofs.Common.{inr, arith}
use Rattle.disk_journal.proofs.Keeping.{SameBank, bank_kept, front_kept, plan_kept}
use Rattle.disk_journal.proofs.Stands.{HasFront, IsStill, Stands, apart, behind, gate_in, held_by, holds_of}
use Rattle.disk_journal.proofs.Turns.{after, before, rest_becomes}
use Rattle.disk_journal.specs.Banks.{bank_at, bank_length, slot_body, bank_content, slot_gate, bank_generation}
use Rattle.disk_journal.specs.Banks.{head_length, other, slot_at}
use Rattle.disk_journal.specs.declared.layout.HeaderForm.{HeaderForm}
use Rattle.disk_journal.specs.Changes.{Gated, GatedForm, GatedSlot}
use Rattle.disk_journal.specs.Forms.{Holds, Regates, Settles}
use Rattle.disk_journal.specs.Image.{IsAtRest, IsClosedGate, current, held, image_layout, plan_of, records}
use Rattle.disk_journal.specs.declared.layout.Bank.{Bank}
use Rattle.disk_journal.specs.declared.layout.Layout.{Layout}
use Rattle.disk_journal.specs.declared.layout.TheConstants.{CONTENT_AT, CLOSED, HEADER_LENGTH, OPEN, PLAN_ROOM}
use Rattle.byteorder.specs.Endian.{big_number}
use Rattle.disk_journal.proofs.Gating.{records_stay}
use Rattle.disk_journal.proofs.Moments.{image_same, synced_holds}
use Rattle.disk_journal.proofs.Ranges.{same_stretch}
use Rattle.disk_journal.specs.Moments.{AllBut, EachImage}
use Rattle.disk_journal.specs.Slots.{gated}
use Rattle.sdls_base.specs.declared.TheConstants.{BODY_LENGTH}
use Rattle.sdls_outside.specs.Disk.{IsSynced}
use Rattle.sdls_outside.specs.Moments.{Trace}
use Rattle.std.proofs.lemmas.Bool.{cases_eq, cases_lt}

-- all of a bank that counts is as it was, but for one gate
pub record Keeps (old new : List ℕ) (layout : Layout) (bank : Bank) (used : ℕ) : Type 0 where
  pub front : HasFront new layout
  pub plan : plan_of new ≡ plan_of old
  pub gate : get_or new (bank_at layout bank) 0 ≡ OPEN
  pub same_content : bank_content layout new (bank_at layout bank) ≡ bank_content layout old (bank_at layout bank)
  pub same_generation : bank_generation new (bank_at layout bank) ≡ bank_generation old (bank_at layout bank)
  pub gates : (k : ℕ) → k < layout.slots → k ≢ used → slot_gate layout new
      (bank_at layout bank) k ≡ slot_gate layout old (bank_at layout bank) k
  pub bodies : (k : ℕ) → k < layout.slots → k ≢ used → slot_body layout new
      (bank_at layout bank) k ≡ slot_body layout old (bank_at layout bank) k

pub keeps_same : (old : List ℕ) (layout : Layout) (bank : Bank) (bodies : List (List ℕ)) → Stands old layout bank bodies
    → Keeps old old layout bank (length bodies)
keeps_same old layout bank bodies stands = record {
  front = stands.front;
  plan = refl;
  gate = stands.newest.0;
  same_content = refl;
  same_generation = refl;
  gates = λ k below other. refl;
  bodies = λ k below other. refl;
}

bank_kept_front : (at : ℕ) (layout : Layout) (old new : List ℕ) (bank : Bank) → AllBut at 1 old new
    → bank_at layout bank + head_length layout ≤ at
    → bank_generation new (bank_at layout bank) ≡ bank_generation old (bank_at layout bank)
bank_kept_front at layout old new bank change far =
    ap (big_number 8) (same_stretch at 1 (bank_at layout bank + 1) 8 old new change (inl (omega arith)))

-- a change of the gate of the first closed slot
pub keeps_slot : (old new : List ℕ) (layout : Layout) (used : ℕ) (bank : Bank) (bodies : List (List ℕ))
    → Stands old layout bank bodies → used ≡ length bodies
    → AllBut (slot_at layout (bank_at layout bank) used) 1 old new → Keeps old new layout bank (length bodies)
keeps_slot old new layout used bank bodies stands count change =
    let from = bank_at layout bank in
    let at = slot_at layout from used in
    let far : HEADER_LENGTH + PLAN_ROOM ≤ from = behind layout bank stands.front.behind_plan in
    record {
      front = front_kept at 1 layout old new change (omega arith) stands.front;
      plan = plan_kept at 1 layout old new change (omega arith) stands.front;
      gate = change.outside from (inl (omega arith)) ∙ stands.newest.0;
      same_content = same_stretch at 1 (from + CONTENT_AT) layout.content_length old new change (inl (omega arith));
      same_generation = (bank_kept_front at layout old new bank change (omega arith));
      gates = λ k below other. change.outside (slot_at layout from k)
          (elim (cases_lt k used) [
            | inl low ↦ inl (omega arith)
            | inr high ↦ inr
                (let after : used < k = omega arith in omega arith)
          ]);
      bodies = λ k below other. same_stretch at 1 (slot_at layout from k + 1) BODY_LENGTH old new change
          (elim (cases_lt k used) [ inl low ↦ inl (omega arith) | inr high ↦ inr (omega arith) ]);
    }

-- a change in the other bank
pub keeps_other : (old mid new : List ℕ) (layout : Layout) (used at count : ℕ) (bank : Bank)
    → Keeps old mid layout bank used → AllBut at count mid new
    → bank_at layout (other bank) ≤ at → at + count ≤ bank_at layout (other bank) + bank_length layout
    → Keeps old new layout bank used
keeps_other old mid new layout used at count bank keeps change low high =
    let from = bank_at layout bank in
    let far : HEADER_LENGTH + PLAN_ROOM ≤ bank_at layout (other bank) = behind layout
    (other bank) keeps.front.behind_plan in
    let aside : (from + bank_length layout ≤ at) ⊎ (at + count ≤ from) =
    elim (apart layout bank) [ inl before ↦ inl (omega arith) | inr after ↦ inr (omega arith) ] in
    let same : SameBank from layout mid new = bank_kept at count from layout mid new change
    (elim aside [ inl before ↦ inl before | inr after ↦ inr (omega arith) ]) in
    record {
      front = front_kept at count layout mid new change (omega arith) keeps.front;
      plan = plan_kept at count layout mid new change (omega arith) keeps.front ∙ keeps.plan;
      gate = change.outside from (elim aside [ inl before ↦ inl (omega arith) | inr after ↦ inr after ]) ∙ keeps.gate;
      same_content = same.content ∙ keeps.same_content;
      same_generation = same.generation ∙ keeps.same_generation;
      gates = λ k below apart_k. same.gates k below ∙ keeps.gates k below apart_k;
      bodies = λ k below apart_k. same.bodies k below ∙ keeps.bodies k below apart_k;
    }

not_open : (octet : ℕ) → octet ≡ CLOSED → octet ≢ OPEN
not_open octet shut here = omega arith

-- once both gates are 0
pub record Shut (new : List ℕ) (layout : Layout) (bank : Bank) (used : ℕ) : Type 0 where
  pub slot : used < layout.slots → slot_gate layout new (bank_at layout bank) used ≡ CLOSED
  pub beside : get_or new (bank_at layout (other bank)) 0 ≡ CLOSED
  pub still : IsStill layout new

keeps_stands : (old new : List ℕ) (layout : Layout) (bank : Bank) (bodies : List (List ℕ))
    → Stands old layout bank bodies
    → Keeps old new layout bank (length bodies) → Shut new layout bank (length bodies) → Stands new layout bank bodies
keeps_stands old new layout bank bodies stands keeps shut =
    let from = bank_at layout bank in
    let within : length bodies ≤ layout.slots = stands.are.within in
    record {
      front = keeps.front;
      newest = (keeps.gate, inl (not_open (get_or new (bank_at layout (other bank)) 0) shut.beside));
      are = records_stay (slot_gate layout old from) (slot_gate layout new from) (slot_body layout old from)
          (slot_body layout new from) layout.slots bodies stands.are
          (record {
            gates = λ k below. keeps.gates k (omega arith) (omega arith);
            bodies = λ k below. keeps.bodies k
                (omega arith) (omega arith);
          })
          (λ room. not_open (slot_gate layout new from (length bodies)) (shut.slot room));
      quiet = λ k above below. keeps.gates k below (omega arith) ∙ stands.quiet k above below;
    }

shut_rests : (old new : List ℕ) (layout : Layout) (bank : Bank) (bodies : List (List ℕ)) → Stands new layout bank bodies
    → Shut new layout bank (length bodies) → IsAtRest new
shut_rests old new layout bank bodies stands shut at closed =
    let here = gate_in new layout bank bodies at stands shut.still closed in
    elim here.1 [
      | inl slot ↦ here.0 (ap (λ (k : ℕ). get_or new k 0) slot.1 ∙ shut.slot slot.0)
      | inr gate ↦ here.0 (ap (λ (k : ℕ). get_or new k 0) gate ∙ shut.beside)
    ]

-- while the rest of the other bank is zeroed
pub record Rested (old new : List ℕ) (layout : Layout) (bank : Bank) (bodies : List (List ℕ)) : Type 0 where
  pub stands : Stands new layout bank bodies
  pub holds : Holds new (held_by (plan_of old) layout (bank_content layout old (bank_at layout bank)) bodies)
  pub rests : IsAtRest new
  pub generation : bank_generation new (bank_at layout bank) ≡ bank_generation old (bank_at layout bank)

pub rested : (old new : List ℕ) (layout : Layout) (bank : Bank) (bodies : List (List ℕ)) → Stands old layout bank bodies
    → Keeps old new layout bank (length bodies) → Shut new layout bank (length bodies)
    → Rested old new layout bank bodies
rested old new layout bank bodies stands keeps shut =
    let new_stands = keeps_stands old new layout bank bodies stands keeps shut in
    record {
      stands = new_stands;
      holds = holds_of new layout bank bodies (plan_of old)
          (bank_content layout old (bank_at layout bank)) new_stands keeps.plan keeps.same_content;
      rests = shut_rests old new layout bank bodies new_stands shut;
      generation = keeps.same_generation;
    }

pub rested_settles : (old new : List ℕ) → Rested old new (image_layout old) (current old) (records old)
    → Settles old new
rested_settles old new rested = inr (rest_becomes (held old) (held old) new (inl rested.holds) rested.rests)

-- one gate of the old image
pub regates_one : (old new : List ℕ) (at : ℕ) → (get_or old at 0 ≢ CLOSED → IsClosedGate old at) → Gated at old new
    → Regates old new
regates_one old new at closed (inl same) = record {
  same_length = ap (λ (image : List ℕ). length image) same;
  others = λ i away. ap (λ (image : List ℕ). get_or image i 0) same;
}
regates_one old new at closed (inr (torn, change)) = record {
  same_length = change.same_length;
  others = λ i away. elim (cases_eq i at) [
    | inl here ↦ absurd (away (subst (IsClosedGate old) (sym here) (closed torn)))
    | inr other ↦ change.outside i (elim (cases_lt i at) [ inl low ↦ inl low | inr high ↦ inr (omega arith) ])
  ];
}

-- and then another
pub regates_two : (old mid new : List ℕ) (at : ℕ) → Regates old mid → get_or mid at 0 ≡ get_or old at 0
    → (get_or old at 0 ≢ CLOSED → IsClosedGate old at) → Gated at mid new → Regates old new
regates_two old mid new at first same closed gated =
    let second : (i : ℕ) → (IsClosedGate old i → ⊥) → get_or new i 0 ≡ get_or mid i 0 =
    λ i away. elim gated [
      | inl whole ↦ ap (λ (image : List ℕ). get_or image i 0) whole
      | inr torn ↦ elim (cases_eq i at) [
        | inl here ↦ absurd (away (subst (IsClosedGate old) (sym here)
            (closed (subst (λ (octet : ℕ). octet ≢ CLOSED) same torn.0))))
        | inr other ↦ torn.1.outside i (elim (cases_lt i at) [ inl low ↦ inl low | inr high ↦ inr (omega arith) ])
      ]
    ] in
    record {
      same_length = elim gated [
        | inl whole ↦ ap (λ (image : List ℕ). length image) whole ∙ first.same_length
        | inr torn ↦ torn.1.same_length ∙ first.same_length
      ];
      others = λ i away. second i away ∙ first.others i away;
    }

-- an image that is not of version 1
pub form_here : (form : HeaderForm) (old : Trace) → IsSynced old.now → EachImage old old (GatedForm form old.now.image)
form_here form old synced = image_same old old (GatedForm form old.now.image) refl
    (synced_holds old.now (GatedForm form old.now.image) synced (inl refl))

pub gated_here : (at : ℕ) (old new : Trace) → IsSynced old.now → new ≡ old → EachImage old new (Gated at old.now.image)
gated_here at old new synced same = image_same old new (Gated at old.now.image) same
    (synced_holds old.now (Gated at old.now.image) synced (inl refl))

pub gated_slot_here : (at index slots : ℕ) (old new : Trace) → IsSynced old.now → new ≡ old → EachImage old new
    (GatedSlot at index slots old.now.image)
gated_slot_here at index slots old new synced same = image_same old new (GatedSlot at index slots old.now.image) same
    (synced_holds old.now (GatedSlot at index slots old.now.image) synced (inl refl))
