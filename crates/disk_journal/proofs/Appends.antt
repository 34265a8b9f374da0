-- A record that is written into the first closed slot of the current bank.
use Rattle.std.proofs.Common.{◌≡◌, ◌≢◌, ℕ, ◌+◌, ◌<◌, ◌≤◌, ◌++◌, ◌∷◌, ◌∙◌, List, [], length, get_or, take, drop, set, ap}
use Rattle.std.proofs.Common.{subst, inl, inr, arith, length-append}
use Rattle.disk_journal.proofs.Keeping.{front_kept, plan_kept}
use Rattle.disk_journal.proofs.Rests.{Keeps}
use Rattle.disk_journal.proofs.Stands.{IsStill, Stands, apart, behind, gate_in, holds_of, still_kept}
use Rattle.disk_journal.proofs.Turns.{Starts, after, bank_within, before, rest_becomes, torn_becomes}
use Rattle.disk_journal.specs.Banks.{bank_at, slot_body, bank_content, slot_gate, other, slot_at}
use Rattle.disk_journal.specs.Forms.{Becomes, Holds}
use Rattle.disk_journal.specs.Image.{Held, IsAtRest, IsClosedGate, grown, plan_of}
use Rattle.disk_journal.specs.declared.layout.Bank.{Bank}
use Rattle.disk_journal.specs.declared.layout.Layout.{Layout}
use Rattle.disk_journal.specs.declared.layout.TheConstants.{CONTENT_AT, CLOSED, HEADER_LENGTH, OPEN, PLAN_ROOM}
use Rattle.disk_journal.specs.declared.layout.TheConstants.{SLOT_LENGTH}
use Rattle.byteorder.specs.Endian.{big_number}
use Rattle.disk_journal.proofs.Gating.{records_grow, records_stay}
use Rattle.disk_journal.proofs.Ranges.{all_but_then, all_but_wider, overwritten_but, overwritten_length}
use Rattle.disk_journal.proofs.Ranges.{overwritten_stretch, same_stretch, set_but}
use Rattle.disk_journal.specs.Moments.{AllBut}
use Rattle.sdls_base.specs.declared.TheConstants.{BODY_LENGTH}
use Rattle.sdls_outside.specs.Site.{overwritten}
use Rattle.std.proofs.lemmas.Bool.{cases_eq, cases_lt}
use Rattle.std.proofs.lemmas.List.{get_or-set_same}

-- a change in the first closed slot
pub in_slot : (old new : List ℕ) (layout : Layout) (bank : Bank) (bodies : List (List ℕ))
    → Stands old layout bank bodies
    → AllBut (slot_at layout (bank_at layout bank) (length bodies)) SLOT_LENGTH old new → Keeps old new layout bank
    (length bodies)
in_slot old new layout bank bodies stands change =
    let from = bank_at layout bank in
    let at = slot_at layout from (length bodies) in
    let far : HEADER_LENGTH + PLAN_ROOM ≤ from = behind layout bank stands.front.behind_plan in
    record {
      front = front_kept at SLOT_LENGTH layout old new change (omega arith) stands.front;
      plan = plan_kept at SLOT_LENGTH layout old new change (omega arith) stands.front;
      gate = change.outside from (inl (omega arith)) ∙ stands.newest.0;
      same_content = same_stretch at SLOT_LENGTH (from + CONTENT_AT) layout.content_length old new change
          (inl (omega arith));
      same_generation = ap (big_number 8) (same_stretch at SLOT_LENGTH (from + 1) 8 old new change (inl (omega arith)));
      gates = λ k below other. change.outside (slot_at layout from k)
          (elim (cases_lt k (length bodies)) [
            | inl low ↦ inl (omega arith)
            | inr high ↦ inr
                (let after : length bodies < k = omega arith in omega arith)
          ]);
      bodies = λ k below other. same_stretch at SLOT_LENGTH (slot_at layout from k + 1) BODY_LENGTH old new change
          (elim (cases_lt k (length bodies)) [
            | inl low ↦ inl (omega arith)
            | inr high ↦ inr
                (let after : length bodies < k = omega arith in omega arith)
          ]);
    }

-- the other bank's gate is still 0
still_shut : (old new : List ℕ) (layout : Layout) (bank : Bank) (bodies : List (List ℕ)) → Starts old layout bank bodies
    → length bodies < layout.slots
    → AllBut (slot_at layout (bank_at layout bank) (length bodies)) SLOT_LENGTH old new → get_or new
    (bank_at layout (other bank)) 0 ≡ CLOSED
still_shut old new layout bank bodies starts room change =
    change.outside (bank_at layout (other bank))
    (elim (apart layout bank) [ inl before ↦ inr (omega arith) | inr after ↦ inl (omega arith) ])
    ∙ starts.spare (bank_at layout (other bank)) (omega arith) (omega arith)

not_open : (octet : ℕ) → octet ≡ CLOSED → octet ≢ OPEN
not_open octet shut here = omega arith

-- an append that begins
pub record Appends (old : List ℕ) (layout : Layout) (bank : Bank) (bodies : List (List ℕ))
    (body : List ℕ) : Type 0 where
  pub starts : Starts old layout bank bodies
  pub room : length bodies < layout.slots
  pub sized : length body ≡ BODY_LENGTH

shut_stands : (old new : List ℕ) (layout : Layout) (bank : Bank) (bodies : List (List ℕ)) (body : List ℕ)
    → Appends old layout bank bodies body
    → AllBut (slot_at layout (bank_at layout bank) (length bodies)) SLOT_LENGTH old new
    → slot_gate layout new (bank_at layout bank) (length bodies) ≢ OPEN → Stands new layout bank bodies
shut_stands old new layout bank bodies body appends change shut =
    let from = bank_at layout bank in
    let stands = appends.starts.stands in
    let room : length bodies < layout.slots = appends.room in
    let keeps = in_slot old new layout bank bodies stands change in
    record {
      front = keeps.front;
      newest = (
        keeps.gate,
        inl (not_open (get_or new (bank_at layout (other bank)) 0)
            (still_shut old new layout bank bodies appends.starts room change)),
      );
      are = records_stay (slot_gate layout old from) (slot_gate layout new from) (slot_body layout old from)
          (slot_body layout new from) layout.slots bodies stands.are
          (record {
            gates = λ k below. keeps.gates k (omega arith) (omega arith);
            bodies = λ k below. keeps.bodies k
                (omega arith) (omega arith);
          })
          (λ room. shut);
      quiet = λ k above below. keeps.gates k below (omega arith) ∙ stands.quiet k above below;
    }

pub open_stands : (old new : List ℕ) (layout : Layout) (bank : Bank) (bodies : List (List ℕ)) (body : List ℕ)
    → Appends old layout bank bodies body
    → AllBut (slot_at layout (bank_at layout bank) (length bodies)) SLOT_LENGTH old new
    → slot_gate layout new (bank_at layout bank) (length bodies) ≡ OPEN → slot_body layout new (bank_at layout bank)
    (length bodies) ≡ body
    → Stands new layout bank (bodies ++ body ∷ [])
open_stands old new layout bank bodies body appends change here body_here =
    let from = bank_at layout bank in
    let stands = appends.starts.stands in
    let room : length bodies < layout.slots = appends.room in
    let keeps = in_slot old new layout bank bodies stands change in
    let longer : length (bodies ++ body ∷ []) ≡ length bodies + 1 = length-append bodies (body ∷ []) in
    record {
      front = keeps.front;
      newest = (
        keeps.gate,
        inl (not_open (get_or new (bank_at layout (other bank)) 0)
            (still_shut old new layout bank bodies appends.starts room change)),
      );
      are = records_grow (slot_gate layout old from) (slot_gate layout new from) (slot_body layout old from)
          (slot_body layout new from) layout.slots bodies body stands.are
          (record {
            gates = λ k below. keeps.gates k (omega arith) (omega arith);
            bodies = λ k below. keeps.bodies k
                (omega arith) (omega arith);
          })
          room here body_here
          (λ next. not_open (slot_gate layout new from (length bodies + 1))
          (keeps.gates (length bodies + 1) next (omega arith) ∙ stands.quiet (length bodies + 1) (omega arith) next));
      quiet = λ k above below.
          let high : length bodies < k = omega arith in
          keeps.gates k below (omega arith) ∙ stands.quiet k high below;
    }

-- an image of version 1 is still not on its way to be migrated
slot_still : (old new : List ℕ) (layout : Layout) (bank : Bank) (bodies : List (List ℕ)) (body : List ℕ)
    → Appends old layout bank bodies body
    → AllBut (slot_at layout (bank_at layout bank) (length bodies)) SLOT_LENGTH old new → IsStill layout new
slot_still old new layout bank bodies body appends change =
    let far : HEADER_LENGTH + PLAN_ROOM ≤ bank_at layout bank =
    behind layout bank appends.starts.stands.front.behind_plan in
    still_kept (slot_at layout (bank_at layout bank) (length bodies)) SLOT_LENGTH layout old new change
    (omega arith) appends.starts.still

abbrev pub grown_by : List ℕ → Layout → Bank → List (List ℕ) → List ℕ → Held
grown_by old layout bank bodies body = grown body (before old layout bank bodies)

-- the slot is open
pub opens_to : (old new : List ℕ) (layout : Layout) (bank : Bank) (bodies : List (List ℕ)) (body : List ℕ)
    → Appends old layout bank bodies body
    → AllBut (slot_at layout (bank_at layout bank) (length bodies)) SLOT_LENGTH old new
    → slot_gate layout new (bank_at layout bank) (length bodies) ≡ OPEN → slot_body layout new (bank_at layout bank)
    (length bodies) ≡ body
    → Holds new (grown_by old layout bank bodies body) × IsAtRest new
opens_to old new layout bank bodies body appends change here body_here =
    let from = bank_at layout bank in
    let keeps = in_slot old new layout bank bodies appends.starts.stands change in
    let stands : Stands new layout bank
    (bodies ++ body ∷ []) = open_stands old new layout bank bodies body appends change here body_here in
    let longer : length (bodies ++ body ∷ []) ≡ length bodies + 1 = length-append bodies (body ∷ []) in (
      holds_of new layout bank (bodies ++ body ∷ []) (plan_of old)
          (bank_content layout old from) stands keeps.plan keeps.same_content,
      λ at closed.
          let in_place = gate_in new layout bank (bodies ++ body ∷ []) at stands
          (slot_still old new layout bank bodies body appends change) closed in
          elim in_place.1 [
            | inl slot ↦
                let next : length bodies + 1 < layout.slots = let below : length
                (bodies ++ body ∷ []) < layout.slots = slot.0 in omega arith in
                in_place.0 (ap (λ (k : ℕ). get_or new k 0) slot.1 ∙ ap (slot_gate layout new from) longer
                ∙ keeps.gates (length bodies + 1) next (omega arith) ∙ appends.starts.stands.quiet (length bodies + 1)
                (omega arith) next)
            | inr gate ↦ in_place.0 (ap (λ (k : ℕ). get_or new k 0) gate
                ∙ still_shut old new layout bank bodies appends.starts appends.room change)
          ],
    )

shut_gates : (old new : List ℕ) (layout : Layout) (bank : Bank) (bodies : List (List ℕ)) (body : List ℕ)
    → Appends old layout bank bodies body
    → AllBut (slot_at layout (bank_at layout bank) (length bodies)) SLOT_LENGTH old new → Stands new layout bank bodies
    → (at : ℕ) → IsClosedGate new at → at ≡ slot_at layout (bank_at layout bank) (length bodies)
shut_gates old new layout bank bodies body appends change stands at closed =
    let in_place = gate_in new layout bank bodies at stands
    (slot_still old new layout bank bodies body appends change) closed in
    elim in_place.1 [
      | inl slot ↦ slot.1
      | inr gate ↦ absurd (in_place.0
          (ap (λ (k : ℕ). get_or new k 0) gate
          ∙ still_shut old new layout bank bodies appends.starts appends.room change))
    ]

-- the body while it is written
pub body_step : (old image : List ℕ) (layout : Layout) (bank : Bank) (bodies : List (List ℕ)) (body : List ℕ)
    → Appends old layout bank bodies body
    → AllBut (slot_at layout (bank_at layout bank) (length bodies) + 1) BODY_LENGTH old image
    → Becomes (before old layout bank bodies) (grown_by old layout bank bodies body) image
body_step old image layout bank bodies body appends change =
    let from = bank_at layout bank in
    let at = slot_at layout from (length bodies) in
    let wide : AllBut at SLOT_LENGTH old image = all_but_wider (at + 1) BODY_LENGTH at SLOT_LENGTH old image
    (omega arith) (omega arith) change in
    let shut : get_or image at 0 ≡ CLOSED = change.outside at (inl (omega arith)) ∙ appends.starts.free appends.room in
    let keeps = in_slot old image layout bank bodies appends.starts.stands wide in
    let stands : Stands image layout bank bodies = shut_stands old image layout bank bodies body appends wide
    (not_open (get_or image at 0) shut) in
    rest_becomes (before old layout bank bodies) (grown_by old layout bank bodies body) image
    (inl (holds_of image layout bank bodies (plan_of old)
    (bank_content layout old from) stands keeps.plan keeps.same_content))
    (λ place closed. closed.0 (ap (λ (k : ℕ). get_or image k 0)
    (shut_gates old image layout bank bodies body appends wide stands place closed) ∙ shut))

-- the gate while it is written
pub gate_step : (old image : List ℕ) (layout : Layout) (bank : Bank) (bodies : List (List ℕ)) (body : List ℕ)
    → Appends old layout bank bodies body
    → AllBut (slot_at layout (bank_at layout bank) (length bodies)) 1
    (overwritten old (slot_at layout (bank_at layout bank) (length bodies) + 1) body) image
    → Becomes (before old layout bank bodies) (grown_by old layout bank bodies body) image
gate_step old image layout bank bodies body appends change =
    let from = bank_at layout bank in
    let at = slot_at layout from (length bodies) in
    let written = overwritten old (at + 1) body in
    let long = bank_within old layout bank appends.starts.stands.front in
    let room : length bodies < layout.slots = appends.room in
    let sized : length body ≡ BODY_LENGTH = appends.sized in
    let inside : at + SLOT_LENGTH ≤ length old = omega (arith, long) in
    let within : at + 1 + length body ≤ length old = omega arith in
    let same : length written ≡ length old = overwritten_length old (at + 1) body within in
    let read : slot_body layout written from (length bodies) ≡ body =
    subst (λ (n : ℕ). take n (drop (at + 1) written) ≡ body) sized (overwritten_stretch old (at + 1) body within) in
    let first : AllBut at SLOT_LENGTH old written =
    all_but_wider (at + 1) (length body) at SLOT_LENGTH old written (omega arith) (omega arith)
    (overwritten_but old (at + 1) body within) in
    let wide_of : (new : List ℕ) → AllBut at 1 written new → AllBut at SLOT_LENGTH old new =
    λ new torn. all_but_then at SLOT_LENGTH old written new first
    (all_but_wider at 1 at SLOT_LENGTH written new (omega arith) (omega arith) torn) in
    let body_of : (new : List ℕ) → AllBut at 1 written new → slot_body layout new from (length bodies) ≡ body =
    λ new torn. same_stretch at 1 (at + 1) BODY_LENGTH written new torn (inr (omega arith)) ∙ read in
    let size : length image ≡ length written = change.same_length in
    elim (cases_eq (get_or image at 0) OPEN) [
      | inl here ↦
          let opened = opens_to old image layout bank bodies body appends (wide_of image change) here
          (body_of image change) in
          rest_becomes (before old layout bank bodies) (grown_by old layout bank bodies body) image
          (inr opened.0) opened.1
      | inr shut ↦
          let wide = wide_of image change in
          let keeps = in_slot old image layout bank bodies appends.starts.stands wide in
          let stands : Stands image layout bank bodies =
          shut_stands old image layout bank bodies body appends wide shut in
          torn_becomes at (before old layout bank bodies) (grown_by old layout bank bodies body) image
          (inl (holds_of image layout bank bodies (plan_of old)
          (bank_content layout old from) stands keeps.plan keeps.same_content))
          (shut_gates old image layout bank bodies body appends wide stands)
          (λ torn.
          let form = set image at OPEN in
          let form_change : AllBut at 1 written form = all_but_then at 1 written image form change
          (set_but image at OPEN) in
          let opened = opens_to old form layout bank bodies body appends (wide_of form form_change)
          (get_or-set_same image at OPEN 0 (omega arith)) (body_of form form_change) in
          record { holds = opened.0; open_gates = λ place closed. absurd (opened.1 place closed) })
    ]
