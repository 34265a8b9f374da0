-- What each step of a turn leaves.
use Rattle.std.proofs.Common.{◌≡◌, ◌≢◌, ℕ, ◌+◌, ◌-◌, ◌^◌, ◌<◌, ◌≤◌, ◌⊎◌, ◌∙◌, List, [], length, get_or, set, sym, ap}
use Rattle.std.proofs.Common.{subst, inl, inr, arith}
use Rattle.disk_journal.proofs.Keeping.{Fresh, SameBank, bank_kept, filling, fresh_generation, fresh_kept, front_bounds}
use Rattle.disk_journal.proofs.Keeping.{front_kept, plan_kept, stands_fresh, stands_same}
use Rattle.disk_journal.proofs.Stands.{HasFront, IsStill, Stands, apart, behind, gate_in, held_by, holds_of, still_kept}
use Rattle.disk_journal.proofs.Stands.{twice_other}
use Rattle.disk_journal.specs.Banks.{bank_at, bank_length, bank_content, slot_gate, bank_generation, head_length, next}
use Rattle.disk_journal.specs.Banks.{other, slot_at}
use Rattle.disk_journal.specs.Changes.{IsZero, filled}
use Rattle.disk_journal.specs.Forms.{Becomes, Holds}
use Rattle.disk_journal.specs.Image.{Held, IsAtRest, IsClosedGate, IsOpenedForm, plan_of}
use Rattle.disk_journal.specs.declared.layout.Bank.{Bank}
use Rattle.disk_journal.specs.declared.layout.Bank.TheVariants.{First, Second}
use Rattle.disk_journal.specs.declared.layout.Layout.{Layout}
use Rattle.disk_journal.specs.declared.layout.TheConstants.{BANKS_AT, CLOSED, HEADER_LENGTH, OPEN, PLAN_ROOM}
use Rattle.disk_journal.proofs.Ranges.{all_but_then, all_but_wider, set_but}
use Rattle.disk_journal.specs.Moments.{AllBut}
use Rattle.std.proofs.lemmas.Bool.{cases_eq}
use Rattle.std.proofs.lemmas.List.{get_or-set_same}

-- an image at rest
pub rest_becomes : (old new : Held) (image : List ℕ) → Holds image old ⊎ Holds image new → IsAtRest image
    → Becomes old new image
rest_becomes old new image holds rests = record {
  holds = holds;
  forms = λ form opened. absurd (rests opened.0 opened.1);
  settled = record {
    one = λ at beside here there. absurd (rests at here);
    opened = λ form at opened closed. absurd (rests opened.0 opened.1);
  };
}

-- what opening the one closed gate gives
pub record OpensTo (new : Held) (form : List ℕ) : Type 0 where
  pub holds : Holds form new
  pub open_gates : (at : ℕ) → IsClosedGate form at → get_or form at 0 ≡ OPEN

-- an image of which at most one closed gate is other than 0
pub torn_becomes : (place : ℕ) (old new : Held) (image : List ℕ) → Holds image old ⊎ Holds image new
    → ((at : ℕ) → IsClosedGate image at → at ≡ place)
    → (get_or image place 0 ≢ OPEN → OpensTo new (set image place OPEN)) → Becomes old new image
torn_becomes place old new image holds one opens =
    let form_opens : (form : List ℕ) → IsOpenedForm image form → OpensTo new form =
    λ form opened.
    let here : opened.0 ≡ place = one opened.0 opened.1 in
    let torn : get_or image place 0 ≢ OPEN = subst (λ (at : ℕ). get_or image at 0 ≢ OPEN) here opened.2 in
    let is : form ≡ set image place OPEN = opened.3 ∙ ap (λ (at : ℕ). set image at OPEN) here in
    subst (OpensTo new) (sym is) (opens torn) in
    record {
      holds = holds;
      forms = λ form opened. (form_opens form opened).holds;
      settled = record {
        one = λ at beside here there. one at here ∙ sym (one beside there);
        opened = λ form at opened closed. (form_opens form opened).open_gates at closed;
      };
    }

-- an image whose closed gates are open ones
pub open_becomes : (old new : Held) (image : List ℕ) (place : ℕ) → OpensTo new image →
    ((at : ℕ) → IsClosedGate image at → at ≡ place)
    → Becomes old new image
open_becomes old new image place opens one = record {
  holds = inr opens.holds;
  forms = λ form opened. absurd (opened.2 (opens.open_gates opened.0 opened.1));
  settled = record {
    one = λ at beside here there. one at here ∙ sym (one beside there);
    opened = λ form at opened closed. absurd (opened.2 (opens.open_gates opened.0 opened.1));
  };
}

-- an image at rest in which a turn begins, from this bank to the other
pub record Starts (old : List ℕ) (layout : Layout) (bank : Bank) (bodies : List (List ℕ)) : Type 0 where
  pub stands : Stands old layout bank bodies
  pub free : length bodies < layout.slots → slot_gate layout old (bank_at layout bank) (length bodies) ≡ CLOSED
  pub spare : IsZero (bank_at layout (other bank)) (bank_at layout (other bank) + bank_length layout) old
  pub still : IsStill layout old
  pub old_banks : IsZero BANKS_AT layout.banks old

pub bank_within : (image : List ℕ) (layout : Layout) (bank : Bank) → HasFront image layout
    → bank_at layout bank + bank_length layout ≤ length image
bank_within image layout First front = let long = front_bounds image layout front in omega (arith, long)
bank_within image layout Second front = let long = front_bounds image layout front in omega (arith, long)

-- the image while the old bank is the current one
old_stands : (old new : List ℕ) (layout : Layout) (bank : Bank) (bodies : List (List ℕ)) (at count : ℕ)
    → Starts old layout bank bodies
    → AllBut at count old new → bank_at layout (other bank) ≤ at → at + count ≤ bank_at layout
    (other bank) + bank_length layout
    → get_or new (bank_at layout (other bank)) 0 ≢ OPEN → Stands new layout bank bodies
old_stands old new layout bank bodies at count starts change low high closed =
    let far : HEADER_LENGTH + PLAN_ROOM ≤ bank_at layout (other bank) = behind layout
    (other bank) starts.stands.front.behind_plan in
    let aside : (bank_at layout bank + bank_length layout ≤ at) ⊎ (at + count ≤ bank_at layout bank) =
    elim (apart layout bank) [ inl before ↦ inl (omega arith) | inr after ↦ inr (omega arith) ] in
    stands_same old new layout bank bodies starts.stands
    (front_kept at count layout old new change (omega arith) starts.stands.front)
    (bank_kept at count (bank_at layout bank) layout old new change
    (elim aside [ inl before ↦ inl before | inr after ↦ inr (omega arith) ]))
    (change.outside (bank_at layout bank)
    (elim aside [ inl before ↦ inl (omega arith) | inr after ↦ inr (omega arith) ]) ∙ starts.stands.newest.0)
    closed

old_text : (old new : List ℕ) (layout : Layout) (bank : Bank) (at count : ℕ)
    → AllBut at count old new → bank_at layout (other bank) ≤ at → at + count ≤ bank_at layout
    (other bank) + bank_length layout
    → SameBank (bank_at layout bank) layout old new
old_text old new layout bank at count change low high =
    bank_kept at count (bank_at layout bank) layout old new change
    (elim (apart layout bank) [ inl before ↦ inl (omega arith) | inr after ↦ inr (omega arith) ])

-- its closed gates: none is other than 0, but that of the other bank
old_closed : (old new : List ℕ) (layout : Layout) (bank : Bank) (bodies : List (List ℕ)) → Starts old layout bank bodies
    → Stands new layout bank bodies
    → SameBank (bank_at layout bank) layout old new → IsStill layout new → (at : ℕ) → IsClosedGate new at
    → at ≡ bank_at layout (other bank)
old_closed old new layout bank bodies starts stands same still at closed =
    let here = gate_in new layout bank bodies at stands still closed in
    elim here.1 [
      | inl slot ↦ absurd (here.0 (ap (λ (k : ℕ). get_or new k 0) slot.1 ∙ same.gates (length bodies) slot.0
          ∙ starts.free slot.0))
      | inr gate ↦ gate
    ]

-- the same where the new bank is the current one, and fresh
new_closed : (image : List ℕ) (layout : Layout) (generation : ℕ) (bank : Bank) (text : List ℕ)
    → Stands image layout bank []
    → Fresh (bank_at layout bank) layout generation text image → IsStill layout image → (at : ℕ) → IsClosedGate image at
    → at ≡ bank_at layout (other bank)
new_closed image layout generation bank text stands fresh still at closed =
    let here = gate_in image layout bank [] at stands still closed in
    elim here.1 [
      | inl slot ↦ absurd (here.0 (ap (λ (k : ℕ). get_or image k 0) slot.1 ∙ fresh.zero
          (slot_at layout (bank_at layout bank) 0) (omega arith) (let room : 0 < layout.slots = slot.0 in omega arith)))
      | inr gate ↦ gate
    ]

-- a turn of an image that starts: what is written, and what the image held
pub record Turns (old : List ℕ) (layout : Layout) (generation : ℕ) (bank : Bank) (bodies : List (List ℕ))
    (text : List ℕ) : Type 0 where
  pub starts : Starts old layout bank bodies
  pub sized : length text ≡ layout.content_length
  pub later : generation ≡ next (bank_generation old (bank_at layout bank))

pub later_fits : (old : List ℕ) (layout : Layout) (generation : ℕ) (bank : Bank) (bodies : List (List ℕ))
    (text : List ℕ)
    → Turns old layout generation bank bodies text → generation < 2 ^ 64
later_fits old layout generation bank bodies text turns =
    let later : generation ≡ next (bank_generation old (bank_at layout bank)) = turns.later in omega arith

abbrev pub before : List ℕ → Layout → Bank → List (List ℕ) → Held
before old layout bank bodies = held_by (plan_of old) layout (bank_content layout old (bank_at layout bank)) bodies

abbrev pub after : List ℕ → Layout → List ℕ → Held
after old layout text = held_by (plan_of old) layout text []

-- the new bank is current, whatever the gate of the old one
pub record IsNew (old : List ℕ) (layout : Layout) (generation : ℕ) (bank : Bank) (text image : List ℕ) : Type 0 where
  pub front : HasFront image layout
  pub plan : plan_of image ≡ plan_of old
  pub still : IsStill layout image
  pub fresh : Fresh (bank_at layout bank) layout generation text image
  pub gate : get_or image (bank_at layout bank) 0 ≡ OPEN
  pub newest : (get_or image (bank_at layout (other bank)) 0 ≢ OPEN)
      ⊎ (bank_generation image (bank_at layout bank) ≡ next (bank_generation image (bank_at layout (other bank))))

pub new_stands : (old : List ℕ) (layout : Layout) (generation : ℕ) (bank : Bank) (text image : List ℕ)
    → IsNew old layout generation bank text image
    → Stands image layout bank []
new_stands old layout generation bank text image is_new =
    stands_fresh image layout generation bank text is_new.front is_new.fresh is_new.gate is_new.newest

pub new_holds : (old : List ℕ) (layout : Layout) (generation : ℕ) (bank : Bank) (text image : List ℕ)
    → IsNew old layout generation bank text image
    → Holds image (after old layout text)
new_holds old layout generation bank text image is_new =
    holds_of image layout bank [] (plan_of old) text
    (new_stands old layout generation bank text image is_new) is_new.plan is_new.fresh.has_content

pub new_gates : (old : List ℕ) (layout : Layout) (generation : ℕ) (bank : Bank) (text image : List ℕ)
    → IsNew old layout generation bank text image
    → (at : ℕ) → IsClosedGate image at → at ≡ bank_at layout (other bank)
new_gates old layout generation bank text image is_new at closed =
    new_closed image layout generation bank text
    (new_stands old layout generation bank text image is_new) is_new.fresh is_new.still at closed

-- the old gate while it is torn
pub new_becomes : (old : List ℕ) (what : Held) (layout : Layout) (generation place : ℕ) (bank : Bank)
    (text image : List ℕ) → place ≡ bank_at layout (other bank)
    → IsNew old layout generation bank text image
    → (get_or image place 0 ≢ OPEN → IsNew old layout generation bank text (set image place OPEN))
    → place < length image → Becomes what (after old layout text) image
new_becomes old what layout generation place bank text image placed is_new form_new within =
    torn_becomes place what (after old layout text) image (inr (new_holds old layout generation bank text image is_new))
    (λ at closed. new_gates old layout generation bank text image is_new at closed ∙ sym placed)
    (λ torn.
    let form = set image place OPEN in
    let form_is = form_new torn in
    record {
      holds = new_holds old layout generation bank text form form_is;
      open_gates = λ at closed.
          ap (λ (k : ℕ). get_or form k 0)
          (new_gates old layout generation bank text form form_is at closed ∙ sym placed)
          ∙ get_or-set_same image place OPEN 0 within;
    })

-- the first step: the other bank is filled
pub first_step : (old : List ℕ) (layout : Layout) (generation : ℕ) (bank : Bank) (bodies : List (List ℕ))
    (text image : List ℕ)
    → Turns old layout generation bank bodies text → AllBut (bank_at layout (other bank) + 1)
    (head_length layout - 1) old image
    → Becomes (before old layout bank bodies) (after old layout text) image
first_step old layout generation bank bodies text image turns change =
    let to = bank_at layout (other bank) in
    let far : HEADER_LENGTH + PLAN_ROOM ≤ to = behind layout (other bank) turns.starts.stands.front.behind_plan in
    let shut : get_or image to 0 ≡ CLOSED = change.outside to (inl (omega arith)) ∙ turns.starts.spare to (omega arith)
    (omega arith) in
    let stands : Stands image layout bank bodies =
    old_stands old image layout bank bodies (to + 1) (head_length layout - 1) turns.starts change (omega arith)
    (omega arith)
    (λ here. absurd (omega (arith, shut, here))) in
    let same : SameBank (bank_at layout bank) layout old image =
    old_text old image layout bank (to + 1) (head_length layout - 1) change (omega arith) (omega arith) in
    rest_becomes (before old layout bank bodies) (after old layout text) image
    (inl (holds_of image layout bank bodies (plan_of old) (bank_content layout old (bank_at layout bank)) stands
    (plan_kept (to + 1) (head_length layout - 1) layout old image change (omega arith) turns.starts.stands.front)
    same.content))
    (λ at closed.
    let here : at ≡ to = old_closed old image layout bank bodies turns.starts stands same
    (still_kept (to + 1) (head_length layout - 1) layout old image change (omega arith) turns.starts.still) at closed in
    closed.0 (ap (λ (k : ℕ). get_or image k 0) here ∙ shut))

-- what a turn has written once the other bank is filled
pub record Filled (old : List ℕ) (layout : Layout) (generation : ℕ) (bank : Bank) (text image : List ℕ) : Type 0 where
  pub change : AllBut (bank_at layout (other bank) + 1) (head_length layout - 1) old image
  pub fresh : Fresh (bank_at layout (other bank)) layout generation text image

pub is_filled : (old : List ℕ) (layout : Layout) (generation : ℕ) (bank : Bank) (bodies : List (List ℕ)) (text : List ℕ)
    → Turns old layout generation bank bodies text → Filled old layout generation bank text
    (filled (bank_at layout (other bank)) generation text old)
is_filled old layout generation bank bodies text turns =
    let made = filling (bank_at layout (other bank)) layout generation text old turns.sized
    (bank_within old layout (other bank) turns.starts.stands.front)
    (λ i low high. turns.starts.spare i (omega arith) high) in
    record { change = made.change; fresh = made.fresh }

-- the other bank is filled, and its gate open; the old bank's octets past its gate are what they were
pub record Opened (old : List ℕ) (layout : Layout) (generation : ℕ) (bank : Bank) (text image : List ℕ) : Type 0 where
  pub change : AllBut (bank_at layout (other bank)) (head_length layout) old image
  pub fresh : Fresh (bank_at layout (other bank)) layout generation text image
  pub gate : get_or image (bank_at layout (other bank)) 0 ≡ OPEN

-- another octet as the gate of the filled bank
pub with_other_gate : (old mid image : List ℕ) (layout : Layout) (generation : ℕ) (bank : Bank) (text : List ℕ)
    → Filled old layout generation bank text mid → AllBut (bank_at layout (other bank)) 1 mid image
    → get_or image (bank_at layout (other bank)) 0 ≡ OPEN → Opened old layout generation bank text image
with_other_gate old mid image layout generation bank text made change here =
    let to = bank_at layout (other bank) in
    record {
      change = all_but_then to (head_length layout) old mid image
          (all_but_wider (to + 1) (head_length layout - 1) to (head_length layout) old mid (omega arith)
          (omega arith) made.change)
          (all_but_wider to 1 to (head_length layout) mid image (omega arith) (omega arith) change);
      fresh = fresh_kept to 1 to layout generation text mid image change (inr (omega arith)) made.fresh;
      gate = here;
    }

-- the new bank is the current one from then on
pub opened_new : (old image : List ℕ) (layout : Layout) (generation : ℕ) (bank : Bank) (bodies : List (List ℕ))
    (text : List ℕ)
    → Turns old layout generation bank bodies text → Opened old layout generation bank text image
    → IsNew old layout generation (other bank) text image
opened_new old image layout generation bank bodies text turns opened =
    let to = bank_at layout (other bank) in
    let far : HEADER_LENGTH + PLAN_ROOM ≤ to = behind layout (other bank) turns.starts.stands.front.behind_plan in
    let same : SameBank (bank_at layout bank) layout old image =
    old_text old image layout bank to (head_length layout) opened.change (omega arith) (omega arith) in
    record {
      front = front_kept to (head_length layout) layout old image opened.change far turns.starts.stands.front;
      plan = plan_kept to (head_length layout) layout old image opened.change far turns.starts.stands.front;
      still = still_kept to (head_length layout) layout old image opened.change far turns.starts.still;
      fresh = opened.fresh;
      gate = opened.gate;
      newest = inr (subst (λ (back : Bank). bank_generation image to ≡ next
          (bank_generation image (bank_at layout back))) (sym (twice_other bank))
          (fresh_generation to layout generation text image opened.fresh
          (later_fits old layout generation bank bodies text turns)
          ∙ turns.later ∙ ap next (sym same.generation)));
    }

-- the new bank is current while the old gate is torn
pub gate_torn : (old mid image : List ℕ) (layout : Layout) (generation : ℕ) (bank : Bank) (bodies : List (List ℕ))
    (text : List ℕ)
    → Turns old layout generation bank bodies text → Opened old layout generation bank text mid → AllBut
    (bank_at layout bank) 1 mid image
    → IsNew old layout generation (other bank) text image
gate_torn old mid image layout generation bank bodies text turns opened change =
    let from = bank_at layout bank in
    let to = bank_at layout (other bank) in
    let far : HEADER_LENGTH + PLAN_ROOM ≤ from = behind layout bank turns.starts.stands.front.behind_plan in
    let is_new = opened_new old mid layout generation bank bodies text turns opened in
    let aside : (to + bank_length layout ≤ from) ⊎ (from + 1 ≤ to) =
    elim (apart layout bank) [ inl before ↦ inr (omega arith) | inr after ↦ inl after ] in
    let to_same : SameBank to layout mid image = bank_kept from 1 to layout mid image change
    (elim aside [ inl before ↦ inl before | inr after ↦ inr (omega arith) ]) in
    let from_same : SameBank from layout mid image = bank_kept from 1 from layout mid image change
    (inr (omega arith)) in
    let old_same : SameBank from layout old mid = old_text old mid layout bank to (head_length layout) opened.change
    (omega arith) (omega arith) in
    let later : bank_generation mid to ≡ next (bank_generation mid from) =
    fresh_generation to layout generation text mid opened.fresh
    (later_fits old layout generation bank bodies text turns)
    ∙ turns.later ∙ ap next (sym old_same.generation) in
    record {
      front = front_kept from 1 layout mid image change far is_new.front;
      plan = plan_kept from 1 layout mid image change far is_new.front ∙ is_new.plan;
      still = still_kept from 1 layout mid image change far is_new.still;
      fresh = fresh_kept from 1 to layout generation text mid image change
          (elim aside [ inl before ↦ inl before | inr after ↦ inr (omega arith) ]) opened.fresh;
      gate = change.outside to (elim aside [ inl before ↦ inl (omega arith) | inr after ↦ inr after ]) ∙ opened.gate;
      newest = inr (subst (λ (back : Bank). bank_generation image to ≡ next
          (bank_generation image (bank_at layout back))) (sym (twice_other bank))
          (to_same.generation ∙ later ∙ ap next (sym from_same.generation)));
    }

place_same : (layout : Layout) (bank : Bank) → bank_at layout bank ≡ bank_at layout (other (other bank))
place_same layout bank = ap (bank_at layout) (sym (twice_other bank))

pub gate_inside : (image : List ℕ) (layout : Layout) (bank : Bank) → HasFront image layout
    → bank_at layout bank < length image
gate_inside image layout bank front = let within = bank_within image layout bank front in omega (arith, within)

-- the third step: the old gate is closed
pub third_step : (old mid image : List ℕ) (layout : Layout) (generation : ℕ) (bank : Bank) (bodies : List (List ℕ))
    (text : List ℕ)
    → Turns old layout generation bank bodies text → Opened old layout generation bank text mid → AllBut
    (bank_at layout bank) 1 mid image
    → Becomes (before old layout bank bodies) (after old layout text) image
third_step old mid image layout generation bank bodies text turns opened change =
    let from = bank_at layout bank in
    let is_new = gate_torn old mid image layout generation bank bodies text turns opened change in
    new_becomes old (before old layout bank bodies) layout generation from (other bank) text image
    (place_same layout bank) is_new
    (λ torn. gate_torn old mid (set image from OPEN) layout generation bank bodies text turns opened
    (all_but_then from 1 mid image (set image from OPEN) change (set_but image from OPEN)))
    (gate_inside image layout bank is_new.front)

-- the second step: the filled bank's gate is opened
second_open : (old mid image : List ℕ) (layout : Layout) (generation : ℕ) (bank : Bank) (bodies : List (List ℕ))
    (text : List ℕ)
    → Turns old layout generation bank bodies text → Filled old layout generation bank text mid → AllBut
    (bank_at layout (other bank)) 1 mid image
    → get_or image (bank_at layout (other bank)) 0 ≡ OPEN
    → OpensTo (after old layout text) image
second_open old mid image layout generation bank bodies text turns made change here =
    let from = bank_at layout bank in
    let to = bank_at layout (other bank) in
    let opened = with_other_gate old mid image layout generation bank text made change here in
    let is_new = opened_new old image layout generation bank bodies text turns opened in
    let aside : (from < to) ⊎ (to + head_length layout ≤ from) =
    elim (apart layout bank) [ inl before ↦ inl (omega arith) | inr after ↦ inr (omega arith) ] in
    record {
      holds = new_holds old layout generation (other bank) text image is_new;
      open_gates = λ at closed.
          ap (λ (k : ℕ). get_or image k 0)
          (new_gates old layout generation (other bank) text image is_new at closed ∙ sym (place_same layout bank))
          ∙ opened.change.outside from aside ∙ turns.starts.stands.newest.0;
    }

pub second_step : (old mid image : List ℕ) (layout : Layout) (generation : ℕ) (bank : Bank) (bodies : List (List ℕ))
    (text : List ℕ)
    → Turns old layout generation bank bodies text → Filled old layout generation bank text mid → AllBut
    (bank_at layout (other bank)) 1 mid image
    → Becomes (before old layout bank bodies) (after old layout text) image
second_step old mid image layout generation bank bodies text turns made change =
    let from = bank_at layout bank in
    let to = bank_at layout (other bank) in
    elim (cases_eq (get_or image to 0) OPEN) [
      | inl here ↦
          let opens = second_open old mid image layout generation bank bodies text turns made change here in
          open_becomes (before old layout bank bodies) (after old layout text) image from opens
          (λ at closed. new_gates old layout generation (other bank) text image
          (opened_new old image layout generation bank bodies text turns
          (with_other_gate old mid image layout generation bank text made change here)) at closed
          ∙ sym (place_same layout bank))
      | inr shut ↦
          let far : HEADER_LENGTH + PLAN_ROOM ≤ to = behind layout (other bank) turns.starts.stands.front.behind_plan in
          let wide : AllBut to (head_length layout) old image =
          all_but_then to (head_length layout) old mid image
          (all_but_wider (to + 1) (head_length layout - 1) to (head_length layout) old mid (omega arith)
          (omega arith) made.change)
          (all_but_wider to 1 to (head_length layout) mid image (omega arith) (omega arith) change) in
          let stands : Stands image layout bank bodies =
          old_stands old image layout bank bodies to (head_length layout) turns.starts wide (omega arith)
          (omega arith) shut in
          let same : SameBank from layout old image = old_text old image layout bank to (head_length layout) wide
          (omega arith) (omega arith) in
          torn_becomes to (before old layout bank bodies) (after old layout text) image
          (inl (holds_of image layout bank bodies (plan_of old) (bank_content layout old from) stands
          (plan_kept to (head_length layout) layout old image wide far turns.starts.stands.front) same.content))
          (old_closed old image layout bank bodies turns.starts stands same
          (still_kept to (head_length layout) layout old image wide far turns.starts.still))
          (λ torn. second_open old mid (set image to OPEN) layout generation bank bodies text turns made
          (all_but_then to 1 mid image (set image to OPEN) change (set_but image to OPEN))
          (get_or-set_same image to OPEN 0 (gate_inside image layout (other bank) stands.front)))
    ]

-- the fourth step: the rest of the old bank is zeroed
pub rest_new : (old closed image : List ℕ) (layout : Layout) (generation : ℕ) (bank : Bank) (text : List ℕ)
    → IsNew old layout generation (other bank) text closed → get_or closed (bank_at layout bank) 0 ≡ CLOSED
    → AllBut (bank_at layout bank + 1) (bank_length layout - 1) closed image → IsNew old layout generation
    (other bank) text image
rest_new old closed image layout generation bank text is_new shut change =
    let from = bank_at layout bank in
    let to = bank_at layout (other bank) in
    let far : HEADER_LENGTH + PLAN_ROOM ≤ from = behind layout bank is_new.front.behind_plan in
    let aside : (to + bank_length layout ≤ from + 1) ⊎ (from + 1 + (bank_length layout - 1) ≤ to) =
    elim (apart layout bank) [ inl before ↦ inr (omega arith) | inr after ↦ inl (omega arith) ] in
    let still : get_or image from 0 ≡ CLOSED = change.outside from (inl (omega arith)) ∙ shut in
    record {
      front = front_kept (from + 1) (bank_length layout - 1) layout closed image change (omega arith) is_new.front;
      plan = plan_kept (from + 1) (bank_length layout - 1) layout closed image change (omega arith) is_new.front
          ∙ is_new.plan;
      still = still_kept (from + 1) (bank_length layout - 1) layout closed image change (omega arith) is_new.still;
      fresh = fresh_kept (from + 1) (bank_length layout - 1) to layout generation text closed image change
          (elim aside [ inl before ↦ inl before | inr after ↦ inr (omega arith) ]) is_new.fresh;
      gate = change.outside to (elim aside [ inl before ↦ inl (omega arith) | inr after ↦ inr after ]) ∙ is_new.gate;
      newest = inl (subst (λ (back : Bank). get_or image (bank_at layout back) 0 ≢ OPEN) (sym (twice_other bank))
          (λ open_now. absurd (omega (arith, still, open_now))));
    }

pub new_rests : (old image : List ℕ) (layout : Layout) (generation : ℕ) (bank : Bank) (text : List ℕ)
    → IsNew old layout generation (other bank) text image
    → get_or image (bank_at layout bank) 0 ≡ CLOSED → IsAtRest image
new_rests old image layout generation bank text is_new shut at closed =
    let here : at ≡ bank_at layout bank = new_gates old layout generation (other bank) text image is_new at closed
    ∙ sym (place_same layout bank) in
    closed.0 (ap (λ (k : ℕ). get_or image k 0) here ∙ shut)

pub fourth_step : (old closed image : List ℕ) (layout : Layout) (generation : ℕ) (bank : Bank) (bodies : List (List ℕ))
    (text : List ℕ)
    → IsNew old layout generation (other bank) text closed → get_or closed (bank_at layout bank) 0 ≡ CLOSED
    → AllBut (bank_at layout bank + 1) (bank_length layout - 1) closed image
    → Becomes (before old layout bank bodies) (after old layout text) image
fourth_step old closed image layout generation bank bodies text is_new shut change =
    let from = bank_at layout bank in
    let image_new = rest_new old closed image layout generation bank text is_new shut change in
    let still : get_or image from 0 ≡ CLOSED = change.outside from (inl (omega arith)) ∙ shut in
    rest_becomes (before old layout bank bodies) (after old layout text) image
    (inr (new_holds old layout generation (other bank) text image image_new))
    (new_rests old image layout generation bank text image_new still)
