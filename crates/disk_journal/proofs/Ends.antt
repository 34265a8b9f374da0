-- A whole turn.
use Rattle.std.proofs.Common.{◌≡◌, ℕ, ◌+◌, ◌-◌, ◌<◌, ◌≤◌, ◌∷◌, ◌∙◌, List, [], length, get_or, refl, sym, ap, subst, inl}
use Rattle.std.proofs.Common.{inr, arith}
use Rattle.disk_journal.proofs.Keeping.{beside_of, beside_then, fresh_generation}
use Rattle.disk_journal.proofs.Stands.{IsStill, Stands, opens_stands, stands_at, stands_current, stands_opens}
use Rattle.disk_journal.proofs.Stands.{stands_records, twice_other}
use Rattle.disk_journal.proofs.Turns.{IsNew, Opened, Starts, Turns, after, bank_within, before, first_step, fourth_step}
use Rattle.disk_journal.proofs.Turns.{gate_inside, gate_torn, is_filled, later_fits, new_holds, new_rests, new_stands}
use Rattle.disk_journal.proofs.Turns.{rest_new, second_step, third_step, with_other_gate}
use Rattle.disk_journal.specs.Banks.{bank_at, bank_length, slot_gate, bank_generation, head_length, next, other}
use Rattle.disk_journal.specs.Banks.{slot_at}
use Rattle.disk_journal.specs.Changes.{IsErased, IsZero, KeepsBeside, Steps, filled, with_gate}
use Rattle.disk_journal.specs.Forms.{Becomes, Holds}
use Rattle.disk_journal.specs.Image.{current, current_at, first_closed, held, image_layout, other_at, plan_of, records}
use Rattle.disk_journal.specs.Image.{turned}
use Rattle.disk_journal.specs.Journal.{IsSettled, IsSettledImage, JournalView}
use Rattle.disk_journal.specs.Rest.{IsRest, IsRestIn}
use Rattle.disk_journal.specs.declared.layout.Bank.{Bank}
use Rattle.disk_journal.specs.declared.layout.Layout.{Layout}
use Rattle.disk_journal.specs.declared.layout.TheConstants.{BANKS_AT, MIGRATED_AT, CLOSED, OPEN}
use Rattle.disk_journal.proofs.Moments.{image_weaker, synced_holds}
use Rattle.disk_journal.proofs.Ranges.{overwritten_but, overwritten_one}
use Rattle.disk_journal.specs.Moments.{AllBut, EachImage}
use Rattle.sdls_outside.specs.Disk.{IsSynced, Leaves}
use Rattle.sdls_outside.specs.Moments.{Trace}
use Rattle.std.proofs.lemmas.Bool.{cases_eq}

-- an image at rest is not on its way to be migrated
pub settled_still : (image : List ℕ) (journal : JournalView) → IsSettledImage image journal → IsStill
    (image_layout image) image
settled_still image journal settled old_is = elim (cases_eq (get_or image MIGRATED_AT 0) CLOSED) [
  | inl shut ↦ shut
  | inr torn ↦ absurd (settled.closed.rests MIGRATED_AT (torn, inr (inr (old_is, refl))))
]

-- a journal at rest can turn
pub starts_of : (image : List ℕ) (journal : JournalView) → IsSettledImage image journal → Starts image
    (image_layout image) (current image) (records image)
starts_of image journal settled = record {
  stands = opens_stands image settled.closed.of_image.opens;
  free = λ room. elim (cases_eq (slot_gate (image_layout image) image (current_at image) (first_closed image)) CLOSED) [
    | inl shut ↦ shut
    | inr torn ↦ absurd (settled.closed.rests (slot_at (image_layout image) (current_at image) (first_closed image))
        (torn, inl (room, refl)))
  ];
  spare = settled.closed.spare;
  still = settled_still image journal settled;
  old_banks = settled.old_banks;
}

pub turns_of : (image text : List ℕ) (journal : JournalView) (generation : ℕ) → IsSettledImage image journal
    → length text ≡ (image_layout image).content_length
    → generation ≡ next journal.generation → Turns image (image_layout image) generation (current image)
    (records image) text
turns_of image text journal generation settled sized later = record {
  starts = starts_of image journal settled;
  sized = sized;
  later = later ∙ ap next settled.closed.of_image.generation;
}

-- the images between the steps
opened_image : (old : List ℕ) (layout : Layout) (generation : ℕ) (bank : Bank) (bodies : List (List ℕ)) (text : List ℕ)
    → Turns old layout generation bank bodies text
    → Opened old layout generation bank text
    (with_gate OPEN (bank_at layout (other bank)) (filled (bank_at layout (other bank)) generation text old))
opened_image old layout generation bank bodies text turns =
    let to = bank_at layout (other bank) in
    let mid = filled to generation text old in
    let made = is_filled old layout generation bank bodies text turns in
    let long : length mid ≡ length old = made.change.same_length in
    let inside : to < length old = gate_inside old layout (other bank) turns.starts.stands.front in
    with_other_gate old mid (with_gate OPEN to mid) layout generation bank text made
    (overwritten_but mid to (OPEN ∷ []) (omega arith)) (overwritten_one mid to OPEN (omega arith))

pub record Closed (old : List ℕ) (layout : Layout) (generation : ℕ) (bank : Bank) (text image : List ℕ) : Type 0 where
  pub is_new : IsNew old layout generation (other bank) text image
  pub shut : get_or image (bank_at layout bank) 0 ≡ CLOSED

closed_image : (old : List ℕ) (layout : Layout) (generation : ℕ) (bank : Bank) (bodies : List (List ℕ)) (text : List ℕ)
    → Turns old layout generation bank bodies text
    → Closed old layout generation bank text
    (with_gate CLOSED (bank_at layout bank)
    (with_gate OPEN (bank_at layout (other bank)) (filled (bank_at layout (other bank)) generation text old)))
closed_image old layout generation bank bodies text turns =
    let from = bank_at layout bank in
    let to = bank_at layout (other bank) in
    let mid = with_gate OPEN to (filled to generation text old) in
    let opened = opened_image old layout generation bank bodies text turns in
    let long : length mid ≡ length old = opened.change.same_length in
    let inside : from < length old = gate_inside old layout bank turns.starts.stands.front in
    record {
      is_new = gate_torn old mid (with_gate CLOSED from mid) layout generation bank bodies text turns opened
          (overwritten_but mid from (CLOSED ∷ []) (omega arith));
      shut = overwritten_one mid from CLOSED (omega arith);
    }

-- each moment
pub steps_become : (old : List ℕ) (layout : Layout) (generation : ℕ) (bank : Bank) (bodies : List (List ℕ))
    (text image : List ℕ)
    → Turns old layout generation bank bodies text
    → Steps (bank_at layout bank) (bank_at layout (other bank)) (head_length layout)
    (bank_length layout) generation text old image
    → Becomes (before old layout bank bodies) (after old layout text) image
steps_become old layout generation bank bodies text image turns (inl change) =
    first_step old layout generation bank bodies text image turns change
steps_become old layout generation bank bodies text image turns (inr (inl change)) =
    second_step old (filled (bank_at layout (other bank)) generation text old) image layout generation bank bodies text
    turns
    (is_filled old layout generation bank bodies text turns) change
steps_become old layout generation bank bodies text image turns (inr (inr (inl change))) =
    third_step old (with_gate OPEN (bank_at layout (other bank))
    (filled (bank_at layout (other bank)) generation text old)) image
    layout generation bank bodies text turns (opened_image old layout generation bank bodies text turns) change
steps_become old layout generation bank bodies text image turns (inr (inr (inr change))) =
    let closed = closed_image old layout generation bank bodies text turns in
    fourth_step old (with_gate CLOSED (bank_at layout bank)
    (with_gate OPEN (bank_at layout (other bank)) (filled (bank_at layout (other bank)) generation text old)))
    image layout generation bank bodies text closed.is_new closed.shut change

-- the end
abbrev pub fresh_view : ℕ → Layout → Bank → ℕ → JournalView
fresh_view plan_length layout bank generation = record {
  plan_length = plan_length;
  layout = layout;
  bank = bank;
  generation = generation;
  used = 0;
}

pub record Ended (old : List ℕ) (layout : Layout) (generation : ℕ) (bank : Bank) (text image : List ℕ) : Type 0 where
  pub of_image : (plan_length : ℕ) → plan_length ≡ length (plan_of old)
      → IsSettledImage image (fresh_view plan_length layout (other bank) generation)
  pub holds : Holds image (after old layout text)
  pub beside : KeepsBeside layout old image
  pub rest : IsRest image (other bank) generation text

pub zero_all : (from size : ℕ) (image : List ℕ) → 1 ≤ size → get_or image from 0 ≡ CLOSED
    → IsZero (from + 1) (from + 1 + (size - 1)) image → IsZero from (from + size) image
zero_all from size image some first rest i low high = elim (cases_eq i from) [
  | inl same ↦ ap (λ (k : ℕ). get_or image k 0) same ∙ first
  | inr other ↦ rest i (omega arith) (omega arith)
]

ended_beside : (old : List ℕ) (layout : Layout) (generation : ℕ) (bank : Bank) (bodies : List (List ℕ))
    (text image : List ℕ)
    → Turns old layout generation bank bodies text
    → AllBut (bank_at layout bank + 1) (bank_length layout - 1)
    (with_gate CLOSED (bank_at layout bank)
    (with_gate OPEN (bank_at layout (other bank)) (filled (bank_at layout (other bank)) generation text old))) image
    → KeepsBeside layout old image
ended_beside old layout generation bank bodies text image turns change =
    let from = bank_at layout bank in
    let to = bank_at layout (other bank) in
    let mid = with_gate OPEN to (filled to generation text old) in
    let opened = opened_image old layout generation bank bodies text turns in
    let long : length mid ≡ length old = opened.change.same_length in
    let inside : from < length old = gate_inside old layout bank turns.starts.stands.front in
    beside_then layout old mid image
    (beside_of to (head_length layout) layout (other bank) old mid opened.change (omega arith) (omega arith))
    (beside_then layout mid (with_gate CLOSED from mid) image
    (beside_of from 1 layout bank mid (with_gate CLOSED from mid) (overwritten_but mid from (CLOSED ∷ []) (omega arith))
    (omega arith) (omega arith))
    (beside_of (from + 1) (bank_length layout - 1) layout bank (with_gate CLOSED from mid) image change (omega arith)
    (omega arith)))

pub ended : (old : List ℕ) (layout : Layout) (generation : ℕ) (bank : Bank) (bodies : List (List ℕ))
    (text image : List ℕ)
    → Turns old layout generation bank bodies text
    → IsErased (bank_at layout bank + 1) (bank_length layout - 1)
    (with_gate CLOSED (bank_at layout bank)
    (with_gate OPEN (bank_at layout (other bank)) (filled (bank_at layout (other bank)) generation text old))) image
    → Ended old layout generation bank text image
ended old layout generation bank bodies text image turns cleared =
    let from = bank_at layout bank in
    let closed = closed_image old layout generation bank bodies text turns in
    let mid = with_gate CLOSED from
    (with_gate OPEN (bank_at layout (other bank)) (filled (bank_at layout (other bank)) generation text old)) in
    let image_new : IsNew old layout generation (other bank) text image =
    rest_new old mid image layout generation bank text closed.is_new closed.shut cleared.change in
    let shut : get_or image from 0 ≡ CLOSED = cleared.change.outside from (inl (omega arith)) ∙ closed.shut in
    let stands : Stands image layout (other bank) [] = new_stands old layout generation
    (other bank) text image image_new in
    let count : image_layout image ≡ layout = image_new.front.same_layout in
    let is_current : current image ≡ other bank = stands_current image layout (other bank) [] stands in
    let none : records image ≡ [] = stands_records image layout (other bank) [] stands in
    let empty : IsZero from (from + bank_length layout) image = zero_all from (bank_length layout) image
    (omega arith) shut cleared.zero in
    let spare : IsZero (bank_at layout (other (other bank)))
    (bank_at layout (other (other bank)) + bank_length layout) image =
    subst (λ (back : Bank). IsZero (bank_at layout back) (bank_at layout back + bank_length layout) image)
    (sym (twice_other bank)) empty in
    let beside : KeepsBeside layout old image =
    ended_beside old layout generation bank bodies text image turns cleared.change in
    let old_banks : IsZero BANKS_AT layout.banks image =
    λ i low high. beside.outside i (inl high) ∙ turns.starts.old_banks i low high in
    let spare_there : IsZero (other_at image) (other_at image + bank_length (image_layout image)) image =
    subst (λ (n : Layout). IsZero (bank_at n (other (current image)))
    (bank_at n (other (current image)) + bank_length n) image) (sym count)
    (subst (λ (one : Bank). IsZero (bank_at layout (other one)) (bank_at layout (other one) + bank_length layout) image)
    (sym is_current) spare) in
    record {
      of_image = λ plan_length planned. record {
        closed = record {
          of_image = record {
            opens = stands_opens image layout (other bank) [] stands;
            plan = planned ∙ ap (λ (text : List ℕ). length text) (sym image_new.plan);
            layout = sym count;
            bank = sym is_current;
            generation = sym (ap (λ (at : ℕ). bank_generation image at) (stands_at image layout (other bank) [] stands)
                ∙ fresh_generation (bank_at layout (other bank)) layout generation text image image_new.fresh
                (later_fits old layout generation bank bodies text turns));
            used = ap (λ (some : List (List ℕ)). length some) (sym none);
          };
          rests = new_rests old image layout generation bank text image_new shut;
          spare = spare_there;
        };
        old_banks = subst (λ (n : Layout). IsZero BANKS_AT n.banks image) (sym count) old_banks;
      };
      holds = new_holds old layout generation (other bank) text image image_new;
      beside = beside;
      rest = subst (λ (n : Layout). IsRestIn n image (other bank) generation text) (sym count) (record {
        is_current = is_current;
        gate = image_new.gate;
        has_generation = image_new.fresh.has_generation;
        has_content = image_new.fresh.has_content;
        zero_slots = image_new.fresh.zero;
        old_banks = old_banks;
        spare = spare;
      });
    }

-- a turn: what it began with, and where it writes, told by its journal
pub record Turn : Type 0 where
  pub old : Trace
  pub journal : JournalView
  pub text : List ℕ
  pub from : ℕ
  pub to : ℕ
  pub generation : ℕ
  pub bank : Bank
  pub of_image : IsSettledImage old.now.image journal
  pub sized : length text ≡ journal.layout.content_length
  pub from_is : from ≡ bank_at journal.layout journal.bank
  pub bank_is : bank ≡ other journal.bank
  pub to_is : to ≡ bank_at journal.layout bank
  pub later : generation ≡ next journal.generation

module _ (turn : Turn) where
  abbrev image : List ℕ
  image = turn.old.now.image

  -- the image after it, with these in the places of what the turn was told
  abbrev erased : ℕ → ℕ → Layout → List ℕ → Type 0
  erased from to layout new = IsErased (from + 1) (bank_length layout - 1)
      (with_gate CLOSED from (with_gate OPEN to (filled to turn.generation turn.text image))) new

  abbrev IsStored : Trace → Type 0
  IsStored new = IsSynced new.now × erased turn.from turn.to turn.journal.layout new.now.image

  -- where it writes, told by its image
  same_layout : turn.journal.layout ≡ image_layout image
  same_layout = turn.of_image.closed.of_image.layout

  bank_same : turn.bank ≡ other (current image)
  bank_same = turn.bank_is ∙ ap other turn.of_image.closed.of_image.bank

  from_same : turn.from ≡ current_at image
  from_same = turn.from_is ∙ ap (λ (n : Layout). bank_at n turn.journal.bank) same_layout
      ∙ ap (bank_at (image_layout image)) turn.of_image.closed.of_image.bank

  to_same : turn.to ≡ other_at image
  to_same = turn.to_is ∙ ap (λ (n : Layout). bank_at n turn.bank) same_layout
      ∙ ap (bank_at (image_layout image)) bank_same

  pub turn_within : (turn.from + bank_length turn.journal.layout ≤ length image)
      × (turn.to + bank_length turn.journal.layout ≤ length image)
  turn_within =
      let front = (starts_of image turn.journal turn.of_image).stands.front in (
        subst (λ (n : ℕ). n + bank_length turn.journal.layout ≤ length image) (sym from_same)
            (subst (λ (n : Layout). current_at image + bank_length n ≤ length image) (sym same_layout)
            (bank_within image (image_layout image) (current image) front)),
        subst (λ (n : ℕ). n + bank_length turn.journal.layout ≤ length image) (sym to_same)
            (subst (λ (n : Layout). other_at image + bank_length n ≤ length image) (sym same_layout)
            (bank_within image (image_layout image) (other (current image)) front)),
      )

  turns : Turns image (image_layout image) turn.generation (current image) (records image) turn.text
  turns = turns_of image turn.text turn.journal turn.generation turn.of_image
      (turn.sized ∙ ap (λ (one : Layout). one.content_length) same_layout) turn.later

  pub turn_moments : (new : Trace)
      → EachImage turn.old new (Steps turn.from turn.to (head_length turn.journal.layout)
      (bank_length turn.journal.layout) turn.generation turn.text image)
      → EachImage turn.old new (Becomes (held image) (turned turn.text (held image)))
  turn_moments new each =
      let Step : ℕ → ℕ → Layout → List ℕ → Type 0 = λ from to layout left.
      Steps from to (head_length layout) (bank_length layout) turn.generation turn.text image left in
      image_weaker turn.old new (Step turn.from turn.to turn.journal.layout)
      (Becomes (held image) (turned turn.text (held image)))
      (λ left steps.
      steps_become image (image_layout image) turn.generation (current image) (records image) turn.text left turns
      (subst (λ (n : Layout). Step (current_at image) (other_at image) n left) same_layout
      (subst (λ (n : ℕ). Step (current_at image) n turn.journal.layout left) to_same
      (subst (λ (n : ℕ). Step n turn.to turn.journal.layout left) from_same steps))))
      each

  turn_ended : (new : Trace) → IsStored new
      → Ended image (image_layout image) turn.generation (current image) turn.text new.now.image
  turn_ended new stored =
      ended image (image_layout image) turn.generation (current image) (records image) turn.text new.now.image turns
      (subst (λ (n : Layout). erased (current_at image) (other_at image) n new.now.image) same_layout
      (subst (λ (n : ℕ). erased (current_at image) n turn.journal.layout new.now.image) to_same
      (subst (λ (n : ℕ). erased n turn.to turn.journal.layout new.now.image) from_same stored.1)))

  pub turn_stored : (new : Trace) → IsStored new
      → IsSettled new (fresh_view turn.journal.plan_length turn.journal.layout turn.bank turn.generation) ×
      (held new.now.image ≡ turned turn.text (held image))
  turn_stored new stored =
      let end = turn_ended new stored in
      let View : Layout → Bank → JournalView = λ layout bank.
      fresh_view turn.journal.plan_length layout bank turn.generation in (
        record {
          synced = stored.0;
          of_image = subst (λ (n : Layout). IsSettledImage new.now.image (View n turn.bank)) (sym same_layout)
              (subst (λ (one : Bank). IsSettledImage new.now.image (View (image_layout image) one)) (sym bank_same)
              (end.of_image turn.journal.plan_length turn.of_image.closed.of_image.plan));
        },
        end.holds.is,
      )

  pub turn_rest : (new : Trace) → IsStored new
      → (left : List ℕ) → Leaves new.now left → IsRest left turn.bank turn.generation turn.text
  turn_rest new stored =
      synced_holds new.now (λ left. IsRest left turn.bank turn.generation turn.text) stored.0
      (subst (λ (one : Bank). IsRest new.now.image one turn.generation turn.text) (sym bank_same)
      (turn_ended new stored).rest)

  pub turn_beside : (new : Trace) → IsStored new → KeepsBeside turn.journal.layout image new.now.image
  turn_beside new stored =
      subst (λ (one : Layout). KeepsBeside one image new.now.image) (sym same_layout) (turn_ended new stored).beside
