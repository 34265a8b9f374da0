-- The stages of bringing an image to rest: the octet that migrates it, its banks, and the old banks of a migrated one.
use Rattle.std.proofs.Common.{◌≡◌, ◌≢◌, ℕ, ◌+◌, ◌-◌, ◌<◌, ◌≤◌, ◌⊎◌, ◌∙◌, List, length, get_or, refl, sym, ap, subst}
use Rattle.std.proofs.Common.{inl, inr, arith, Result, Ok, Err}
use Rattle.disk_journal.proofs.Keeping.{SameBank, bank_kept, front_bounds, front_kept, low_bank, plan_kept}
use Rattle.disk_journal.proofs.Moving.{KeepsBanks, moved_bank, moved_plan, moved_stands}
use Rattle.disk_journal.proofs.Rests.{regates_one}
use Rattle.disk_journal.proofs.Stands.{Stands, closed_in, gate_in, holds_of, opens_stands, stands_at, stands_current}
use Rattle.disk_journal.proofs.Stands.{stands_records}
use Rattle.disk_journal.proofs.Turns.{rest_becomes}
use Rattle.disk_journal.specs.Banks.{bank_at, bank_length, slot_body, bank_content, slot_gate, bank_generation}
use Rattle.disk_journal.specs.Banks.{image_end, next, other}
use Rattle.disk_journal.specs.Changes.{GatedForm, IsErased, IsZero, KeepsBeside, KeepsPlan}
use Rattle.disk_journal.specs.Fault.{image_fault}
use Rattle.disk_journal.specs.Forms.{Becomes, Holds, Regates, Settles}
use Rattle.disk_journal.specs.Image.{Held, IsAtRest, IsClosedGate, current, current_at, held, image_layout, other_at}
use Rattle.disk_journal.specs.Image.{plan_of, records}
use Rattle.disk_journal.specs.Journal.{IsClosed, IsJournalOf, IsOpen, IsSettled, JournalView}
use Rattle.disk_journal.specs.declared.layout.Bank.{Bank}
use Rattle.disk_journal.specs.declared.layout.HeaderForm.TheVariants.{Old}
use Rattle.disk_journal.specs.declared.layout.Layout.{Layout}
use Rattle.disk_journal.specs.declared.layout.TheConstants.{BANKS_AT, MIGRATED_AT, CLOSED, HEADER_LENGTH, OPEN}
use Rattle.disk_journal.specs.declared.layout.TheConstants.{PLAN_ROOM}
use Rattle.disk_journal.proofs.Gating.{records_stay}
use Rattle.disk_journal.proofs.Moments.{image_then, image_weaker}
use Rattle.disk_journal.specs.Moments.{AllBut, EachImage}
use Rattle.std.specs.Prelude.{None}
use Rattle.sdls_outside.specs.Disk.{IsSynced}
use Rattle.sdls_outside.specs.Moments.{Trace}
use Rattle.std.proofs.lemmas.Bool.{cases_eq, cases_lt}
use Rattle.std.specs.Result.{OnOk}

-- the first stage, while it is done
pub form_gated : (old new : List ℕ) (journal : JournalView) → IsJournalOf old journal
    → GatedForm journal.layout.form old new → Regates old new
form_gated old new journal of_image (inl same) = record {
  same_length = ap (λ (octets : List ℕ). length octets) same;
  others = λ i away. ap (λ (octets : List ℕ). get_or octets i 0) same;
}
form_gated old new journal of_image (inr (old_is, torn, change)) =
    regates_one old new MIGRATED_AT
    (λ torn. (torn, inr (inr (ap (λ (one : Layout). one.form) (sym of_image.layout) ∙ old_is, refl))))
    (inr (torn, change))

-- what it has made: the journal is that of the new image, which holds the same, and has no closed gate more
pub record Stilled (old new : List ℕ) (journal : JournalView) : Type 0 where
  pub of_image : IsJournalOf new journal
  pub same : held new ≡ held old
  pub gates : (at : ℕ) → IsClosedGate new at → IsClosedGate old at
  pub length_is : length new ≡ length old
  pub others : (i : ℕ) → (i < MIGRATED_AT) ⊎ (MIGRATED_AT + 1 ≤ i) → get_or new i 0 ≡ get_or old i 0

stilled_same : (old new : List ℕ) (journal : JournalView) → IsJournalOf old journal → new ≡ old
    → Stilled old new journal
stilled_same old new journal of_image same = subst (λ (image : List ℕ). Stilled old image journal) (sym same) (record {
  of_image = of_image;
  same = refl;
  gates = λ at closed. closed;
  length_is = refl;
  others = λ i away. refl;
})

stilled_gates : (old new : List ℕ) → Stands new (image_layout old) (current old) (records old)
    → AllBut MIGRATED_AT 1 old new → get_or new MIGRATED_AT 0 ≡ CLOSED → (at : ℕ) → IsClosedGate new at
    → IsClosedGate old at
stilled_gates old new stands change shut at closed =
    let here = gate_in new (image_layout old) (current old) (records old) at stands (λ is. shut) closed in
    elim (cases_eq at MIGRATED_AT) [
      | inl same ↦ absurd (here.0 (ap (λ (k : ℕ). get_or new k 0) same ∙ shut))
      | inr beside ↦
          let kept : get_or new at 0 ≡ get_or old at 0 =
          change.outside at (elim (cases_lt at MIGRATED_AT) [ inl low ↦ inl low | inr high ↦ inr (omega arith) ]) in (
            subst (λ (octet : ℕ). octet ≢ CLOSED) kept here.0,
            elim here.1 [ inl slot ↦ inl slot | inr gate ↦ inr (inl gate) ],
          )
    ]

pub stilled : (old new : List ℕ) (journal : JournalView) → IsJournalOf old journal
    → GatedForm journal.layout.form old new
    → (journal.layout.form ≡ Old → get_or new MIGRATED_AT 0 ≡ CLOSED) → Stilled old new journal
stilled old new journal of_image (inl same) shut = stilled_same old new journal of_image same
stilled old new journal of_image (inr (old_is, torn, change)) shut =
    let layout = image_layout old in
    let form_is : layout.form ≡ Old = ap (λ (one : Layout). one.form) (sym of_image.layout) ∙ old_is in
    let closed : get_or new MIGRATED_AT 0 ≡ CLOSED = shut old_is in
    let stands = opens_stands old of_image.opens in
    let size : length new ≡ length old = change.same_length in
    let keeps : KeepsBanks layout old new =
    record { no_shorter = omega arith; same = λ i below away. change.outside i away } in
    let moved : Stands new layout (current old) (records old) =
    moved_stands old new layout (current old) (records old) stands form_is keeps
    (λ here. absurd (omega (arith, closed, here))) in
    let bank = moved_bank layout (current old) old new keeps
    (front_bounds old layout stands.front) stands.front.behind_plan in
    let holds : Holds new (held old) = holds_of new layout (current old) (records old) (plan_of old)
    (bank_content layout old (current_at old)) moved
    (moved_plan layout old new stands.front keeps) bank.content in
    record {
      of_image = record {
        opens = holds.opens;
        plan = of_image.plan ∙ sym (ap (λ (what : Held). length what.plan) holds.is);
        layout = of_image.layout ∙ sym moved.front.same_layout;
        bank = of_image.bank ∙ sym (stands_current new layout (current old) (records old) moved);
        generation = of_image.generation
            ∙ sym (ap (λ (at : ℕ). bank_generation new at) (stands_at new layout (current old) (records old) moved)
            ∙ bank.generation);
        used = of_image.used ∙ ap (λ (bodies : List (List ℕ)). length bodies)
            (sym (stands_records new layout (current old) (records old) moved));
      };
      same = holds.is;
      gates = stilled_gates old new moved change closed;
      length_is = change.same_length;
      others = change.outside;
    }

-- the second stage, seen from the old image
pub settles_then : (old mid image : List ℕ) → Regates old mid → held mid ≡ held old →
    ((at : ℕ) → IsClosedGate mid at → IsClosedGate old at)
    → Settles mid image → Settles old image
settles_then old mid image first same gates (inl regates) = inl (record {
  same_length = regates.same_length ∙ first.same_length;
  others = λ i away. regates.others i (λ closed. away (gates i closed)) ∙ first.others i away;
})
settles_then old mid image first same gates (inr becomes) =
    inr (subst (λ (what : Held). Becomes what what image) same becomes)

-- the third stage: the old banks of a migrated image are zeroed
pub record Erased (old new : List ℕ) : Type 0 where
  pub stands : Stands new (image_layout old) (current old) (records old)
  pub holds : Holds new (held old)
  pub rests : IsAtRest new
  pub banks : SameBank (current_at old) (image_layout old) old new

erased_rests : (old new : List ℕ) (at count : ℕ) → Stands new (image_layout old) (current old) (records old)
    → IsAtRest old
    → AllBut at count old new → BANKS_AT ≤ at → at + count ≤ (image_layout old).banks → IsAtRest new
erased_rests old new at count stands rests change low high place closed =
    let far : HEADER_LENGTH + PLAN_ROOM ≤ (image_layout old).banks = stands.front.behind_plan in
    let from = current_at old in
    let here = closed_in new (image_layout old) (current old) (records old) place stands closed in
    let outside : (place < at) ⊎ (at + count ≤ place) = elim here.1 [
      | inl slot ↦ inr (let low_from = low_bank (image_layout old) (current old) in let is = slot.1 in omega arith)
      | inr beside ↦ elim beside [
        | inl gate ↦ inr (let low_to = low_bank (image_layout old) (other (current old)) in omega arith)
        | inr moves ↦ inl (let is = moves.1 in omega arith)
      ]
    ] in
    rests place (subst (λ (octet : ℕ). octet ≢ CLOSED) (change.outside place outside) here.0, here.1)

pub erased : (old new : List ℕ) (at count : ℕ) → image_fault old ≡ None → IsAtRest old
    → AllBut at count old new → BANKS_AT ≤ at → at + count ≤ (image_layout old).banks → Erased old new
erased old new at count none rests change low high =
    let layout = image_layout old in
    let stands = opens_stands old none in
    let front = stands.front in
    let here = bank_kept at count (bank_at layout (current old)) layout old new change
    (inr (let from = low_bank layout (current old) in omega arith)) in
    let there = bank_kept at count (bank_at layout (other (current old))) layout old new change
    (inr (let from = low_bank layout (other (current old)) in omega arith)) in
    let within : length (records old) ≤ layout.slots = stands.are.within in
    let gate : get_or new (bank_at layout (current old)) 0 ≡ get_or old (bank_at layout (current old)) 0 =
    change.outside (bank_at layout (current old)) (inr (let from = low_bank layout (current old) in omega arith)) in
    let gate_there : get_or new (bank_at layout (other (current old))) 0 ≡ get_or old
    (bank_at layout (other (current old))) 0 =
    change.outside (bank_at layout (other (current old)))
    (inr (let from = low_bank layout (other (current old)) in omega arith)) in
    let new_stands : Stands new layout (current old) (records old) = record {
      front = front_kept at count layout old new change low front;
      newest = (
        gate ∙ stands.newest.0,
        elim stands.newest.1 [
          | inl shut ↦ inl (subst (λ (octet : ℕ). octet ≢ OPEN) (sym gate_there) shut)
          | inr later ↦ inr (here.generation ∙ later ∙ ap next (sym there.generation))
        ],
      );
      are = records_stay (slot_gate layout old (current_at old)) (slot_gate layout new (current_at old))
          (slot_body layout old (current_at old))
          (slot_body layout new (current_at old)) layout.slots (records old) stands.are
          (record { gates = λ k below. here.gates k (omega arith); bodies = λ k below. here.bodies k (omega arith) })
          (λ room. subst (λ (octet : ℕ). octet ≢ OPEN) (sym (here.gates (length (records old)) room))
          (stands.are.closed room));
      quiet = λ k above below. here.gates k below ∙ stands.quiet k above below;
    } in
    record {
      stands = new_stands;
      holds = holds_of new layout (current old) (records old) (plan_of old)
          (bank_content layout old (current_at old)) new_stands
          (plan_kept at count layout old new change low front) here.content;
      rests = erased_rests old new at count new_stands rests change low high;
      banks = here;
    }

-- the moments of all three
pub record Stages (old mid closed : Trace) (journal : JournalView) : Type 0 where
  pub opened : IsOpen old journal
  pub first : GatedForm journal.layout.form old.now.image mid.now.image
  pub shut : journal.layout.form ≡ Old → get_or mid.now.image MIGRATED_AT 0 ≡ CLOSED
  pub is_closed : IsClosed closed.now.image journal
  pub same : held closed.now.image ≡ held mid.now.image
  pub beside : KeepsBeside journal.layout mid.now.image closed.now.image

pub open_stilled : (old mid : Trace) (journal : JournalView) → IsOpen old journal → IsSynced mid.now
    → GatedForm journal.layout.form old.now.image mid.now.image
    → (journal.layout.form ≡ Old → get_or mid.now.image MIGRATED_AT 0 ≡ CLOSED) → IsOpen mid journal
open_stilled old mid journal opened synced first shut =
    record {
      synced = synced;
      of_image =
          (stilled old.now.image mid.now.image journal opened.of_image first shut).of_image;
    }

pub first_moments : (old mid : Trace) (journal : JournalView) → IsOpen old journal
    → EachImage old mid (GatedForm journal.layout.form old.now.image) → EachImage old mid (Settles old.now.image)
first_moments old mid journal opened each =
    image_weaker old mid (GatedForm journal.layout.form old.now.image) (Settles old.now.image)
    (λ image gated. inl (form_gated old.now.image image journal opened.of_image gated)) each

pub second_moments : (old mid new : Trace) (journal : JournalView) → IsOpen old journal
    → GatedForm journal.layout.form old.now.image mid.now.image
    → (journal.layout.form ≡ Old → get_or mid.now.image MIGRATED_AT 0 ≡ CLOSED)
    → EachImage old mid (GatedForm journal.layout.form old.now.image) → EachImage mid new (Settles mid.now.image)
    → EachImage old new (Settles old.now.image)
second_moments old mid new journal opened first shut each next =
    let still = stilled old.now.image mid.now.image journal opened.of_image first shut in
    image_then old mid new (Settles old.now.image) (first_moments old mid journal opened each)
    (image_weaker mid new (Settles mid.now.image) (Settles old.now.image)
    (λ image settles. settles_then old.now.image mid.now.image image
    (form_gated old.now.image mid.now.image journal opened.of_image first)
    still.same still.gates settles) next)

erased_of : (old mid closed : Trace) (image : List ℕ) (journal : JournalView) (size : ℕ) → Stages old mid closed journal
    → BANKS_AT + size ≡ journal.layout.banks → AllBut BANKS_AT size closed.now.image image
    → Erased closed.now.image image
erased_of old mid closed image journal size stages sized change =
    let of_image = stages.is_closed.of_image in
    let banks : journal.layout.banks ≡
    (image_layout closed.now.image).banks = ap (λ (one : Layout). one.banks) of_image.layout in
    erased closed.now.image image BANKS_AT size of_image.opens stages.is_closed.rests change (omega arith)
    (omega (arith, sized, banks))

pub third_moments : (old mid closed new : Trace) (journal : JournalView) (size : ℕ) → Stages old mid closed journal
    → BANKS_AT + size ≡ journal.layout.banks
    → EachImage old closed (Settles old.now.image) → EachImage closed new (AllBut BANKS_AT size closed.now.image)
    → EachImage old new (Settles old.now.image)
third_moments old mid closed new journal size stages sized each next =
    let still = stilled old.now.image mid.now.image journal stages.opened.of_image stages.first stages.shut in
    let same : held closed.now.image ≡ held old.now.image = stages.same ∙ still.same in
    image_then old closed new (Settles old.now.image) each
    (image_weaker closed new (AllBut BANKS_AT size closed.now.image) (Settles old.now.image)
    (λ image change.
    let done = erased_of old mid closed image journal size stages sized change in
    inr (rest_becomes (held old.now.image) (held old.now.image) image
    (inl (record { opens = done.holds.opens; is = done.holds.is ∙ same })) done.rests)) next)

-- the end
pub rested_end : {E : Type 0} → (result : Result (Unit {0}) E) (old mid closed new : Trace) (journal : JournalView)
    (size : ℕ)
    → Stages old mid closed journal → BANKS_AT + size ≡ journal.layout.banks
    → OnOk result (IsSynced new.now × IsErased BANKS_AT size closed.now.image new.now.image)
    → OnOk result (IsSettled new journal × (held new.now.image ≡ held old.now.image))
rested_end (Err error) old mid closed new journal size stages sized made = tt
rested_end (Ok value) old mid closed new journal size stages sized made =
    let image = closed.now.image in
    let after = new.now.image in
    let of_image = stages.is_closed.of_image in
    let still = stilled old.now.image mid.now.image journal stages.opened.of_image stages.first stages.shut in
    let change = made.1.change in
    let done = erased_of old mid closed after journal size stages sized change in
    let count : image_layout after ≡ image_layout image = done.stands.front.same_layout in
    let one : current after ≡ current image = stands_current after (image_layout image) (current image)
    (records image) done.stands in
    let same : records after ≡ records image = stands_records after (image_layout image) (current image)
    (records image) done.stands in
    let banks : journal.layout.banks ≡ (image_layout image).banks = ap (λ (one : Layout). one.banks) of_image.layout in
    let low_to = low_bank (image_layout image) (other (current image)) in
    let spare : IsZero (other_at image) (other_at image + bank_length (image_layout image)) after =
    λ i low high. change.outside i (inr (omega (arith, sized, banks, low_to, low)))
    ∙ stages.is_closed.spare i low high in (
      record {
        synced = made.0;
        of_image = record {
          closed = record {
            of_image = record {
              opens = done.holds.opens;
              plan = of_image.plan ∙ sym (ap (λ (what : Held). length what.plan) done.holds.is);
              layout = of_image.layout ∙ sym count;
              bank = of_image.bank ∙ sym one;
              generation = of_image.generation
                  ∙ sym (ap (λ (at : ℕ). bank_generation after at)
                  (stands_at after (image_layout image) (current image) (records image) done.stands)
                  ∙ done.banks.generation);
              used = of_image.used ∙ ap (λ (bodies : List (List ℕ)). length bodies) (sym same);
            };
            rests = done.rests;
            spare = subst (λ (n : Layout). IsZero (bank_at n (other (current after)))
                (bank_at n (other (current after)) + bank_length n) after) (sym count)
                (subst (λ (bank : Bank). IsZero (bank_at (image_layout image) (other bank))
                (bank_at (image_layout image) (other bank) + bank_length (image_layout image)) after) (sym one)
                spare);
          };
          old_banks = subst (λ (n : ℕ). IsZero BANKS_AT n after)
              (sized ∙ banks ∙ sym (ap (λ (one : Layout). one.banks) count)) made.1.zero;
        };
      },
      done.holds.is ∙ stages.same ∙ still.same,
    )

-- what stands beside all banks
pub rested_beside : {E : Type 0} → (result : Result (Unit {0}) E) (old mid closed new : Trace) (journal : JournalView)
    (size : ℕ)
    → Stages old mid closed journal → BANKS_AT + size ≡ journal.layout.banks
    → OnOk result (IsSynced new.now × IsErased BANKS_AT size closed.now.image new.now.image)
    → OnOk result (KeepsPlan journal.layout old.now.image new.now.image)
rested_beside (Err error) old mid closed new journal size stages sized made = tt
rested_beside (Ok value) old mid closed new journal size stages sized made =
    let still = stilled old.now.image mid.now.image journal stages.opened.of_image stages.first stages.shut in
    let far : HEADER_LENGTH + PLAN_ROOM ≤ journal.layout.banks = omega arith in
    record {
      same_length = made.1.change.same_length ∙ stages.beside.same_length ∙ still.length_is;
      outside = λ i away. elim away [
        | inl low ↦ made.1.change.outside i (inl (omega arith)) ∙ stages.beside.outside i (inl (omega arith))
            ∙ still.others i (inl low)
        | inr beside ↦ elim beside [
          | inl between ↦
              let above : MIGRATED_AT < i = between.0 in
              let below : i < BANKS_AT = between.1 in
              made.1.change.outside i (inl below) ∙ stages.beside.outside i (inl (omega arith)) ∙ still.others i
              (inr (omega arith))
          | inr past ↦ made.1.change.outside i (inr (omega arith)) ∙ stages.beside.outside i (inr (omega arith))
              ∙ still.others i (inr (omega arith))
        ]
      ];
    }

pub old_size : (banks : ℕ) → BANKS_AT ≤ banks → BANKS_AT + (banks - BANKS_AT) ≡ banks
old_size banks far = omega arith

-- the old banks lie within the image
pub old_within : (closed : Trace) (journal : JournalView) (size : ℕ) → IsClosed closed.now.image journal
    → BANKS_AT + size ≡ journal.layout.banks → BANKS_AT + size ≤ length closed.now.image
old_within closed journal size is_closed sized =
    let image = closed.now.image in
    let long : image_end (image_layout image) ≤ length image = front_bounds image (image_layout image)
    (opens_stands image is_closed.of_image.opens).front in
    let banks : journal.layout.banks ≡
    (image_layout image).banks = ap (λ (one : Layout). one.banks) is_closed.of_image.layout in
    omega (arith, sized, banks, long)

pub form_within : (old : Trace) (journal : JournalView) → IsOpen old journal → BANKS_AT ≤ length old.now.image
form_within old journal opened =
    let image = old.now.image in
    let front = (opens_stands image opened.of_image.opens).front in
    let long : image_end (image_layout image) ≤ length image = front_bounds image (image_layout image) front in
    let far : HEADER_LENGTH + PLAN_ROOM ≤ (image_layout image).banks = front.behind_plan in
    omega arith
