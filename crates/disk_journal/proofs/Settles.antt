-- The call that brings an image to rest.
use Rattle.std.proofs.Common.{◌≡◌, ℕ, ◌+◌, ◌-◌, ◌<◌, ◌≤◌, ◌⊎◌, ◌∙◌, List, length, get_or, refl, sym, ap, subst, inl}
use Rattle.std.proofs.Common.{inr, arith, Result, Ok, Err}
use Rattle.disk_journal.proofs.Ends.{zero_all}
use Rattle.disk_journal.proofs.Keeping.{beside_of, beside_same, beside_then}
use Rattle.disk_journal.proofs.Rests.{Keeps, Rested, keeps_other, keeps_same, keeps_slot, regates_one, regates_two}
use Rattle.disk_journal.proofs.Rests.{rested, rested_settles}
use Rattle.disk_journal.proofs.Stands.{IsStill, apart, behind, opens_stands, stands_at, stands_current, stands_records}
use Rattle.disk_journal.proofs.Stands.{still_kept}
use Rattle.disk_journal.proofs.Turns.{after, bank_within, before}
use Rattle.disk_journal.specs.Banks.{bank_at, bank_length, bank_generation, next, other, slot_at}
use Rattle.disk_journal.specs.Changes.{Gated, GatedSlot, IsErased, IsZero, KeepsBeside}
use Rattle.disk_journal.specs.Forms.{Regates, Settles}
use Rattle.disk_journal.specs.Image.{Held, current, current_at, first_closed, held, image_layout, other_at, records}
use Rattle.disk_journal.specs.Image.{slot_count}
use Rattle.disk_journal.specs.Journal.{IsClosed, IsJournalOf, JournalView}
use Rattle.disk_journal.specs.declared.layout.Bank.{Bank}
use Rattle.disk_journal.specs.declared.layout.Layout.{Layout}
use Rattle.disk_journal.proofs.Moments.{image_then, image_weaker}
use Rattle.disk_journal.specs.Moments.{AllBut, EachImage}
use Rattle.disk_journal.specs.Slots.{gated}
use Rattle.disk_journal.specs.declared.layout.TheConstants.{CLOSED, HEADER_LENGTH, PLAN_ROOM}
use Rattle.sdls_outside.specs.Disk.{IsSynced}
use Rattle.sdls_outside.specs.Moments.{Trace}
use Rattle.std.specs.Result.{OnOk}

-- where the call writes, told by its journal and by its image
pub record Sites (image : List ℕ) (journal : JournalView) (slot spare : ℕ) : Type 0 where
  pub of_image : IsJournalOf image journal
  pub slot_is : slot ≡ slot_at journal.layout (bank_at journal.layout journal.bank) journal.used
  pub spare_is : spare ≡ bank_at journal.layout (other journal.bank)

slot_place : (image : List ℕ) (journal : JournalView) (slot spare : ℕ) → Sites image journal slot spare
    → slot ≡ slot_at (image_layout image) (current_at image) (first_closed image)
slot_place image journal slot spare sites =
    sites.slot_is ∙ ap (λ (n : Layout). slot_at n (bank_at n journal.bank) journal.used) sites.of_image.layout
    ∙ ap (λ (one : Bank). slot_at (image_layout image) (bank_at (image_layout image) one) journal.used)
    sites.of_image.bank
    ∙ ap (slot_at (image_layout image) (current_at image)) sites.of_image.used

spare_place : (image : List ℕ) (journal : JournalView) (slot spare : ℕ) → Sites image journal slot spare
    → spare ≡ other_at image
spare_place image journal slot spare sites =
    sites.spare_is ∙ ap (λ (n : Layout). bank_at n (other journal.bank)) sites.of_image.layout
    ∙ ap (λ (one : Bank). bank_at (image_layout image) (other one)) sites.of_image.bank

pub spare_within : (old : Trace) (journal : JournalView) (slot spare : ℕ) → Sites old.now.image journal slot spare
    → spare + bank_length journal.layout ≤ length old.now.image
spare_within old journal slot spare sites =
    let image = old.now.image in
    let stands = opens_stands image sites.of_image.opens in
    subst (λ (n : ℕ). n + bank_length journal.layout ≤ length image) (sym (spare_place image journal slot spare sites))
    (subst (λ (n : Layout). other_at image + bank_length n ≤ length image) (sym sites.of_image.layout)
    (bank_within image (image_layout image) (other (current image)) stands.front))

slot_inside : (bank : ℕ) (layout : Layout) (used size : ℕ) → used < layout.slots → bank + bank_length layout ≤ size
    → slot_at layout bank used + 1 ≤ size
slot_inside bank layout used size room within = omega arith

pub slot_within : (old : Trace) (journal : JournalView) (slot spare : ℕ) → Sites old.now.image journal slot spare
    → journal.used < journal.layout.slots → slot + 1 ≤ length old.now.image
slot_within old journal slot spare sites room =
    let image = old.now.image in
    let stands = opens_stands image sites.of_image.opens in
    let within = bank_within image (image_layout image) (current image) stands.front in
    let used : journal.used ≡ first_closed image = sites.of_image.used in
    let slots : journal.layout.slots ≡ slot_count image = ap (λ (one : Layout). one.slots) sites.of_image.layout in
    subst (λ (n : ℕ). n + 1 ≤ length image) (sym (slot_place image journal slot spare sites))
    (slot_inside (current_at image) (image_layout image) (first_closed image) (length image) (omega arith) within)

-- the slot's gate
slot_gated : (image new : List ℕ) (journal : JournalView) (slot spare : ℕ) → Sites image journal slot spare
    → GatedSlot slot journal.used journal.layout.slots image new → Regates image new
slot_gated image new journal slot spare sites (inl same) = record {
  same_length = ap (λ (octets : List ℕ). length octets) same;
  others = λ i away. ap (λ (octets : List ℕ). get_or octets i 0) same;
}
slot_gated image new journal slot spare sites (inr (room, torn, change)) =
    let used : journal.used ≡ first_closed image = sites.of_image.used in
    let slots : journal.layout.slots ≡ slot_count image = ap (λ (one : Layout). one.slots) sites.of_image.layout in
    let below : first_closed image < slot_count image = omega arith in
    regates_one image new slot (λ torn. (torn, inl (below, slot_place image journal slot spare sites)))
    (inr (torn, change))

slot_keeps : (image new : List ℕ) (journal : JournalView) (slot spare : ℕ) → Sites image journal slot spare
    → GatedSlot slot journal.used journal.layout.slots image new → Keeps image new (image_layout image) (current image)
    (first_closed image)
slot_keeps image new journal slot spare sites (inl same) =
    subst (λ (octets : List ℕ). Keeps image octets (image_layout image) (current image) (first_closed image)) (sym same)
    (keeps_same image (image_layout image) (current image) (records image) (opens_stands image sites.of_image.opens))
slot_keeps image new journal slot spare sites (inr (room, torn, change)) =
    keeps_slot image new (image_layout image) (first_closed image) (current image) (records image)
    (opens_stands image sites.of_image.opens) refl
    (subst (λ (at : ℕ). AllBut at 1 image new) (slot_place image journal slot spare sites) change)

-- the other bank's gate is what it was
slot_aside : (image new : List ℕ) (journal : JournalView) (slot spare : ℕ) → Sites image journal slot spare
    → GatedSlot slot journal.used journal.layout.slots image new → get_or new spare 0 ≡ get_or image spare 0
slot_aside image new journal slot spare sites (inl same) = ap (λ (octets : List ℕ). get_or octets spare 0) same
slot_aside image new journal slot spare sites (inr (room, torn, change)) =
    let used : journal.used ≡ first_closed image = sites.of_image.used in
    let slots : journal.layout.slots ≡ slot_count image = ap (λ (one : Layout). one.slots) sites.of_image.layout in
    let place : slot ≡ slot_at (image_layout image) (current_at image)
    (first_closed image) = slot_place image journal slot spare sites in
    let beside : spare ≡ other_at image = spare_place image journal slot spare sites in
    change.outside spare (elim (apart (image_layout image) (current image)) [
      | inl before ↦ inr (omega arith)
      | inr after ↦ inl (omega arith)
    ])

-- the first part of the call, and what it has made
pub first_part : (old mid : Trace) (journal : JournalView) (slot spare : ℕ) → Sites old.now.image journal slot spare
    → EachImage old mid (GatedSlot slot journal.used journal.layout.slots old.now.image) → EachImage old mid
    (Settles old.now.image)
first_part old mid journal slot spare sites each =
    image_weaker old mid (GatedSlot slot journal.used journal.layout.slots old.now.image) (Settles old.now.image)
    (λ image gated. inl (slot_gated old.now.image image journal slot spare sites gated)) each

pub second_part : (old mid new : Trace) (journal : JournalView) (slot spare : ℕ)
    → Sites old.now.image journal slot spare
    → EachImage old mid (GatedSlot slot journal.used journal.layout.slots old.now.image)
    → GatedSlot slot journal.used journal.layout.slots old.now.image mid.now.image
    → EachImage mid new (Gated spare mid.now.image) → EachImage old new (Settles old.now.image)
second_part old mid new journal slot spare sites each made next =
    image_then old mid new (Settles old.now.image) (first_part old mid journal slot spare sites each)
    (image_weaker mid new (Gated spare mid.now.image) (Settles old.now.image)
    (λ image gated. inl (regates_two old.now.image mid.now.image image spare
    (slot_gated old.now.image mid.now.image journal slot spare sites made)
    (slot_aside old.now.image mid.now.image journal slot spare sites made)
    (λ torn. (torn, inr (inl (spare_place old.now.image journal slot spare sites)))) gated)) next)

-- both gates are 0
pub record Closing (old mid closed : List ℕ) (journal : JournalView) (slot spare : ℕ) : Type 0 where
  pub sites : Sites old journal slot spare
  pub still : IsStill journal.layout old
  pub first : GatedSlot slot journal.used journal.layout.slots old mid
  pub slot_shut : journal.used < journal.layout.slots → get_or mid slot 0 ≡ CLOSED
  pub second : Gated spare mid closed
  pub spare_shut : get_or closed spare 0 ≡ CLOSED

gated_but : (at : ℕ) (old new : List ℕ) → Gated at old new → AllBut at 1 old new
gated_but at old new (inl same) = subst (AllBut at 1 old) (sym same)
    (record { same_length = refl; outside = λ i away. refl })
gated_but at old new (inr torn) = torn.1

closing_still : (old mid closed image : List ℕ) (journal : JournalView) (slot spare : ℕ)
    → Closing old mid closed journal slot spare
    → AllBut (spare + 1) (bank_length journal.layout - 1) closed image → IsStill (image_layout old) image
closing_still old mid closed image journal slot spare closing change =
    let sites = closing.sites in
    let front = (opens_stands old sites.of_image.opens).front in
    let far : HEADER_LENGTH + PLAN_ROOM ≤ current_at old = behind (image_layout old) (current old) front.behind_plan in
    let far_spare : HEADER_LENGTH + PLAN_ROOM ≤ other_at old = behind (image_layout old)
    (other (current old)) front.behind_plan in
    let place : slot ≡ slot_at (image_layout old) (current_at old)
    (first_closed old) = slot_place old journal slot spare sites in
    let beside : spare ≡ other_at old = spare_place old journal slot spare sites in
    let old_still : IsStill (image_layout old) old =
    subst (λ (n : Layout). IsStill n old) sites.of_image.layout closing.still in
    let mid_still : IsStill (image_layout old) mid = elim closing.first [
      | inl same ↦ subst (IsStill (image_layout old)) (sym same) old_still
      | inr torn ↦ still_kept slot 1 (image_layout old) old mid torn.2 (omega arith) old_still
    ] in
    still_kept (spare + 1) (bank_length journal.layout - 1) (image_layout old) closed image change (omega arith)
    (still_kept spare 1 (image_layout old) mid closed (gated_but spare mid closed closing.second)
    (omega arith) mid_still)

closing_rested : (old mid closed image : List ℕ) (journal : JournalView) (slot spare : ℕ)
    → Closing old mid closed journal slot spare
    → AllBut (spare + 1) (bank_length journal.layout - 1) closed image → Rested old image (image_layout old)
    (current old) (records old)
closing_rested old mid closed image journal slot spare closing change =
    let sites = closing.sites in
    let used : journal.used ≡ first_closed old = sites.of_image.used in
    let slots : journal.layout.slots ≡ slot_count old = ap (λ (one : Layout). one.slots) sites.of_image.layout in
    let size : bank_length journal.layout ≡ bank_length
    (image_layout old) = ap (λ (one : Layout). bank_length one) sites.of_image.layout in
    let place : slot ≡ slot_at (image_layout old) (current_at old)
    (first_closed old) = slot_place old journal slot spare sites in
    let beside : spare ≡ other_at old = spare_place old journal slot spare sites in
    let first : Keeps old mid (image_layout old) (current old)
    (first_closed old) = slot_keeps old mid journal slot spare sites closing.first in
    let second : Keeps old closed (image_layout old) (current old) (first_closed old) =
    keeps_other old mid closed (image_layout old) (first_closed old) spare 1 (current old) first
    (gated_but spare mid closed closing.second) (omega arith) (omega arith) in
    let third : Keeps old image (image_layout old) (current old) (first_closed old) =
    keeps_other old closed image (image_layout old) (first_closed old) (spare + 1) (bank_length journal.layout - 1)
    (current old) second change (omega arith) (omega arith) in
    rested old image (image_layout old) (current old) (records old) (opens_stands old sites.of_image.opens) third
    (record {
      slot = λ room.
          let free : journal.used < journal.layout.slots = omega arith in
          let away : (slot < spare) ⊎ (spare + 1 ≤ slot) = elim (apart (image_layout old) (current old)) [
            | inl before ↦ inl (omega arith)
            | inr after ↦ inr (omega arith)
          ] in
          let far : (slot < spare + 1) ⊎ (spare + 1 + (bank_length journal.layout - 1) ≤ slot) = elim
          (apart (image_layout old) (current old)) [
            | inl before ↦ inl (omega arith)
            | inr after ↦ inr (omega arith)
          ] in
          subst (λ (at : ℕ). get_or image at 0 ≡ CLOSED) place
          (change.outside slot far ∙ (gated_but spare mid closed closing.second).outside slot away
          ∙ closing.slot_shut free);
      beside = subst (λ (at : ℕ). get_or image at 0 ≡ CLOSED) beside
          (change.outside spare (inl (omega arith)) ∙ closing.spare_shut);
      still = closing_still old mid closed image journal slot spare closing change;
    })

pub third_part : (old mid closed new : Trace) (journal : JournalView) (slot spare : ℕ)
    → Closing old.now.image mid.now.image closed.now.image journal slot spare
    → EachImage old closed (Settles old.now.image) → EachImage closed new
    (AllBut (spare + 1) (bank_length journal.layout - 1) closed.now.image)
    → EachImage old new (Settles old.now.image)
third_part old mid closed new journal slot spare closing each next =
    image_then old closed new (Settles old.now.image) each
    (image_weaker closed new (AllBut (spare + 1) (bank_length journal.layout - 1) closed.now.image)
    (Settles old.now.image)
    (λ image change. rested_settles old.now.image image
    (closing_rested old.now.image mid.now.image closed.now.image image journal slot spare closing change)) next)

-- the end
pub settled_end : {E : Type 0} → (result : Result (Unit {0}) E) (old mid closed new : Trace) (journal : JournalView)
    (slot spare : ℕ)
    → Closing old.now.image mid.now.image closed.now.image journal slot spare
    → OnOk result (IsSynced new.now × IsErased (spare + 1)
    (bank_length journal.layout - 1) closed.now.image new.now.image)
    → OnOk result (IsSynced new.now × IsClosed new.now.image journal × (held new.now.image ≡ held old.now.image))
settled_end (Err error) old mid closed new journal slot spare closing cleared = tt
settled_end (Ok value) old mid closed new journal slot spare closing cleared =
    let image = old.now.image in
    let after = new.now.image in
    let of_image = closing.sites.of_image in
    let change = cleared.1.change in
    let done : Rested image after (image_layout image) (current image) (records image) =
    closing_rested image mid.now.image closed.now.image after journal slot spare closing change in
    let count : image_layout after ≡ image_layout image = done.stands.front.same_layout in
    let one : current after ≡ current image = stands_current after (image_layout image) (current image)
    (records image) done.stands in
    let same : records after ≡ records image = stands_records after (image_layout image) (current image)
    (records image) done.stands in
    let shut : get_or after spare 0 ≡ CLOSED = change.outside spare (inl (omega arith)) ∙ closing.spare_shut in
    let empty : IsZero spare (spare + bank_length journal.layout) after = zero_all spare
    (bank_length journal.layout) after (omega arith) shut cleared.1.zero in
    let place : spare ≡ other_at image = spare_place image journal slot spare closing.sites in (
      cleared.0,
      record {
        of_image = record {
          opens = done.holds.opens;
          plan = of_image.plan ∙ sym (ap (λ (what : Held). length what.plan) done.holds.is);
          layout = of_image.layout ∙ sym count;
          bank = of_image.bank ∙ sym one;
          generation = of_image.generation
              ∙ sym (ap (λ (at : ℕ). bank_generation after at)
              (stands_at after (image_layout image) (current image) (records image) done.stands) ∙ done.generation);
          used = of_image.used ∙ ap (λ (bodies : List (List ℕ)). length bodies) (sym same);
        };
        rests = done.rests;
        spare = subst (λ (n : Layout). IsZero (bank_at n (other (current after)))
            (bank_at n (other (current after)) + bank_length n) after) (sym count)
            (subst (λ (bank : Bank). IsZero (bank_at (image_layout image) (other bank))
            (bank_at (image_layout image) (other bank) + bank_length (image_layout image)) after) (sym one)
            (subst (λ (n : Layout). IsZero (other_at image) (other_at image + bank_length n) after) of_image.layout
            (subst (λ (at : ℕ). IsZero at (at + bank_length journal.layout) after) place empty)));
      },
      done.holds.is,
    )

-- what stands beside the banks
slot_beside : (old mid : List ℕ) (journal : JournalView) (slot spare : ℕ) → Sites old journal slot spare
    → GatedSlot slot journal.used journal.layout.slots old mid → KeepsBeside journal.layout old mid
slot_beside old mid journal slot spare sites (inl same) = subst (KeepsBeside journal.layout old) (sym same)
    (beside_same journal.layout old)
slot_beside old mid journal slot spare sites (inr (room, torn, change)) =
    beside_of slot 1 journal.layout journal.bank old mid change (omega (arith, sites.slot_is))
    (omega (arith, sites.slot_is, room))

pub settle_beside : {E : Type 0} → (result : Result (Unit {0}) E) (old mid closed new : Trace) (journal : JournalView)
    (slot spare : ℕ)
    → 1 ≤ bank_length journal.layout → Closing old.now.image mid.now.image closed.now.image journal slot spare
    → OnOk result (IsSynced new.now × IsErased (spare + 1)
    (bank_length journal.layout - 1) closed.now.image new.now.image)
    → OnOk result (KeepsBeside journal.layout old.now.image new.now.image)
settle_beside (Err error) old mid closed new journal slot spare some closing cleared = tt
settle_beside (Ok value) old mid closed new journal slot spare some closing cleared =
    let place = closing.sites.spare_is in
    beside_then journal.layout old.now.image mid.now.image new.now.image
    (slot_beside old.now.image mid.now.image journal slot spare closing.sites closing.first)
    (beside_then journal.layout mid.now.image closed.now.image new.now.image
    (beside_of spare 1 journal.layout (other journal.bank) mid.now.image closed.now.image
    (gated_but spare mid.now.image closed.now.image closing.second)
    (omega (arith, place)) (omega (arith, place)))
    (beside_of (spare + 1) (bank_length journal.layout - 1) journal.layout
    (other journal.bank) closed.now.image new.now.image cleared.1.change
    (omega (arith, place)) (omega (arith, place, some))))

-- lengths
pub slot_long : (old new : List ℕ) (at index slots : ℕ) → GatedSlot at index slots old new → length new ≡ length old
slot_long old new at index slots (inl same) = ap (λ (octets : List ℕ). length octets) same
slot_long old new at index slots (inr (room, torn, change)) = change.same_length

pub gate_long : (old new : List ℕ) (at : ℕ) → Gated at old new → length new ≡ length old
gate_long old new at gated = (gated_but at old new gated).same_length
