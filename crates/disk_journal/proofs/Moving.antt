-- An image of version 1 of which the octet that migrates it is another one, or which is longer.
use Rattle.std.proofs.Common.{◌≡◌, ◌≢◌, ℕ, ◌+◌, ◌-◌, ◌<◌, ◌≤◌, ◌⊎◌, ◌∙◌, List, length, get_or, take, drop, min, sym, ap}
use Rattle.std.proofs.Common.{subst, inl, inr, arith, length-drop}
use Rattle.byteorder.specs.Endian.{big_number}
use Rattle.disk_journal.proofs.Headers.{IsAlike, alike, front_old, plan_alike}
use Rattle.disk_journal.proofs.Keeping.{SameBank, front_bounds, header_bounds}
use Rattle.disk_journal.proofs.Stands.{HasFront, Stands, behind}
use Rattle.disk_journal.specs.Banks.{bank_at, bank_length, slot_body, slot_gate, image_end, next, other, slot_at}
use Rattle.disk_journal.specs.Image.{plan_of}
use Rattle.disk_journal.specs.declared.layout.Bank.{Bank}
use Rattle.disk_journal.specs.declared.layout.Bank.TheVariants.{First, Second}
use Rattle.disk_journal.specs.declared.layout.HeaderForm.TheVariants.{Old}
use Rattle.disk_journal.specs.declared.layout.Layout.{Layout}
use Rattle.disk_journal.specs.declared.layout.TheConstants.{CONTENT_AT, GENERATION_AT, GENERATION_LENGTH, MIGRATED_AT}
use Rattle.disk_journal.specs.declared.layout.TheConstants.{HEADER_LENGTH, OPEN, PLAN_ROOM}
use Rattle.disk_journal.proofs.Gating.{records_stay}
use Rattle.disk_journal.specs.Header.{header_of, plan_length_in}
use Rattle.sdls_base.specs.declared.TheConstants.{BODY_LENGTH}
use Rattle.std.proofs.lemmas.List.{ext_get_or, get_or-drop, get_or-take, length-take}

-- what stands up to the end of the banks is as it was, but for that octet
pub record KeepsBanks (layout : Layout) (old new : List ℕ) : Type 0 where
  pub no_shorter : length old ≤ length new
  pub same : (i : ℕ) → i < image_end layout → (i < MIGRATED_AT) ⊎ (MIGRATED_AT + 1 ≤ i)
      → get_or new i 0 ≡ get_or old i 0

-- a stretch behind that octet
stretch : (from size : ℕ) (layout : Layout) (old new : List ℕ) → KeepsBanks layout old new
    → image_end layout ≤ length old
    → MIGRATED_AT + 1 ≤ from → from + size ≤ image_end layout → take size (drop from new) ≡ take size (drop from old)
stretch from size layout old new keeps long low high =
    let longer : length old ≤ length new = keeps.no_shorter in
    let rest_new : length (drop from new) ≡ length new - from = length-drop from new in
    let rest_old : length (drop from old) ≡ length old - from = length-drop from old in
    let cut_new : length (take size (drop from new)) ≡ min size (length (drop from new)) = length-take size
    (drop from new) in
    let cut_old : length (take size (drop from old)) ≡ min size (length (drop from old)) = length-take size
    (drop from old) in
    let sizes : length (take size (drop from new)) ≡ length (take size (drop from old)) = omega arith in
    ext_get_or 0 (take size (drop from new)) (take size (drop from old)) sizes
    (λ i below.
    let inside : i < size = omega arith in
    get_or-take size (drop from new) i 0 inside ∙ get_or-drop from new i 0
    ∙ keeps.same (from + i) (omega arith) (inr (omega arith))
    ∙ sym (get_or-drop from old i 0) ∙ sym (get_or-take size (drop from old) i 0 inside))

bank_high : (layout : Layout) (bank : Bank) → bank_at layout bank + bank_length layout ≤ image_end layout
bank_high layout First = omega arith
bank_high layout Second = omega arith

-- its banks
pub moved_bank : (layout : Layout) (bank : Bank) (old new : List ℕ) → KeepsBanks layout old new
    → image_end layout ≤ length old
    → HEADER_LENGTH + PLAN_ROOM ≤ layout.banks → SameBank (bank_at layout bank) layout old new
moved_bank layout bank old new keeps long far =
    let from = bank_at layout bank in
    let low : HEADER_LENGTH + PLAN_ROOM ≤ from = behind layout bank far in
    let high : from + bank_length layout ≤ image_end layout = bank_high layout bank in
    record {
      generation = ap (big_number GENERATION_LENGTH)
          (stretch (from + GENERATION_AT) GENERATION_LENGTH layout old new keeps long (omega arith) (omega arith));
      content = stretch (from + CONTENT_AT) layout.content_length layout old new keeps long (omega arith) (omega arith);
      gates = λ k below. keeps.same (slot_at layout from k) (omega arith) (inr (omega arith));
      bodies = λ k below. stretch (slot_at layout from k + 1) BODY_LENGTH layout old new keeps long (omega arith)
          (omega arith);
    }

pub moved_gate : (layout : Layout) (bank : Bank) (old new : List ℕ) → KeepsBanks layout old new
    → HEADER_LENGTH + PLAN_ROOM ≤ layout.banks → get_or new (bank_at layout bank) 0 ≡ get_or old (bank_at layout bank) 0
moved_gate layout bank old new keeps far =
    let low : HEADER_LENGTH + PLAN_ROOM ≤ bank_at layout bank = behind layout bank far in
    let high : bank_at layout bank + bank_length layout ≤ image_end layout = bank_high layout bank in
    keeps.same (bank_at layout bank) (omega arith) (inr (omega arith))

pub moved_alike : (layout : Layout) (old new : List ℕ) → HasFront old layout → KeepsBanks layout old new
    → IsAlike old new
moved_alike layout old new front keeps =
    let long : image_end layout ≤ length old = front_bounds old layout front in
    let far : HEADER_LENGTH + PLAN_ROOM ≤ layout.banks = front.behind_plan in
    let whole : HEADER_LENGTH ≤ length old = front.whole in
    let longer : length old ≤ length new = keeps.no_shorter in
    alike old new whole (omega arith) (λ i below away. keeps.same i (omega arith) away)

-- its plan
pub moved_plan : (layout : Layout) (old new : List ℕ) → HasFront old layout → KeepsBanks layout old new
    → plan_of new ≡ plan_of old
moved_plan layout old new front keeps =
    let long : image_end layout ≤ length old = front_bounds old layout front in
    let far : HEADER_LENGTH + PLAN_ROOM ≤ layout.banks = front.behind_plan in
    let room : plan_length_in (header_of old) ≤ PLAN_ROOM =
    (header_bounds (header_of old) (length old) front.header).plan in
    plan_alike old new (moved_alike layout old new front keeps)
    (stretch HEADER_LENGTH (plan_length_in (header_of old)) layout old new keeps long (omega arith) (omega arith))

-- what stood in an image of version 1 stands, while that octet is not 1
pub moved_stands : (old new : List ℕ) (layout : Layout) (bank : Bank) (bodies : List (List ℕ))
    → Stands old layout bank bodies
    → layout.form ≡ Old → KeepsBanks layout old new → get_or new MIGRATED_AT 0 ≢ OPEN → Stands new layout bank bodies
moved_stands old new layout bank bodies stands old_is keeps other_octet =
    let front = stands.front in
    let from = bank_at layout bank in
    let to = bank_at layout (other bank) in
    let long : image_end layout ≤ length old = front_bounds old layout front in
    let here = moved_bank layout bank old new keeps long front.behind_plan in
    let there = moved_bank layout (other bank) old new keeps long front.behind_plan in
    let within : length bodies ≤ layout.slots = stands.are.within in
    record {
      front = front_old old new layout front old_is
          (moved_alike layout old new front keeps) keeps.no_shorter other_octet;
      newest = (
        moved_gate layout bank old new keeps front.behind_plan ∙ stands.newest.0,
        elim stands.newest.1 [
          | inl shut ↦ inl (subst (λ (octet : ℕ). octet ≢ OPEN)
              (sym (moved_gate layout (other bank) old new keeps front.behind_plan)) shut)
          | inr later ↦ inr (here.generation ∙ later ∙ ap next (sym there.generation))
        ],
      );
      are = records_stay (slot_gate layout old from) (slot_gate layout new from) (slot_body layout old from)
          (slot_body layout new from) layout.slots bodies stands.are
          (record { gates = λ k below. here.gates k (omega arith); bodies = λ k below. here.bodies k (omega arith) })
          (λ room. subst (λ (octet : ℕ). octet ≢ OPEN) (sym (here.gates (length bodies) room))
          (stands.are.closed room));
      quiet = λ k above below. here.gates k below ∙ stands.quiet k above below;
    }
