-- The gates of a run of slots that is read, for `first_other_in_run` and `first_other`.
use Rattle.std.proofs.Common.{◌≡◌, ℕ, ◌+◌, ◌-◌, ◌*◌, ◌<◌, ◌≤◌, ◌∙◌, List, length, get_or, take, drop, sym, ap, inl, inr}
use Rattle.std.proofs.Common.{arith}
use Rattle.std.proofs.lemmas.List.{get_or-drop, get_or-take, length-take}
use Rattle.std.proofs.lemmas.Bool.{cases_lt}
use Rattle.disk_journal.specs.declared.layout.TheConstants.{SLOT_LENGTH}
use Rattle.disk_journal.specs.Banks.{slot_at, slot_gate}
use Rattle.disk_journal.specs.Gates.{IsFirstOther}
use Rattle.disk_journal.specs.declared.layout.Layout.{Layout}

gate_read : (layout : Layout) (bank : ℕ) (image slots : List ℕ) (first n i : ℕ)
    → slots ≡ take n (drop (slot_at layout bank first) image) → SLOT_LENGTH * i < length slots
    → get_or slots (SLOT_LENGTH * i) 0 ≡ slot_gate layout image bank (first + i)
gate_read layout bank image slots first n i read within =
    let behind = drop (slot_at layout bank first) image in
    let below : SLOT_LENGTH * i < n = omega (arith, ap length read, length-take n behind) in
    let place : slot_at layout bank first + SLOT_LENGTH * i ≡ slot_at layout bank (first + i) = omega arith in
    ap (λ (some : List ℕ). get_or some (SLOT_LENGTH * i) 0) read
    ∙ get_or-take n behind (SLOT_LENGTH * i) 0 below
    ∙ get_or-drop (slot_at layout bank first) image (SLOT_LENGTH * i) 0
    ∙ ap (λ (at : ℕ). get_or image at 0) place

-- the first other one of the slots that were read is the first other one of the image
pub other_read : (layout : Layout) (bank : ℕ) (image slots : List ℕ) (gate first end n index : ℕ) → first ≤ end
    → slots ≡ take n (drop (slot_at layout bank first) image) → length slots ≡ SLOT_LENGTH * (end - first)
    → IsFirstOther (λ i. get_or slots (SLOT_LENGTH * i) 0) gate 0 (end - first) index
    → IsFirstOther (slot_gate layout image bank) gate first end (first + index)
other_read layout bank image slots gate first end n index ordered read long found =
    let fits : index ≤ end - first = found.within in
    record {
      within = omega arith;
      reached = λ below. omega arith;
      before = λ i low high.
          let here : SLOT_LENGTH * (i - first) < length slots = omega arith in
          let same : first + (i - first) ≡ i = omega arith in
          ap (slot_gate layout image bank) (sym same)
          ∙ sym (gate_read layout bank image slots first n (i - first) read here)
          ∙ found.before (i - first) (omega arith) (omega arith);
      other = λ below same.
          let here : SLOT_LENGTH * index < length slots = omega arith in
          found.other (omega arith) (gate_read layout bank image slots first n index read here ∙ same);
    }

-- behind slots that have the gate, a run's first other one is the first other one of all
pub other_behind : (gate : ℕ → ℕ) (octet from first end slots index : ℕ) → from ≤ first → end ≤ slots → index < end
    → ((k : ℕ) → from ≤ k → k < first → gate k ≡ octet) → IsFirstOther gate octet first end index
    → IsFirstOther gate octet from slots index
other_behind gate octet from first end slots index low high below passed found =
    let reached : first ≤ index = found.reached below in
    record {
      within = omega arith;
      reached = λ _. omega arith;
      before = λ i above before. elim (cases_lt i first) [
        | inl early ↦ passed i above early
        | inr late ↦ found.before i late before
      ];
      other = λ _. found.other below;
    }
