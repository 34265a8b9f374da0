-- The checks of the gates after the first closed one.
use Rattle.std.proofs.Common.{◌≡◌, ◌≢◌, ℕ, zero, suc, ◌+◌, ◌<◌, ◌≤◌, ◌==◌, ◌∙◌, false, Some, None, refl, sym, ap, subst}
use Rattle.std.proofs.Common.{inl, inr, arith}
use Rattle.disk_journal.specs.Banks.{other, slot_at}
use Rattle.disk_journal.specs.Fault.{gate_checks}
use Rattle.disk_journal.specs.declared.layout.Layout.{Layout}
use Rattle.disk_journal.specs.declared.layout.TheConstants.{CLOSED}
use Rattle.sdls_base.specs.FirstFailing.{first_failing}
use Rattle.std.proofs.lemmas.Bool.{cases_eq}
use Rattle.std.proofs.lemmas.Bool.Decides.{nat_tests}

pub closed_gate : (layout : Layout) (bank : ℕ) (gate : ℕ → ℕ) (n i : ℕ) → gate i ≡ CLOSED
    → first_failing (gate_checks layout bank gate (suc n) i) ≡ first_failing (gate_checks layout bank gate n (i + 1))
closed_gate layout bank gate n i here = rw here refl

pub open_gate : (layout : Layout) (bank : ℕ) (gate : ℕ → ℕ) (n i : ℕ) → gate i ≢ CLOSED
    → first_failing (gate_checks layout bank gate (suc n) i) ≡ Some (slot_at layout bank i)
open_gate layout bank gate n i here =
    let test : (gate i == CLOSED) ≡ false = grind (arith, nat_tests) in rw test refl

-- gates that are all 0 pass
pub closed_pass : (layout : Layout) (bank : ℕ) (gate : ℕ → ℕ) (n i : ℕ) →
    ((k : ℕ) → i ≤ k → k < i + n → gate k ≡ CLOSED)
    → first_failing (gate_checks layout bank gate n i) ≡ None
closed_pass layout bank gate zero i closed = refl
closed_pass layout bank gate (suc n) i closed =
    closed_gate layout bank gate n i (closed i (omega arith) (omega arith))
    ∙ closed_pass layout bank gate n (i + 1) (λ k low high. closed k (omega arith) (omega arith))

-- gates that pass are all 0
pub pass_closed : (layout : Layout) (bank : ℕ) (gate : ℕ → ℕ) (n i : ℕ) → first_failing
    (gate_checks layout bank gate n i) ≡ None
    → (k : ℕ) → i ≤ k → k < i + n → gate k ≡ CLOSED
pass_closed layout bank gate zero i none k low high = absurd (omega arith)
pass_closed layout bank gate (suc n) i none k low high =
    let here : gate i ≡ CLOSED = elim (cases_eq (gate i) CLOSED) [
      | inl closed ↦ closed
      | inr other ↦ absurd (let found = open_gate layout bank gate n i other in cc)
    ] in
    elim (cases_eq k i) [
      | inl same ↦ subst (λ (j : ℕ). gate j ≡ CLOSED) (sym same) here
      | inr after ↦ pass_closed layout bank gate n (i + 1) (sym (closed_gate layout bank gate n i here) ∙ none) k
          (omega arith) (omega arith)
    ]

-- the first gate that is not 0 is where they fail
pub first_other : (layout : Layout) (bank : ℕ) (gate : ℕ → ℕ) (n i k : ℕ) → i ≤ k → k < i + n
    → ((j : ℕ) → i ≤ j → j < k → gate j ≡ CLOSED) → gate k ≢ CLOSED
    → first_failing (gate_checks layout bank gate n i) ≡ Some (slot_at layout bank k)
first_other layout bank gate zero i k low high before other = absurd (omega arith)
first_other layout bank gate (suc n) i k low high before other = elim (cases_eq k i) [
  | inl same ↦ open_gate layout bank gate n i (subst (λ (j : ℕ). gate j ≢ CLOSED) same other)
      ∙ ap (λ (j : ℕ). Some (slot_at layout bank j)) (sym same)
  | inr after ↦
      closed_gate layout bank gate n i (before i (omega arith) (omega arith))
      ∙ first_other layout bank gate n (i + 1) k (omega arith) (omega arith)
      (λ j above below. before j (omega arith) below) other
]
