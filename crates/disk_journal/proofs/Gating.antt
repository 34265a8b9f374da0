-- A row of slots, told by place.
use Rattle.std.proofs.Common.{◌≡◌, ◌≢◌, ℕ, zero, suc, ◌+◌, ◌<◌, ◌≤◌, ◌==◌, false, List, [], ◌∷◌, ◌++◌, length, get_or}
use Rattle.std.proofs.Common.{refl, sym, ◌∙◌, ap, subst, inl, inr, arith, length-append}
use Rattle.std.proofs.lemmas.Bool.{cases_lt, cases_eq}
use Rattle.std.proofs.lemmas.Bool.Decides.{nat_tests}
use Rattle.std.proofs.lemmas.List.{get_or_append_left}
use Rattle.std.proofs.Math.Seq.{get_or-append_seam}
use Rattle.disk_journal.specs.declared.layout.TheConstants.{OPEN}
use Rattle.disk_journal.specs.Slots.{gated}

-- these are the bodies of the open slots from slot i on, up to the first closed one of n
pub record AreGated (gate : ℕ → ℕ) (body : ℕ → List ℕ) (n i : ℕ) (bodies : List (List ℕ)) : Type 0 where
  pub within : length bodies ≤ n
  pub opened : (k : ℕ) → k < length bodies → gate (i + k) ≡ OPEN
  pub are : (k : ℕ) → k < length bodies → get_or bodies k [] ≡ body (i + k)
  pub closed : length bodies < n → gate (i + length bodies) ≢ OPEN

-- the same from slot 0 on
pub record AreRecords (gate : ℕ → ℕ) (body : ℕ → List ℕ) (n : ℕ) (bodies : List (List ℕ)) : Type 0 where
  pub within : length bodies ≤ n
  pub opened : (k : ℕ) → k < length bodies → gate k ≡ OPEN
  pub are : (k : ℕ) → k < length bodies → get_or bodies k [] ≡ body k
  pub closed : length bodies < n → gate (length bodies) ≢ OPEN

open_first : (gate : ℕ → ℕ) (body : ℕ → List ℕ) (n i : ℕ) → gate i ≡ OPEN
    → gated gate body (suc n) i ≡ body i ∷ gated gate body n (i + 1)
open_first gate body n i here = rw here refl

closed_first : (gate : ℕ → ℕ) (body : ℕ → List ℕ) (n i : ℕ) → gate i ≢ OPEN → gated gate body (suc n) i ≡ []
closed_first gate body n i here =
    let test : (gate i == OPEN) ≡ false = grind (arith, nat_tests) in rw test refl

none : (gate : ℕ → ℕ) (body : ℕ → List ℕ) (n i : ℕ) → (0 < n → gate i ≢ OPEN) → AreGated gate body n i []
none gate body n i here = record {
  within = omega arith;
  opened = λ k below. absurd (omega arith);
  are = λ k below. absurd (omega arith);
  closed = λ below. let same : i + 0 ≡ i = omega arith in subst (λ (k : ℕ). gate k ≢ OPEN) (sym same) (here below);
}

opened_next : (gate : ℕ → ℕ) (body : ℕ → List ℕ) (n i : ℕ) (bodies : List (List ℕ)) → gate i ≡ OPEN
    → AreGated gate body n (i + 1) bodies → (k : ℕ) → k < suc (length bodies) → gate (i + k) ≡ OPEN
opened_next gate body n i bodies here rest zero below =
    let same : i + 0 ≡ i = omega arith in subst (λ (j : ℕ). gate j ≡ OPEN) (sym same) here
opened_next gate body n i bodies here rest (suc k) below =
    let same : i + suc k ≡ i + 1 + k = omega arith in
    let low : k < length bodies = omega arith in
    subst (λ (j : ℕ). gate j ≡ OPEN) (sym same) (rest.opened k low)

are_next : (gate : ℕ → ℕ) (body : ℕ → List ℕ) (n i : ℕ) (bodies : List (List ℕ))
    → AreGated gate body n (i + 1) bodies → (k : ℕ) → k < suc (length bodies) → get_or (body i ∷ bodies) k [] ≡ body
    (i + k)
are_next gate body n i bodies rest zero below =
    let same : i + 0 ≡ i = omega arith in ap body (sym same)
are_next gate body n i bodies rest (suc k) below =
    let same : i + suc k ≡ i + 1 + k = omega arith in
    let low : k < length bodies = omega arith in
    rest.are k low ∙ ap body (sym same)

more : (gate : ℕ → ℕ) (body : ℕ → List ℕ) (n i : ℕ) (bodies : List (List ℕ)) → gate i ≡ OPEN
    → AreGated gate body n (i + 1) bodies → AreGated gate body (suc n) i (body i ∷ bodies)
more gate body n i bodies here rest = record {
  within = let low : length bodies ≤ n = rest.within in omega arith;
  opened = opened_next gate body n i bodies here rest;
  are = are_next gate body n i bodies rest;
  closed = λ below.
      let same : i + suc (length bodies) ≡ i + 1 + length bodies = omega arith in
      let low : length bodies < n = omega arith in
      subst (λ (j : ℕ). gate j ≢ OPEN) (sym same) (rest.closed low);
}

pub gated_are : (gate : ℕ → ℕ) (body : ℕ → List ℕ) (n i : ℕ) → AreGated gate body n i (gated gate body n i)
gated_are gate body zero i = none gate body zero i (λ below. absurd (omega arith))
gated_are gate body (suc n) i = elim (cases_eq (gate i) OPEN) [
  | inl here ↦ subst (AreGated gate body (suc n) i) (sym (open_first gate body n i here))
      (more gate body n i (gated gate body n (i + 1)) here (gated_are gate body n (i + 1)))
  | inr other ↦ subst (AreGated gate body (suc n) i) (sym (closed_first gate body n i other))
      (none gate body (suc n) i (λ below. other))
]

rest_of : (gate : ℕ → ℕ) (body : ℕ → List ℕ) (n i : ℕ) (first : List ℕ) (bodies : List (List ℕ))
    → AreGated gate body (suc n) i (first ∷ bodies) → AreGated gate body n (i + 1) bodies
rest_of gate body n i first bodies are = record {
  within = let low : suc (length bodies) ≤ suc n = are.within in omega arith;
  opened = λ k below.
      let same : i + suc k ≡ i + 1 + k = omega arith in
      let low : suc k < suc (length bodies) = omega arith in
      subst (λ (j : ℕ). gate j ≡ OPEN) same (are.opened (suc k) low);
  are = λ k below.
      let same : i + suc k ≡ i + 1 + k = omega arith in
      let low : suc k < suc (length bodies) = omega arith in
      are.are (suc k) low ∙ ap body same;
  closed = λ below.
      let same : i + suc (length bodies) ≡ i + 1 + length bodies = omega arith in
      let low : suc (length bodies) < suc n = omega arith in
      subst (λ (j : ℕ). gate j ≢ OPEN) same (are.closed low);
}

gated_is : (gate : ℕ → ℕ) (body : ℕ → List ℕ) (n i : ℕ) (bodies : List (List ℕ))
    → AreGated gate body n i bodies → gated gate body n i ≡ bodies
gated_is gate body zero i [] are = refl
gated_is gate body zero i (first ∷ bodies) are = absurd (let low : suc (length bodies) ≤ 0 = are.within in omega arith)
gated_is gate body (suc n) i [] are =
    let same : i + 0 ≡ i = omega arith in
    let low : 0 < suc n = omega arith in
    closed_first gate body n i (subst (λ (j : ℕ). gate j ≢ OPEN) same (are.closed low))
gated_is gate body (suc n) i (first ∷ bodies) are =
    let same : i + 0 ≡ i = omega arith in
    let low : 0 < suc (length bodies) = omega arith in
    let here : gate i ≡ OPEN = subst (λ (j : ℕ). gate j ≡ OPEN) same (are.opened 0 low) in
    let body_here : first ≡ body i = are.are 0 low ∙ ap body same in
    open_first gate body n i here
    ∙ ap (λ (bodies : List (List ℕ)). body i ∷ bodies)
    (gated_is gate body n (i + 1) bodies (rest_of gate body n i first bodies are))
    ∙ ap (λ (head : List ℕ). head ∷ bodies) (sym body_here)

-- what stands before the first closed slot
pub records_are : (gate : ℕ → ℕ) (body : ℕ → List ℕ) (n : ℕ) → AreRecords gate body n (gated gate body n 0)
records_are gate body n =
    let are = gated_are gate body n 0 in
    let zero_is : (k : ℕ) → 0 + k ≡ k = λ k. omega arith in
    record {
      within = are.within;
      opened = λ k below. subst (λ (j : ℕ). gate j ≡ OPEN) (zero_is k) (are.opened k below);
      are = λ k below. are.are k below ∙ ap body (zero_is k);
      closed = λ below. subst (λ (j : ℕ). gate j ≢ OPEN) (zero_is (length (gated gate body n 0))) (are.closed below);
    }

-- and it is nothing else
pub records_is : (gate : ℕ → ℕ) (body : ℕ → List ℕ) (n : ℕ) (bodies : List (List ℕ))
    → AreRecords gate body n bodies → gated gate body n 0 ≡ bodies
records_is gate body n bodies are =
    let zero_is : (k : ℕ) → k ≡ 0 + k = λ k. omega arith in
    gated_is gate body n 0 bodies (record {
      within = are.within;
      opened = λ k below. subst (λ (j : ℕ). gate j ≡ OPEN) (zero_is k) (are.opened k below);
      are = λ k below. are.are k below ∙ ap body (zero_is k);
      closed = λ below. subst (λ (j : ℕ). gate j ≢ OPEN) (zero_is (length bodies)) (are.closed below);
    })

-- the slots before the first closed one are the same in two rows
pub record SameBefore (gate new_gate : ℕ → ℕ) (body new_body : ℕ → List ℕ) (u : ℕ) : Type 0 where
  pub gates : (k : ℕ) → k < u → new_gate k ≡ gate k
  pub bodies : (k : ℕ) → k < u → new_body k ≡ body k

-- the first closed slot stays closed
pub records_stay : (gate new_gate : ℕ → ℕ) (body new_body : ℕ → List ℕ) (n : ℕ) (bodies : List (List ℕ))
    → AreRecords gate body n bodies → SameBefore gate new_gate body new_body (length bodies)
    → (length bodies < n → new_gate (length bodies) ≢ OPEN) → AreRecords new_gate new_body n bodies
records_stay gate new_gate body new_body n bodies are same closed = record {
  within = are.within;
  opened = λ k below. same.gates k below ∙ are.opened k below;
  are = λ k below. are.are k below ∙ sym (same.bodies k below);
  closed = closed;
}

-- the first closed slot is opened
pub records_grow : (gate new_gate : ℕ → ℕ) (body new_body : ℕ → List ℕ) (n : ℕ) (bodies : List (List ℕ))
    (added : List ℕ)
    → AreRecords gate body n bodies → SameBefore gate new_gate body new_body (length bodies) → length bodies < n
    → new_gate (length bodies) ≡ OPEN → new_body (length bodies) ≡ added
    → (length bodies + 1 < n → new_gate (length bodies + 1) ≢ OPEN) → AreRecords new_gate new_body n
    (bodies ++ added ∷ [])
records_grow gate new_gate body new_body n bodies added are same room here body_here closed =
    let longer : length (bodies ++ added ∷ []) ≡ length bodies + 1 = length-append bodies (added ∷ []) in
    record {
      within = omega arith;
      opened = λ k below. elim (cases_lt k (length bodies)) [
        | inl low ↦ same.gates k low ∙ are.opened k low
        | inr high ↦ let last : length bodies ≡ k = omega arith in subst (λ (j : ℕ). new_gate j ≡ OPEN) last here
      ];
      are = λ k below. elim (cases_lt k (length bodies)) [
        | inl low ↦ get_or_append_left bodies (added ∷ []) [] k low ∙ are.are k low ∙ sym (same.bodies k low)
        | inr high ↦
            let last : length bodies ≡ k = omega arith in
            subst (λ (j : ℕ). get_or (bodies ++ added ∷ []) j [] ≡ new_body j) last
            (get_or-append_seam bodies added [] [] ∙ sym body_here)
      ];
      closed = λ below.
          let low : length bodies + 1 < n = omega arith in
          subst (λ (j : ℕ). new_gate j ≢ OPEN) (sym longer) (closed low);
    }
