-- What holds or does not, for `refused_exactly`: conjunctions, bounds, lists.
use Rattle.std.proofs.Common.{◌≡◌, ◌⊎◌, inl, inr, ⊎_elim, ℕ, suc, zero, ◌+◌, ◌<◌, ◌≤◌, List, [], ◌∷◌, length}
use Rattle.std.proofs.Common.{slice_index_or, Option, None, Some, IsSome, IsSomeAnd, refl, sym, subst, arith}
use Rattle.std.specs.List.{All, Any}
use Rattle.std.proofs.lemmas.Bool.{cases_eq, cases_lt, false≢true}
use Rattle.std.specs.List.{AllByRecursion as ByRecursion, slice_index}
use Rattle.std.proofs.lemmas.List.Elements.{All-from_recursion, recursion_from_All}
use Rattle.sdls_base.specs.declared.TheConstants.{MOST_CHANNELS, MOST_WINDOW}
use Rattle.replay_window.specs.declared.TheConstants.{MOST_BACK}
use Rattle.replay_window.specs.WindowField.{back_of, width_of, IsWindowField}
use Rattle.sdls_base.specs.Bounds.{AreChannels, IsKeyLength, IsWidth}

abbrev pub Decided : Type 0 → Type 0
Decided A = A ⊎ (¬ A)

pub decided_and : {A B : Type 0} → Decided A → Decided B → Decided (A × B)
decided_and (inl a) (inl b) = inl (a, b)
decided_and (inl a) (inr off) = inr (λ both. off both.1)
decided_and (inr off) b = inr (λ both. off both.0)

pub decided_three : {A B C : Type 0} → Decided A → Decided B → Decided C → Decided (A × B × C)
decided_three (inl a) (inl b) (inl c) = inl (a, b, c)
decided_three (inl a) (inl b) (inr off) = inr (λ all. off all.2)
decided_three (inl a) (inr off) c = inr (λ all. off all.1)
decided_three (inr off) b c = inr (λ all. off all.0)

pub decided_four : {A B C D : Type 0} → Decided A → Decided B → Decided C → Decided D → Decided (A × B × C × D)
decided_four (inl a) (inl b) (inl c) (inl d) = inl (a, b, c, d)
decided_four (inl a) (inl b) (inl c) (inr off) = inr (λ all. off all.3)
decided_four (inl a) (inl b) (inr off) d = inr (λ all. off all.2)
decided_four (inl a) (inr off) c d = inr (λ all. off all.1)
decided_four (inr off) b c d = inr (λ all. off all.0)

-- from the one to the other and back
pub decided_as : {A B : Type 0} → Decided A → (A → B) → (B → A) → Decided B
decided_as (inl a) to back = inl (to a)
decided_as (inr off) to back = inr (λ b. off (back b))

pub decided_not : {A : Type 0} → Decided A → Decided (¬ A)
decided_not (inl a) = inr (λ off. off a)
decided_not (inr off) = inl off

pub decided_or : {A B : Type 0} → Decided A → Decided B → Decided (A ⊎ B)
decided_or (inl a) b = inl (inl a)
decided_or (inr off) (inl b) = inl (inr b)
decided_or (inr off) (inr out) = inr (λ either. ⊎_elim off out either)

pub decided_eq : (a b : ℕ) → Decided (a ≡ b)
decided_eq a b = cases_eq a b

pub decided_lt : (a b : ℕ) → Decided (a < b)
decided_lt a b = elim (cases_lt a b) [
  | inl less ↦ inl less
  | inr more ↦ inr (λ less. omega arith)
]

pub decided_le : (a b : ℕ) → Decided (a ≤ b)
decided_le a b = elim (cases_lt b a) [
  | inl less ↦ inr (λ more. omega arith)
  | inr more ↦ inl more
]

pub decided_none : {X : Type 0} (o : Option X) → Decided (o ≡ None)
decided_none None = inl refl
decided_none (Some x) = inr (λ is. cc)

pub decided_some : {X : Type 0} (o : Option X) → Decided (IsSome o)
decided_some None = inr (λ is. false≢true is)
decided_some (Some x) = inl refl

pub decided_some_and : {X : Type 0} (P : X → Type 0) → ((x : X) → Decided (P x)) → (o : Option X)
    → Decided (IsSomeAnd o P)
decided_some_and P each None = inr (λ is. is)
decided_some_and P each (Some x) = each x

by_recursion : {X : Type 0} (P : X → Type 0) → ((x : X) → Decided (P x)) → (xs : List X) → Decided (ByRecursion P xs)
by_recursion P each [] = inl tt
by_recursion P each (x ∷ xs) = decided_and (each x) (by_recursion P each xs)

pub decided_all : {X : Type 0} (P : X → Type 0) → ((x : X) → Decided (P x)) → (xs : List X) → Decided (All P xs)
decided_all P each xs = decided_as (by_recursion P each xs) (All-from_recursion P xs) (recursion_from_All P xs)

-- of one element at least
no_more : {X : Type 0} (P : X → Type 0) (x : X) (xs : List X) → ¬ P x → ¬ Any P xs → Any P (x ∷ xs) → ⊥
no_more {X} P x xs first rest any = at any.0 any.1 any.2 any.3 any.4
  where
    at : (k : ℕ) (d : X) → k < length (x ∷ xs) → slice_index_or (x ∷ xs) k d ≡ d → P d → ⊥
    at zero d low read holds = first (subst P (sym read) holds)
    at (suc k) d low read holds = rest (k, d, omega arith, read, holds)

pub decided_any : {X : Type 0} (P : X → Type 0) → ((x : X) → Decided (P x)) → (xs : List X) → Decided (Any P xs)
decided_any {X} P each [] = inr (λ any. let low = any.2 in absurd (omega arith))
decided_any {X} P each (x ∷ xs) = go (each x) (decided_any P each xs)
  where
    go : Decided (P x) → Decided (Any P xs) → Decided (Any P (x ∷ xs))
    go (inl here) rest = inl (zero, x, omega arith, refl, here)
    go (inr not_here) (inl rest) = let low = rest.2 in inl (suc rest.0, rest.1, omega arith, rest.3, rest.4)
    go (inr not_here) (inr not_there) = inr (no_more P x xs not_here not_there)

-- of each number below a bound
pub decided_below : (P : ℕ → Type 0) → ((k : ℕ) → Decided (P k)) → (n : ℕ) → Decided ((k : ℕ) → k < n → P k)
decided_below P each zero = inl (λ k less. absurd (omega arith))
decided_below P each (suc n) = go (decided_below P each n) (each n)
  where
    last : ((k : ℕ) → k < n → P k) → P n → (k : ℕ) → k < suc n → P k
    last front here k less = elim (cases_eq k n) [
      | inl same ↦ subst P (sym same) here
      | inr other ↦ front k (omega arith)
    ]

    go : Decided ((k : ℕ) → k < n → P k) → Decided (P n) → Decided ((k : ℕ) → k < suc n → P k)
    go (inl front) (inl here) = inl (last front here)
    go (inl front) (inr off) = inr (λ all. off (all n (omega arith)))
    go (inr off) here = inr (λ all. off (λ k less. all k (omega arith)))

pub decided_channels : (channels : List ℕ) → Decided (AreChannels channels)
decided_channels channels =
    decided_as (decided_three (decided_le 1 (length channels)) (decided_le (length channels) MOST_CHANNELS)
    (ascending channels))
    (λ parts. record { one = parts.0; most = parts.1; ascending = λ k less. parts.2 k (omega arith) less })
    (λ is. (is.one, is.most, λ k low less. is.ascending k less))
  where
    one_pair : (xs : List ℕ) (k : ℕ) → Decided (k + 1 < length xs → slice_index xs k < slice_index xs (k + 1))
    one_pair xs k = elim (decided_lt (k + 1) (length xs)) [
      | inl there ↦ elim (decided_lt (slice_index xs k) (slice_index xs (k + 1))) [
        | inl less ↦ inl (λ h. less)
        | inr off ↦ inr (λ h. off (h there))
      ]
      | inr beyond ↦ inl (λ h. absurd (beyond h))
    ]

    ascending : (xs : List ℕ)
        → Decided ((k : ℕ) → k < length xs → k + 1 < length xs → slice_index xs k < slice_index xs (k + 1))
    ascending xs = decided_below (λ k. k + 1 < length xs → slice_index xs k < slice_index xs (k + 1)) (one_pair xs)
        (length xs)

pub decided_width : (width : ℕ) → Decided (IsWidth width)
decided_width width = decided_as (decided_and (decided_le 1 width) (decided_le width MOST_WINDOW))
    (λ both. record { least = both.0; most = both.1 })
    (λ is. (is.least, is.most))

pub decided_field : (field : ℕ) → Decided (IsWindowField field)
decided_field field = decided_as (decided_and (decided_le (back_of field) MOST_BACK) (decided_width (width_of field)))
    (λ both. record { back = both.0; width = both.1 }) (λ is. (is.back, is.width))

pub decided_key_length : (n : ℕ) → Decided (IsKeyLength n)
decided_key_length n = decided_or (decided_eq n 16) (decided_eq n 32)
