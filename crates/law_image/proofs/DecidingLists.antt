-- What holds of lists, or does not: for `refused_exactly`.
use Rattle.std.proofs.Common.{◌≡◌, ℕ, suc, List, [], ◌∷◌, get_or, Option, Some, None, IfSome, refl, subst, inl, inr}
use Rattle.std.proofs.Common.{arith, ◌⊎◌}
use Rattle.std.specs.List.{All, AllPairs, Contains}
use Rattle.std.specs.Option.{IsNone}
use Rattle.std.proofs.lemmas.Bool.{cases_eq}
use Rattle.std.proofs.lemmas.List.Elements.{All-contains, All-contains_itself, All-cons, All-nil, All-tail}
use Rattle.std.proofs.lemmas.List.Elements.{Contains-get_or}
use Rattle.std.proofs.lemmas.List.Kept.{AllPairs-cons}
use Rattle.law_image.proofs.Deciding.{Decided, decided_all, decided_and, decided_as, decided_not}

-- the one holds if the other does
pub decided_if : {A B : Type 0} → Decided A → Decided B → Decided (A → B)
decided_if (inl a) (inl b) = inl (λ h. b)
decided_if (inl a) (inr off) = inr (λ f. off (f a))
decided_if (inr off) b = inl (λ a. absurd (off a))

pub decided_if_some : {X : Type 0} (P : X → Type 0) → ((x : X) → Decided (P x)) → (o : Option X) → Decided (IfSome o P)
decided_if_some P each None = inl tt
decided_if_some P each (Some x) = each x

pub decided_is_none : {X : Type 0} (o : Option X) → Decided (IsNone o)
decided_is_none None = inl refl
decided_is_none (Some x) = inr (λ is. cc)

-- two lists of numbers are one
pub decided_octets : (xs ys : List ℕ) → Decided (xs ≡ ys)
decided_octets [] [] = inl refl
decided_octets [] (y ∷ ys) = inr (λ is. cc)
decided_octets (x ∷ xs) [] = inr (λ is. cc)
decided_octets (x ∷ xs) (y ∷ ys) = go (cases_eq x y) (decided_octets xs ys)
  where
    go : Decided (x ≡ y) → Decided (xs ≡ ys) → Decided ((x ∷ xs) ≡ (y ∷ ys))
    go (inl first) (inl rest) = inl (λ i. first i ∷ rest i)
    go (inl first) (inr off) = inr (λ is. off cc)
    go (inr off) rest = inr (λ is. off cc)

pairs_head : {X : Type 0} (R : X → X → Type 0) (x : X) (xs : List X) → AllPairs R (x ∷ xs) → All (R x) xs
pairs_head R x xs all k d low = all 0 (suc k) d (omega arith) (omega arith)

pairs_tail : {X : Type 0} (R : X → X → Type 0) (x : X) (xs : List X) → AllPairs R (x ∷ xs) → AllPairs R xs
pairs_tail R x xs all i j d lt low = all (suc i) (suc j) d (omega arith) (omega arith)

pub decided_pairs : {X : Type 0} (R : X → X → Type 0) → ((a b : X) → Decided (R a b)) → (xs : List X)
    → Decided (AllPairs R xs)
decided_pairs R each [] = inl (λ i j d lt low. absurd (omega arith))
decided_pairs R each (x ∷ xs) =
    decided_as (decided_and (decided_all (R x) (each x) xs) (decided_pairs R each xs))
    (λ both. AllPairs-cons R x xs both.0 both.1)
    (λ all. (pairs_head R x xs all, pairs_tail R x xs all))

-- a number is in a list, or each number of the list is another
more_contains : (y n : ℕ) (ys : List ℕ) → Contains ys n → Contains (y ∷ ys) n
more_contains y n ys has =
    All-contains (Contains (y ∷ ys)) ys n (All-tail (Contains (y ∷ ys)) y ys (All-contains_itself (y ∷ ys))) has

sought : (n : ℕ) (ys : List ℕ) → Contains ys n ⊎ All (λ m. ¬ (m ≡ n)) ys
sought n [] = inr (All-nil (λ m. ¬ (m ≡ n)))
sought n (y ∷ ys) = elim (cases_eq y n) [
  | inl same ↦ inl (subst (Contains (y ∷ ys)) same (Contains-get_or (y ∷ ys) 0 0 (omega arith)))
  | inr other ↦ elim (sought n ys) [
    | inl has ↦ inl (more_contains y n ys has)
    | inr all ↦ inr (All-cons (λ m. ¬ (m ≡ n)) y ys other all)
  ]
]

decided_contains : (ys : List ℕ) (n : ℕ) → Decided (Contains ys n)
decided_contains ys n = elim (sought n ys) [
  | inl has ↦ inl has
  | inr all ↦ inr (λ has. All-contains (λ m. ¬ (m ≡ n)) ys n all has refl)
]

-- two lists share no number
pub decided_apart : (xs ys : List ℕ) → Decided ((n : ℕ) → Contains xs n → Contains ys n → ⊥)
decided_apart xs ys = decided_as (decided_all (λ n. ¬ Contains ys n) (λ n. decided_not (decided_contains ys n)) xs)
    (λ all n own other. All-contains (λ m. ¬ Contains ys m) xs n all own other)
    (λ apart k d low has. apart (get_or xs k d) (Contains-get_or xs k d low) has)
