-- What a search, a write and a map do to lists.
use Rattle.std.proofs.Common.{◌≡◌, ◌≢◌, ℕ, zero, suc, ◌<◌, ◌≤◌, Bool, true, false, cond, List, [], ◌∷◌, length, get_or}
use Rattle.std.proofs.Common.{set, map, Option, Some, None, is_some, sym, refl, ap, ◌∙◌, subst, ⊎_elim, arith}
use Rattle.std.specs.List.{find, position, position_or_len, slice_get, All, AllPairs}
use Rattle.std.specs.Option.{option_map}
use Rattle.std.proofs.lemmas.Bool.{cases_eq, false≢true}
use Rattle.std.proofs.lemmas.Bool.Decides.{nat_tests}
use Rattle.std.proofs.lemmas.List.{length-map, get_or-map, get_or-set_same, get_or-set_other, length-set}
use Rattle.std.proofs.lemmas.List.Elements.{All-nil, All-cons}
use Rattle.std.proofs.lemmas.List.Folds.{find_at}
use Rattle.std.proofs.lemmas.List.Quantifiers.{position-Some}
use Rattle.std.proofs.lemmas.Option.{slice_get-get_or}

position_or_len-Some : {X : Type 0} (p : X → Bool) (xs : List X) (i : ℕ) → position p xs ≡ Some i
    → position_or_len p xs ≡ i
position_or_len-Some p xs i h = grind (arith, nat_tests)

-- the element that a search finds stands at the place that it finds
pub find_place : {X : Type 0} (p : X → Bool) (xs : List X) (i : ℕ) → position p xs ≡ Some i → find p xs ≡ slice_get xs i
find_place p xs i h = find_at p xs ∙ ap (slice_get xs) (position_or_len-Some p xs i h)

pub find_placed : {X : Type 0} (p : X → Bool) (xs : List X) (i : ℕ) (d : X) → position p xs ≡ Some i
    → find p xs ≡ Some (get_or xs i d)
find_placed p xs i d h = find_place p xs i h ∙ slice_get-get_or xs i d (position-Some p xs i d h).0

slice_get_past : {X : Type 0} (xs : List X) (i : ℕ) → length xs ≤ i → slice_get xs i ≡ None
slice_get_past [] i h = refl
slice_get_past (x ∷ xs) zero h = absurd (omega arith)
slice_get_past (x ∷ xs) (suc i) h = slice_get_past xs i (omega arith)

past_all : {X : Type 0} (p : X → Bool) (xs : List X) → position p xs ≡ None → length xs ≤ position_or_len p xs
past_all p xs h = grind (arith, nat_tests)

pub find_nowhere : {X : Type 0} (p : X → Bool) (xs : List X) → position p xs ≡ None → find p xs ≡ None
find_nowhere p xs h = find_at p xs ∙ slice_get_past xs _ (past_all p xs h)

-- a relation that a change of each element keeps
pub pairs_map : {X : Type 0} (R : X → X → Type 0) (g : X → X) (xs : List X) → ((x y : X) → R x y → R (g x) (g y))
    → AllPairs R xs → AllPairs R (map g xs)
pairs_map R g xs keeps pairs i j d less within =
    let low : j < length xs = omega (arith, length-map xs g) in
    let first : i < length xs = omega arith in
    let there : R (g (get_or xs i d)) (g (get_or xs j d)) = keeps _ _ (pairs i j d less low) in
    rw (get_or-map g xs i d d first, get_or-map g xs j d d low) there

-- a write that every other element bears
pub pairs_set : {X : Type 0} (R : X → X → Type 0) (xs : List X) (i : ℕ) (y : X) → i < length xs
    → ((k : ℕ) (d : X) → k < i → R (get_or xs k d) y) → ((k : ℕ) (d : X) → i < k → k < length xs → R y (get_or xs k d))
    → AllPairs R xs → AllPairs R (set xs i y)
pairs_set R xs i y within before behind pairs j k d less end =
    let end : k < length xs = omega (arith, length-set xs i y) in
    ⊎_elim
    (λ (at_j : j ≡ i). subst (λ n. R (get_or (set xs i y) n d) (get_or (set xs i y) k d)) (sym at_j)
    (let other : k ≢ i = omega arith in
    rw (get_or-set_same xs i y d within, get_or-set_other xs i k y d other) (behind k d (omega arith) end)))
    (λ (not_j : j ≢ i). ⊎_elim
    (λ (at_k : k ≡ i). subst (λ n. R (get_or (set xs i y) j d) (get_or (set xs i y) n d)) (sym at_k)
    (rw (get_or-set_same xs i y d within, get_or-set_other xs i j y d not_j) (before j d (omega arith))))
    (λ (not_k : k ≢ i). rw (get_or-set_other xs i j y d not_j, get_or-set_other xs i k y d not_k)
    (pairs j k d less end))
    (cases_eq k i))
    (cases_eq j i)

slice_get_within : {X : Type 0} (xs : List X) (i : ℕ) → i < length xs → is_some (slice_get xs i) ≡ true
slice_get_within [] i h = absurd (omega arith)
slice_get_within (x ∷ xs) zero h = refl
slice_get_within (x ∷ xs) (suc i) h = slice_get_within xs i (omega arith)

placed_within : {X : Type 0} (p : X → Bool) (xs : List X) (i : ℕ) → position p xs ≡ Some i → i < length xs
placed_within p xs i h = grind (arith, nat_tests)

find_any : {X : Type 0} (p : X → Bool) (xs : List X) (o : Option ℕ) → position p xs ≡ o
    → is_some (find p xs) ≡ is_some o
find_any p xs None h = ap is_some (find_nowhere p xs h)
find_any p xs (Some i) h = ap is_some (find_place p xs i h) ∙ slice_get_within xs i (placed_within p xs i h)

-- an element is found exactly where it has a place
pub is_some-find : {X : Type 0} (p : X → Bool) (xs : List X) → is_some (find p xs) ≡ is_some (position p xs)
is_some-find p xs = find_any p xs (position p xs) refl

pub chosen : {X : Type 0} (b : Bool) (x y : X) → b ≡ true → cond b x y ≡ x
chosen true x y h = refl
chosen false x y h = absurd (false≢true h)

pub left_out : {X : Type 0} (b : Bool) (x y : X) → b ≡ false → cond b x y ≡ y
left_out false x y h = refl
left_out true x y h = absurd (false≢true (sym h))

passes_none : {X : Type 0} (p : X → Bool) (x : X) (xs : List X) (b : Bool) → p x ≡ b
    → cond b (Some x) (find p xs) ≡ None → (p x ≡ false) × (find p xs ≡ None)
passes_none p x xs true e h = absurd (cc)
passes_none p x xs false e h = (e, h)

-- where a search finds nothing, no element passes
pub find_none : {X : Type 0} (p : X → Bool) (xs : List X) → find p xs ≡ None → All (λ x. p x ≡ false) xs
find_none p [] h = All-nil (λ x. p x ≡ false)
find_none p (x ∷ xs) h =
    let fails = passes_none p x xs (p x) refl h in
    All-cons (λ x. p x ≡ false) x xs fails.0 (find_none p xs fails.1)

-- a search after a change of each element that keeps what it tests
pub find-map : {X : Type 0} (p : X → Bool) (g : X → X) (xs : List X) → ((x : X) → p (g x) ≡ p x)
    → find p (map g xs) ≡ option_map g (find p xs)
find-map p g [] keeps = refl
find-map p g (x ∷ xs) keeps =
    ap (λ b. cond b (Some (g x)) (find p (map g xs))) (keeps x)
    ∙ ap (λ r. cond (p x) (Some (g x)) r) (find-map p g xs keeps)
    ∙ outside (p x)
  where
    outside : (b : Bool) → cond b (Some (g x)) (option_map g (find p xs)) ≡ option_map g (cond b (Some x) (find p xs))
    outside true = refl
    outside false = refl
