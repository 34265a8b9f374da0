-- Lists by place, sums over them, and lists of pairs.
use Rattle.std.proofs.Common.{◌≡◌, ◌≢◌, ◌⊎◌, ℕ, zero, suc, ◌+◌, ◌<◌, ◌≤◌, eqb, true, false, Bool, ◌&&◌, List, [], ◌∷◌}
use Rattle.std.proofs.Common.{◌++◌, map, set, length, get_or, get_or-set_same, get_or-set_other, sym, refl, ap, ◌∙◌}
use Rattle.std.proofs.Common.{subst, inl, inr, ⊎_elim, arith, Some, None, Option, slice_get, if◌then◌else◌, eq-eqb}
use Rattle.std.proofs.Common.{◌==◌}
use Rattle.std.proofs.lemmas.Bool.Decides.{nat_tests}
use mathlib.Core.Logic.{dite}
use native.Mathlib.Decide.{ℕ_discrete}
use Rattle.sdls_world.specs.Core.{find_place, further}
use Rattle.sdls_base.specs.Numbers.{one_if, tally, total, once_below}

pub some_same : {A : Type 0} {a b : A} → Some a ≡ Some b → a ≡ b
some_same e = cc

module _ {X : Type 0} where
  pub get_set : (xs : List X) (i j : ℕ) (w u : X) → slice_get (set xs i w) j ≡ Some u
      → ((j ≡ i) × (w ≡ u)) ⊎ ((j ≢ i) × (slice_get xs j ≡ Some u))
  get_set [] i j w u e = absurd (let n : None ≡ Some u = e in cc)
  get_set (x ∷ xs) zero zero w u e = inl (refl, cc)
  get_set (x ∷ xs) zero (suc j) w u e = inr ((λ h. omega arith), e)
  get_set (x ∷ xs) (suc i) zero w u e = inr ((λ h. omega arith), e)
  get_set (x ∷ xs) (suc i) (suc j) w u e =
      ⊎_elim (λ t. inl (ap suc t.0, t.1)) (λ t. let n = t.0 in inr ((λ h. n (omega arith)), t.1)) (get_set xs i j w u e)

  pub get_snoc : (xs : List X) (w u : X) (j : ℕ) → slice_get (xs ++ w ∷ []) j ≡ Some u
      → (slice_get xs j ≡ Some u) ⊎ (w ≡ u)
  get_snoc [] w u zero e = inr cc
  get_snoc [] w u (suc j) e = absurd (let n : None ≡ Some u = e in cc)
  get_snoc (x ∷ xs) w u zero e = inl e
  get_snoc (x ∷ xs) w u (suc j) e = get_snoc xs w u j e

  pub total_set : (f : X → ℕ) (xs : List X) (i : ℕ) (v w : X) → slice_get xs i ≡ Some v
      → total f (set xs i w) + f v ≡ total f xs + f w
  total_set f [] i v w e = absurd (let n : None ≡ Some v = e in cc)
  total_set f (x ∷ xs) zero v w e = let s : x ≡ v = cc in let h : f x ≡ f v = ap f s in omega arith
  total_set f (x ∷ xs) (suc i) v w e = let h = total_set f xs i v w e in omega arith

  pub total_at : (f : X → ℕ) (xs : List X) (i : ℕ) (v : X) → slice_get xs i ≡ Some v → f v ≤ total f xs
  total_at f [] i v e = absurd (let n : None ≡ Some v = e in cc)
  total_at f (x ∷ xs) zero v e = let s : x ≡ v = cc in let h : f x ≡ f v = ap f s in omega arith
  total_at f (x ∷ xs) (suc i) v e = let h = total_at f xs i v e in omega arith

  pub total-snoc : (f : X → ℕ) (xs : List X) (w : X) → total f (xs ++ w ∷ []) ≡ total f xs + f w
  total-snoc f [] w = omega arith
  total-snoc f (x ∷ xs) w = let h = total-snoc f xs w in omega arith

  later : (p : X → Bool) (y : X) (ys : List X) (i : ℕ) (x : X)
      → ((j : ℕ) (z : X) → find_place p ys ≡ Some (j, z) → slice_get ys j ≡ Some z)
      → (o : Option (ℕ × X)) → find_place p ys ≡ o → further o ≡ Some (i, x) → slice_get (y ∷ ys) i ≡ Some x
  later p y ys i x next None is k = absurd (let n : None ≡ Some (i, x) = k in cc)
  later p y ys i x next (Some f) is k =
      let same : (suc f.0, f.1) ≡ (i, x) = some_same k in
      subst (λ n. slice_get (y ∷ ys) n ≡ Some x) (ap (λ z. z.0) same) (next f.0 f.1 is ∙ ap Some (ap (λ z. z.1) same))

  here_or_later : (p : X → Bool) (y : X) (ys : List X) (i : ℕ) (x : X)
      → ((j : ℕ) (z : X) → find_place p ys ≡ Some (j, z) → slice_get ys j ≡ Some z)
      → (b : Bool) → (if b then Some (0, y) else further (find_place p ys)) ≡ Some (i, x)
      → slice_get (y ∷ ys) i ≡ Some x
  here_or_later p y ys i x next true k =
      let same : (0, y) ≡ (i, x) = some_same k in
      subst (λ n. slice_get (y ∷ ys) n ≡ Some x) (ap (λ z. z.0) same) (ap Some (ap (λ z. z.1) same))
  here_or_later p y ys i x next false k = later p y ys i x next (find_place p ys) refl k

  pub found_at : (p : X → Bool) (xs : List X) (i : ℕ) (x : X) → find_place p xs ≡ Some (i, x) → slice_get xs i ≡ Some x
  found_at p [] i x e = absurd (let n : None ≡ Some (i, x) = e in cc)
  found_at p (y ∷ ys) i x e = here_or_later p y ys i x (λ j z. found_at p ys j z) (p y) e

pub get_map : {X Y : Type 0} (f : X → Y) (xs : List X) (i : ℕ) (y : Y) → slice_get (map f xs) i ≡ Some y
    → (x : X) × (slice_get xs i ≡ Some x) × (f x ≡ y)
get_map f [] i y e = absurd (let n : None ≡ Some y = e in cc)
get_map f (x ∷ xs) zero y e = (x, refl, cc)
get_map f (x ∷ xs) (suc i) y e = get_map f xs i y e

pub times-append : (row x : ℕ) (ps qs : List (ℕ × ℕ)) → tally row x (ps ++ qs) ≡ tally row x ps + tally row x qs
times-append row x [] qs = omega arith
times-append row x (p ∷ ps) qs = let h = times-append row x ps qs in omega arith

pub once_below_one : (x n : ℕ) → once_below x n ≤ 1
once_below_one x n = grind (arith, nat_tests)

pub once_below_more : (x n m : ℕ) → n ≤ m → once_below x n ≤ once_below x m
once_below_more x n m h = grind (arith, nat_tests)

pub once_below_last : (x n : ℕ) → n ≡ x → 1 + once_below x n ≤ once_below x (n + 1)
once_below_last x n h = grind (arith, nat_tests)

pub once_below_yes : (x n : ℕ) → x < n → once_below x n ≡ 1
once_below_yes x n h = grind (arith, nat_tests)

eqb-eq : (m n : ℕ) → eqb m n ≡ true → m ≡ n
eqb-eq m n e = grind (arith, nat_tests)

-- the pair is x of the row, or it is not
pub is_pair : (row x : ℕ) (p : ℕ × ℕ) → ((p.0 ≡ row) × (p.1 ≡ x) × (one_if ((p.0 == row) && (p.1 == x)) ≡ 1))
    ⊎ (one_if ((p.0 == row) && (p.1 == x)) ≡ 0)
is_pair row x p = go (eqb p.0 row) (eqb p.1 x) refl refl
  where
    go : (a b : Bool) → eqb p.0 row ≡ a → eqb p.1 x ≡ b
        → ((p.0 ≡ row) × (p.1 ≡ x) × ((let n : ℕ = if a && b then 1 else 0 in n) ≡ 1))
        ⊎ ((let n : ℕ = if a && b then 1 else 0 in n) ≡ 0)
    go true true e f = inl (eqb-eq p.0 row e, eqb-eq p.1 x f, refl)
    go true false e f = inr refl
    go false true e f = inr refl
    go false false e f = inr refl

pub same_pair : (p : ℕ × ℕ) → one_if ((p.0 == p.0) && (p.1 == p.1)) ≡ 1
same_pair p = rw (eq-eqb p.0 p.0 refl, eq-eqb p.1 p.1 refl) refl

-- a search that ended at a place, and one that found nothing
pub found_first : {X : Type 0} (p : X → Bool) (xs : List X) (i : ℕ) (x : X) → i < length xs → x ≡ get_or xs i x
    → p x ≡ true → ((j : ℕ) (d : X) → j < i → p (get_or xs j d) ≡ false) → find_place p xs ≡ Some (i, x)
found_first p [] i x b is hit miss = absurd (omega arith)
found_first p (y ∷ ys) zero x b is hit miss = let h : p y ≡ true = ap p (sym is) ∙ hit in
    rw h (ap (λ z. Some (0, z)) (sym is))
found_first p (y ∷ ys) (suc i) x b is hit miss =
    let h : p y ≡ false = miss 0 y (omega arith) in
    rw h (ap further (found_first p ys i x (omega arith) is hit (λ j d c. miss (suc j) d (omega arith))))

pub not_found : {X : Type 0} (p : X → Bool) (xs : List X)
    → ((j : ℕ) (d : X) → j < length xs → p (get_or xs j d) ≡ false) → find_place p xs ≡ None
not_found p [] miss = refl
not_found p (y ∷ ys) miss =
    let h : p y ≡ false = miss 0 y (omega arith) in
    rw h (ap further (not_found p ys (λ j d c. miss (suc j) d (omega arith))))

-- a list that was changed in place
pub mapped : {X : Type 0} (f : X → X) (xs ys : List X) → length ys ≡ length xs
    → ((j : ℕ) (d : X) → j < length xs → get_or ys j d ≡ f (get_or xs j d)) → ys ≡ map f xs
mapped f [] [] l h = refl
mapped f [] (y ∷ ys) l h = absurd (omega arith)
mapped f (x ∷ xs) [] l h = absurd (omega arith)
mapped f (x ∷ xs) (y ∷ ys) l h =
    let head : y ≡ f x = h 0 x (omega arith) in let tail : ys ≡ map f xs =
    mapped f xs ys (omega arith) (λ j d c. h (suc j) d (omega arith)) in
    λ k. head k ∷ tail k

-- one more place of it
pub mapped_more : {X : Type 0} (f : X → X) (xs ys : List X) (i : ℕ) (y : X) → length ys ≡ length xs → i < length xs
    → ((d : X) → y ≡ f (get_or ys i d))
    → ((j : ℕ) (d : X) → j < i → get_or ys j d ≡ f (get_or xs j d))
    → ((j : ℕ) (d : X) → i ≤ j → get_or ys j d ≡ get_or xs j d)
    → ((j : ℕ) (d : X) → j < i + 1 → get_or (set ys i y) j d ≡ f (get_or xs j d))
    × ((j : ℕ) (d : X) → i + 1 ≤ j → get_or (set ys i y) j d ≡ get_or xs j d)
mapped_more f xs ys i y l b is done rest = (
  (λ j d c. dite (ℕ_discrete j i)
      (λ e. rw e (get_or-set_same ys i y d (omega arith) ∙ (is d ∙ ap f (rest i d (omega arith)))))
      (λ n. get_or-set_other ys i j y d n ∙ done j d (omega arith))),
  (λ j d c. get_or-set_other ys i j y d (λ e. omega arith) ∙ rest j d (omega arith)),
)

-- a place that was found is in the list
pub place_below : {X : Type 0} (xs : List X) (i : ℕ) (x : X) → slice_get xs i ≡ Some x → i < length xs
place_below [] i x e = absurd (let n : None ≡ Some x = e in cc)
place_below (y ∷ ys) zero x e = omega arith
place_below (y ∷ ys) (suc i) x e = let h = place_below ys i x e in omega arith

pub place_value : {X : Type 0} (xs : List X) (i : ℕ) (x d : X) → slice_get xs i ≡ Some x → get_or xs i d ≡ x
place_value [] i x d e = absurd (let n : None ≡ Some x = e in cc)
place_value (y ∷ ys) zero x d e = some_same e
place_value (y ∷ ys) (suc i) x d e = place_value ys i x d e

pub place_there : {X : Type 0} (xs : List X) (i : ℕ) (x : X) → i < length xs → x ≡ get_or xs i x
    → slice_get xs i ≡ Some x
place_there [] i x b e = absurd (omega arith)
place_there (y ∷ ys) zero x b e = ap Some (sym e)
place_there (y ∷ ys) (suc i) x b e = place_there ys i x (omega arith) e

pub place_past : {X : Type 0} (xs : List X) (i : ℕ) → length xs ≤ i → slice_get xs i ≡ None
place_past [] i b = refl
place_past (y ∷ ys) zero b = absurd (omega arith)
place_past (y ∷ ys) (suc i) b = place_past ys i (omega arith)

pub length-mapped : {X Y : Type 0} (f : X → Y) (xs : List X) → length (map f xs) ≡ length xs
length-mapped f [] = refl
length-mapped f (x ∷ xs) = ap suc (length-mapped f xs)

-- one more place that fails
pub more_places : {X : Type 0} (p : X → Bool) (xs : List X) (i : ℕ) (x : X) → i < length xs → x ≡ get_or xs i x
    → p x ≡ false → ((j : ℕ) (d : X) → j < i → p (get_or xs j d) ≡ false)
    → (j : ℕ) (d : X) → j < i + 1 → p (get_or xs j d) ≡ false
more_places p xs i x b is miss before j d c = dite (ℕ_discrete j i)
    (λ e. rw e (ap p (place_value xs i x d (place_there xs i x b is)) ∙ miss)) (λ n. before j d (omega arith))
