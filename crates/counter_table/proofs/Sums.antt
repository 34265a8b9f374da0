-- Sums and greatest values over all workers, and over lists of pairs.
use Rattle.std.proofs.Common.{◌≡◌, ◌≢◌, ℕ, zero, suc, ◌+◌, ◌<◌, ◌≤◌, max, eqb, false, List, [], ◌∷◌, ◌++◌, set, length}
use Rattle.std.proofs.Common.{sym, refl, ap, subst, ⊎_elim, arith, eq-eqb, if◌then◌else◌, ◌==◌}
use mathlib.Core.Option.{some, some-injective, some-ne-none}
use lib.ListN.{get_elem?}
use Rattle.atomic_table.proofs.Lists.{at_set, at_snoc}
use Rattle.sdls_base.specs.Numbers.{tally, total}
use Rattle.counter_table.specs.Numbers.{count_of, amount, top}
use Rattle.counter_table.specs.Rule.{greatest}

pub at_below : {V : Type 0} (xs : List V) (i : ℕ) (v : V) → get_elem? xs i ≡ some v → i < length xs
at_below [] i v e = absurd (some-ne-none v (sym e))
at_below (x ∷ xs) zero v e = omega arith
at_below (x ∷ xs) (suc i) v e = let h = at_below xs i v e in omega arith

module _ {V : Type 0} (f : V → ℕ) where
  pub total-append : (xs ys : List V) → total f (xs ++ ys) ≡ total f xs + total f ys
  total-append [] ys = omega arith
  total-append (x ∷ xs) ys = omega (arith, total-append xs ys)

  pub total_set : (xs : List V) (i : ℕ) (v w : V) → get_elem? xs i ≡ some v
      → total f (set xs i w) + f v ≡ total f xs + f w
  total_set [] i v w e = absurd (some-ne-none v (sym e))
  total_set (x ∷ xs) zero v w e = let h : f x ≡ f v = ap f (some-injective x v e) in omega arith
  total_set (x ∷ xs) (suc i) v w e = let h = total_set xs i v w e in omega arith

  pub total_at : (xs : List V) (i : ℕ) (v : V) → get_elem? xs i ≡ some v → f v ≤ total f xs
  total_at [] i v e = absurd (some-ne-none v (sym e))
  total_at (x ∷ xs) zero v e = let h : f x ≡ f v = ap f (some-injective x v e) in omega arith
  total_at (x ∷ xs) (suc i) v e = let h = total_at xs i v e in omega arith

  pub total_two : (xs : List V) (i j : ℕ) (v w : V) → get_elem? xs i ≡ some v → get_elem? xs j ≡ some w → i ≢ j
      → f v + f w ≤ total f xs
  total_two [] i j v w a b n = absurd (some-ne-none v (sym a))
  total_two (x ∷ xs) zero zero v w a b n = absurd (n refl)
  total_two (x ∷ xs) zero (suc j) v w a b n = let h : f x ≡ f v = ap f (some-injective x v a) in
      let k = total_at xs j w b in omega arith
  total_two (x ∷ xs) (suc i) zero v w a b n = let h : f x ≡ f w = ap f (some-injective x w b) in
      let k = total_at xs i v a in omega arith
  total_two (x ∷ xs) (suc i) (suc j) v w a b n = let h = total_two xs i j v w a b (λ e. n (ap suc e)) in omega arith

  pub total_none : (xs : List V) → ((i : ℕ) (v : V) → get_elem? xs i ≡ some v → f v ≡ 0) → total f xs ≡ 0
  total_none [] h = refl
  total_none (x ∷ xs) h = let a = h 0 x refl in let b = total_none xs (λ i. h (suc i)) in omega arith

  -- a sum to which one worker alone adds
  pub total_only : (xs : List V) (i : ℕ) (v : V) → get_elem? xs i ≡ some v
      → ((j : ℕ) (w : V) → get_elem? xs j ≡ some w → j ≢ i → f w ≡ 0) → total f xs ≡ f v
  total_only [] i v e h = absurd (some-ne-none v (sym e))
  total_only (x ∷ xs) zero v e h =
      let a : f x ≡ f v = ap f (some-injective x v e) in
      let b = total_none xs (λ j w k. h (suc j) w k (λ z. omega arith)) in omega arith
  total_only (x ∷ xs) (suc i) v e h =
      let a : f x ≡ 0 = h 0 x refl (λ z. omega arith) in
      let b = total_only xs i v e (λ j w k n. h (suc j) w k (λ z. n (omega arith))) in omega arith

  pub greatest_at : (xs : List V) (i : ℕ) (v : V) → get_elem? xs i ≡ some v → f v ≤ greatest f xs
  greatest_at [] i v e = absurd (some-ne-none v (sym e))
  greatest_at (x ∷ xs) zero v e = let h : f x ≡ f v = ap f (some-injective x v e) in omega arith
  greatest_at (x ∷ xs) (suc i) v e = let h = greatest_at xs i v e in omega arith

  pub greatest_least : (xs : List V) (m : ℕ) → ((i : ℕ) (v : V) → get_elem? xs i ≡ some v → f v ≤ m) → greatest f xs ≤ m
  greatest_least [] m h = omega arith
  greatest_least (x ∷ xs) m h = let a = h 0 x refl in let b = greatest_least xs m (λ i. h (suc i)) in omega arith

module _ {V : Type 0} (f g : V → ℕ) where
  pub total_less : (xs : List V) → ((i : ℕ) (v : V) → get_elem? xs i ≡ some v → f v ≤ g v) → total f xs ≤ total g xs
  total_less [] h = omega arith
  total_less (x ∷ xs) h = let a = h 0 x refl in let b = total_less xs (λ i. h (suc i)) in omega arith

pub times-append : (row x : ℕ) (ps qs : List (ℕ × ℕ)) → tally row x (ps ++ qs) ≡ tally row x ps + tally row x qs
times-append row x [] qs = omega arith
times-append row x (p ∷ ps) qs = let h = times-append row x ps qs in omega arith

pub count_of-append : (row : ℕ) (ps qs : List (ℕ × ℕ)) → count_of row (ps ++ qs) ≡ count_of row ps + count_of row qs
count_of-append row [] qs = omega arith
count_of-append row (p ∷ ps) qs = let h = count_of-append row ps qs in omega arith

pub amount-append : (row : ℕ) (ps qs : List (ℕ × ℕ)) → amount row (ps ++ qs) ≡ amount row ps + amount row qs
amount-append row [] qs = omega arith
amount-append row (p ∷ ps) qs = let h = amount-append row ps qs in omega arith

pub top-append : (row : ℕ) (ps qs : List (ℕ × ℕ)) → top row (ps ++ qs) ≡ max (top row ps) (top row qs)
top-append row [] qs = omega arith
top-append row (p ∷ ps) qs = let h = top-append row ps qs in omega arith

-- one more pair, of this row
module _ (row n : ℕ) (ps : List (ℕ × ℕ)) where
  pub times_here : (x : ℕ) → tally row x (ps ++ (row, n) ∷ []) ≡ tally row x ps + (if n == x then 1 else 0)
  times_here x = rw (times-append row x ps ((row, n) ∷ []), eq-eqb row row refl) (omega arith)

  pub count_of_here : count_of row (ps ++ (row, n) ∷ []) ≡ count_of row ps + 1
  count_of_here = rw (count_of-append row ps ((row, n) ∷ []), eq-eqb row row refl) (omega arith)

  pub amount_here : amount row (ps ++ (row, n) ∷ []) ≡ amount row ps + n
  amount_here = rw (amount-append row ps ((row, n) ∷ []), eq-eqb row row refl) (omega arith)

  pub top_here : top row (ps ++ (row, n) ∷ []) ≡ max (top row ps) n
  top_here = rw (top-append row ps ((row, n) ∷ []), eq-eqb row row refl) (omega arith)

-- one more pair, of another row
module _ (row r n : ℕ) (apart : eqb r row ≡ false) (ps : List (ℕ × ℕ)) where
  pub times_else : (x : ℕ) → tally row x (ps ++ (r, n) ∷ []) ≡ tally row x ps
  times_else x = rw (times-append row x ps ((r, n) ∷ []), apart) (omega arith)

  pub count_of_else : count_of row (ps ++ (r, n) ∷ []) ≡ count_of row ps
  count_of_else = rw (count_of-append row ps ((r, n) ∷ []), apart) (omega arith)

  pub amount_else : amount row (ps ++ (r, n) ∷ []) ≡ amount row ps
  amount_else = rw (amount-append row ps ((r, n) ∷ []), apart) (omega arith)

  pub top_else : top row (ps ++ (r, n) ∷ []) ≡ top row ps
  top_else = rw (top-append row ps ((r, n) ∷ []), apart) (omega arith)

-- what each of the workers is, after one of them changed, and after one came
module _ {V : Type 0} (P : V → Type 0) (views : List V) where
  pub each_set : (id : ℕ) (w : V) → P w → ((j : ℕ) (u : V) → get_elem? views j ≡ some u → P u) → (j : ℕ) (u : V)
      → get_elem? (set views id w) j ≡ some u → P u
  each_set id w new each j u e = ⊎_elim (λ k. subst P k.1 new) (λ k. each j u k.1) (at_set views id j w u e)

  pub each_snoc : (w : V) → P w → ((j : ℕ) (u : V) → get_elem? views j ≡ some u → P u) → (j : ℕ) (u : V)
      → get_elem? (views ++ w ∷ []) j ≡ some u → P u
  each_snoc w new each j u e = ⊎_elim (each j u) (λ k. subst P k new) (at_snoc views w u j e)

  pub each_apart : (id : ℕ) (w : V) → P w → ((j : ℕ) (u : V) → get_elem? views j ≡ some u → j ≢ id → P u)
      → (j : ℕ) (u : V) → get_elem? (set views id w) j ≡ some u → P u
  each_apart id w new each j u e = ⊎_elim (λ k. subst P k.1 new) (λ k. each j u k.1 k.0) (at_set views id j w u e)

pub zero_of : (n : ℕ) → (0 < n → ⊥) → n ≡ 0
zero_of zero h = refl
zero_of (suc n) h = absurd (h (omega arith))
