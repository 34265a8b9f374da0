-- Who holds the turn, where one view changes and at most one holds it.
use Rattle.std.proofs.Common.{◌≡◌, ℕ, zero, suc, ◌+◌, ◌<◌, ◌≤◌, true, false, Bool, List, [], ◌∷◌, ◌++◌, set, sym, refl}
use Rattle.std.proofs.Common.{ap, ◌∙◌, arith, Some, None, Option, slice_get, if◌then◌else◌}
use Rattle.counter_table.specs.declared.view.View.{View}
use Rattle.sdls_base.specs.Numbers.{one_if, total}
use Rattle.sdls_world.proofs.Places.{some_same, total_at}
use Rattle.law_counters.specs.Scene.{holder_from}

-- how many hold the turn
abbrev pub holders : List View → ℕ
holders vs = total (λ (v : View). one_if v.turn.holds) vs

pub holder_same : (n i : ℕ) (vs : List View) (v w : View) → slice_get vs i ≡ Some v → w.turn.holds ≡ v.turn.holds
    → holder_from n (set vs i w) ≡ holder_from n vs
holder_same n i [] v w e same = refl
holder_same n zero (u ∷ vs) v w e same =
    let is : u ≡ v = some_same e in
    ap (λ (b : Bool). if b then Some n else holder_from (suc n) vs) (same ∙ ap (λ (k : View). k.turn.holds) (sym is))
holder_same n (suc i) (u ∷ vs) v w e same =
    ap (λ (o : Option ℕ). if u.turn.holds then Some n else o) (holder_same (suc n) i vs v w e same)

pub holder-snoc : (n : ℕ) (vs : List View) (w : View) → w.turn.holds ≡ false
    → holder_from n (vs ++ w ∷ []) ≡ holder_from n vs
holder-snoc n [] w free = rw free refl
holder-snoc n (u ∷ vs) w free =
    ap (λ (o : Option ℕ). if u.turn.holds then Some n else o) (holder-snoc (suc n) vs w free)

one_of : (b : Bool) → b ≡ true → one_if b ≡ 1
one_of b e = ap one_if e

-- nobody holds the turn
pub nobody : (n : ℕ) (vs : List View) → holders vs ≡ 0 → holder_from n vs ≡ None
nobody n [] none = refl
nobody n (u ∷ vs) none = by_test u.turn.holds refl (nobody (suc n) vs (omega arith)) where
  by_test : (b : Bool) → u.turn.holds ≡ b → holder_from (suc n) vs ≡ None
      → (if b then Some n else holder_from (suc n) vs) ≡ None
  by_test true h rest = absurd (let one = one_of u.turn.holds h in omega arith)
  by_test false h rest = rest

-- somebody holds it
pub somebody : (n : ℕ) (vs : List View) → 0 < holders vs → (id : ℕ) × (holder_from n vs ≡ Some id)
somebody n [] some = absurd (omega arith)
somebody n (u ∷ vs) some = by_test u.turn.holds refl (somebody (suc n) vs) where
  by_test : (b : Bool) → u.turn.holds ≡ b → (0 < holders vs → (id : ℕ) × (holder_from (suc n) vs ≡ Some id))
      → (id : ℕ) × ((if b then Some n else holder_from (suc n) vs) ≡ Some id)
  by_test true h rest = (n, refl)
  by_test false h rest = rest (let none : one_if u.turn.holds ≡ 0 = ap one_if h in omega arith)

-- who holds it alone is found
pub holder_found : (n i : ℕ) (vs : List View) (v : View) → slice_get vs i ≡ Some v → v.turn.holds ≡ true
    → holders vs ≤ 1 → holder_from n vs ≡ Some (n + i)
holder_found n i [] v e holds one = absurd (let none : None ≡ Some v = e in cc)
holder_found n zero (u ∷ vs) v e holds one =
    let z : n ≡ n + 0 = omega arith in
    let is : u ≡ v = some_same e in
    let here : u.turn.holds ≡ true = ap (λ (k : View). k.turn.holds) is ∙ holds in
    ap (λ (b : Bool). if b then Some n else holder_from (suc n) vs) here ∙ ap (λ (k : ℕ). Some k) z
holder_found n (suc i) (u ∷ vs) v e holds one =
    by_test u.turn.holds refl (holder_found (suc n) i vs v e holds (omega arith)) where
      by_test : (b : Bool) → u.turn.holds ≡ b → holder_from (suc n) vs ≡ Some (suc n + i)
          → (if b then Some n else holder_from (suc n) vs) ≡ Some (n + suc i)
      by_test true h rest =
          let here = one_of u.turn.holds h in let there = one_of v.turn.holds holds in
          let more = total_at (λ (k : View). one_if k.turn.holds) vs i v e in absurd (omega arith)
      by_test false h rest = let z : suc n + i ≡ n + suc i = omega arith in rest ∙ ap (λ (k : ℕ). Some k) z

-- who takes a free turn holds it
pub holder_taken : (n i : ℕ) (vs : List View) (v w : View) → slice_get vs i ≡ Some v → w.turn.holds ≡ true
    → holders vs ≡ 0 → holder_from n (set vs i w) ≡ Some (n + i)
holder_taken n i [] v w e holds none = absurd (let no : None ≡ Some v = e in cc)
holder_taken n zero (u ∷ vs) v w e holds none = let z : n ≡ n + 0 = omega arith in rw holds (ap (λ (k : ℕ). Some k) z)
holder_taken n (suc i) (u ∷ vs) v w e holds none =
    by_test u.turn.holds refl (holder_taken (suc n) i vs v w e holds (omega arith)) where
      by_test : (b : Bool) → u.turn.holds ≡ b → holder_from (suc n) (set vs i w) ≡ Some (suc n + i)
          → (if b then Some n else holder_from (suc n) (set vs i w)) ≡ Some (n + suc i)
      by_test true h rest = absurd (let here = one_of u.turn.holds h in omega arith)
      by_test false h rest = let z : suc n + i ≡ n + suc i = omega arith in rest ∙ ap (λ (k : ℕ). Some k) z

-- once the only holder gave it back, nobody holds it
pub holder_freed : (n i : ℕ) (vs : List View) (v w : View) → slice_get vs i ≡ Some v → v.turn.holds ≡ true
    → w.turn.holds ≡ false → holders vs ≤ 1
    → holder_from n (set vs i w) ≡ None
holder_freed n i [] v w e holds free one = refl
holder_freed n zero (u ∷ vs) v w e holds free one =
    let is : u ≡ v = some_same e in
    let here = one_of u.turn.holds (ap (λ (k : View). k.turn.holds) is ∙ holds) in
    rw free (nobody (suc n) vs (omega arith))
holder_freed n (suc i) (u ∷ vs) v w e holds free one =
    by_test u.turn.holds refl (holder_freed (suc n) i vs v w e holds free (omega arith)) where
      by_test : (b : Bool) → u.turn.holds ≡ b → holder_from (suc n) (set vs i w) ≡ None
          → (if b then Some n else holder_from (suc n) (set vs i w)) ≡ None
      by_test true h rest =
          let here = one_of u.turn.holds h in let there = one_of v.turn.holds holds in
          let more = total_at (λ (k : View). one_if k.turn.holds) vs i v e in absurd (omega arith)
      by_test false h rest = rest
