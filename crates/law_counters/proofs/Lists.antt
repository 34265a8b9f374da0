-- Keys and actors of a world, where one word, one mark or one view changes.
use Rattle.std.proofs.Common.{◌≡◌, ◌≢◌, ℕ, zero, suc, ◌+◌, ◌≤◌, eqb, false, ◌==◌, List, [], ◌∷◌, ◌++◌, set, length, sym}
use Rattle.std.proofs.Common.{refl, ap, ◌∙◌, subst, arith, Some, None, slice_get, slice_index, eq-eqb}
use Rattle.std.proofs.lemmas.Bool.Decides.{nat_tests}
use Rattle.counter_table.specs.declared.view.Known.{Known}
use Rattle.counter_table.specs.declared.view.View.{View}
use Rattle.counter_table.specs.Known.{known_mark}
use Rattle.counter_table.specs.Rule.{next_at, limit_at}
use Rattle.sdls_world.specs.declared.world.Key.{Key}
use Rattle.sdls_world.specs.Core.{Doer, find_place, further}
use Rattle.sdls_world.proofs.Places.{some_same}
use Rattle.law_counters.specs.Scene.{doer, doers, key_at, keys_from}

-- the same words and the same mark make the same key
pub key_same : (words words' : List ℕ) (book book' : Known) (row id : ℕ)
    → slice_index words' (next_at row) ≡ slice_index words (next_at row)
    → slice_index words' (limit_at row) ≡ slice_index words (limit_at row) → known_mark book' row ≡ known_mark book row
    → key_at words' book' row id ≡ key_at words book row id
key_same words words' book book' row id next limit mark =
    λ j. record { id = id; next = next j; limit = limit j; mark = mark j; durable = mark j }

module _ (words words' : List ℕ) (book book' : Known) where
  pub keys_same : (n : ℕ) (ids : List ℕ)
      → ((row id : ℕ) → n ≤ row → key_at words' book' row id ≡ key_at words book row id)
      → keys_from words' book' n ids ≡ keys_from words book n ids
  keys_same n [] each = refl
  keys_same n (id ∷ ids) each =
      let head = each n id (omega arith) in
      let tail = keys_same (suc n) ids (λ row key above. each row key (omega arith)) in
      λ j. head j ∷ tail j

  -- the key of one row changed
  pub keys_set : (n i : ℕ) (ids : List ℕ) (key : ℕ) (k : Key) → slice_get ids i ≡ Some key
      → key_at words' book' (n + i) key ≡ k
      → ((row id : ℕ) → row ≢ n + i → key_at words' book' row id ≡ key_at words book row id)
      → keys_from words' book' n ids ≡ set (keys_from words book n ids) i k
  keys_set n i [] key k e here others = absurd (let none : None ≡ Some key = e in cc)
  keys_set n zero (id ∷ ids) key k e here others =
      let z : n + 0 ≡ n = omega arith in
      let is : id ≡ key = some_same e in
      let head : key_at words' book' n id ≡ k =
      ap (λ (m : ℕ). key_at words' book' n m) is ∙ subst (λ (m : ℕ). key_at words' book' m key ≡ k) z here in
      let tail = keys_same (suc n) ids (λ row q above. others row q (λ h. omega arith)) in
      λ j. head j ∷ tail j
  keys_set n (suc i) (id ∷ ids) key k e here others =
      let z : n + suc i ≡ suc n + i = omega arith in
      let head = others n id (λ h. omega arith) in
      let tail = keys_set (suc n) i ids key k e (subst (λ (m : ℕ). key_at words' book' m key ≡ k) z here)
      (λ row q apart. others row q (λ h. apart (omega arith))) in
      λ j. head j ∷ tail j

module _ (words : List ℕ) (book : Known) where
  pub key_there : (n i : ℕ) (ids : List ℕ) (key : ℕ) → slice_get ids i ≡ Some key
      → slice_get (keys_from words book n ids) i ≡ Some (key_at words book (n + i) key)
  key_there n i [] key e = absurd (let none : None ≡ Some key = e in cc)
  key_there n zero (id ∷ ids) key e =
      let z : n ≡ n + 0 = omega arith in
      let is : id ≡ key = some_same e in
      ap (λ (m : ℕ). Some (key_at words book n m)) is ∙ ap (λ (m : ℕ). Some (key_at words book m key)) z
  key_there n (suc i) (id ∷ ids) key e =
      let z : suc n + i ≡ n + suc i = omega arith in
      key_there (suc n) i ids key e ∙ ap (λ (m : ℕ). Some (key_at words book m key)) z

  -- where identifiers differ, the key is found at its row
  pub key_found : (n i : ℕ) (ids : List ℕ) (key : ℕ) → slice_get ids i ≡ Some key
      → ((a b id : ℕ) → slice_get ids a ≡ Some id → slice_get ids b ≡ Some id → a ≡ b)
      → find_place (λ k. k.id == key) (keys_from words book n ids) ≡ Some (i, key_at words book (n + i) key)
  key_found n i [] key e apart = absurd (let none : None ≡ Some key = e in cc)
  key_found n zero (id ∷ ids) key e apart =
      let z : n ≡ n + 0 = omega arith in
      let is : id ≡ key = some_same e in
      rw (eq-eqb id key is) (ap (λ (m : ℕ). Some (0, key_at words book n m)) is
      ∙ ap (λ (m : ℕ). Some (0, key_at words book m key)) z)
  key_found n (suc i) (id ∷ ids) key e apart =
      let z : suc n + i ≡ n + suc i = omega arith in
      let other : eqb id key ≡ false = differ id key (λ same. let h = apart 0 (suc i) key (ap Some same) e in
      omega arith) in
      rw other (ap further (key_found (suc n) i ids key e (λ a b q x y. let h = apart (suc a) (suc b) q x y in
      omega arith))
      ∙ ap (λ (m : ℕ). Some (suc i, key_at words book m key)) z) where
        differ : (a b : ℕ) → a ≢ b → eqb a b ≡ false
        differ a b h = grind (arith, nat_tests)

pub doers_set : (n i : ℕ) (vs : List View) (v w : View) → slice_get vs i ≡ Some v
    → doers n (set vs i w) ≡ set (doers n vs) i (doer (n + i) w.numbers)
doers_set n i [] v w e = refl
doers_set n zero (u ∷ vs) v w e = let z : n ≡ n + 0 = omega arith in
    ap (λ (k : ℕ). doer k w.numbers ∷ doers (suc n) vs) z
doers_set n (suc i) (u ∷ vs) v w e =
    let z : suc n + i ≡ n + suc i = omega arith in
    ap (λ (ds : List Doer). doer n u.numbers ∷ ds)
    (doers_set (suc n) i vs v w e ∙ ap (λ (k : ℕ). set (doers (suc n) vs) i (doer k w.numbers)) z)

-- a view of the same actor changes nothing
pub doers_same : (n i : ℕ) (vs : List View) (v w : View) → slice_get vs i ≡ Some v
    → doer (n + i) w.numbers ≡ doer (n + i) v.numbers
    → doers n (set vs i w) ≡ doers n vs
doers_same n i [] v w e same = refl
doers_same n zero (u ∷ vs) v w e same =
    let z : n + 0 ≡ n = omega arith in
    let is : u ≡ v = some_same e in
    let here : doer n w.numbers ≡ doer n v.numbers = subst (λ (m : ℕ). doer m w.numbers ≡ doer m v.numbers) z same in
    ap (λ (d : Doer). d ∷ doers (suc n) vs) (here ∙ ap (λ (k : View). doer n k.numbers) (sym is))
doers_same n (suc i) (u ∷ vs) v w e same =
    let z : n + suc i ≡ suc n + i = omega arith in
    ap (λ (ds : List Doer). doer n u.numbers ∷ ds)
    (doers_same (suc n) i vs v w e (subst (λ (m : ℕ). doer m w.numbers ≡ doer m v.numbers) z same))

pub doers-snoc : (n : ℕ) (vs : List View) (w : View)
    → doers n (vs ++ w ∷ []) ≡ doers n vs ++ doer (n + length vs) w.numbers ∷ []
doers-snoc n [] w = let z : n ≡ n + 0 = omega arith in ap (λ (k : ℕ). doer k w.numbers ∷ []) z
doers-snoc n (u ∷ vs) w =
    let z : suc n + length vs ≡ n + suc (length vs) = omega arith in
    ap (λ (ds : List Doer). doer n u.numbers ∷ ds)
    (doers-snoc (suc n) vs w ∙ ap (λ (k : ℕ). doers (suc n) vs ++ doer k w.numbers ∷ []) z)

-- the actor at a place is found by it, and so is one that took its place
pub doer_found : (n i : ℕ) (vs : List View) (v : View) (d : Doer) → slice_get vs i ≡ Some v → d.id ≡ n + i
    → find_place (λ a. a.id == (n + i)) (set (doers n vs) i d) ≡ Some (i, d)
doer_found n i [] v d e same = absurd (let none : None ≡ Some v = e in cc)
doer_found n zero (u ∷ vs) v d e same = rw (eq-eqb d.id (n + 0) same) refl
doer_found n (suc i) (u ∷ vs) v d e same =
    let z : suc n + i ≡ n + suc i = omega arith in
    let h : find_place (λ (a : Doer). a.id == (n + suc i)) (set (doers (suc n) vs) i d) ≡ Some (i, d) =
    subst (λ (m : ℕ). find_place (λ (a : Doer). a.id == m) (set (doers (suc n) vs) i d) ≡ Some (i, d)) z
    (doer_found (suc n) i vs v d e (same ∙ sym z)) in
    rw (apart n i, h) refl where
      apart : (m j : ℕ) → eqb m (m + suc j) ≡ false
      apart m j = grind (arith, nat_tests)

-- what stands at a place of the actors
pub doer_there : (n i : ℕ) (vs : List View) (d : Doer) → slice_get (doers n vs) i ≡ Some d
    → (v : View) × (slice_get vs i ≡ Some v) × (d ≡ doer (n + i) v.numbers)
doer_there n i [] d e = absurd (let none : None ≡ Some d = e in cc)
doer_there n zero (u ∷ vs) d e = let z : n ≡ n + 0 = omega arith in
    (u, refl, sym (some_same e) ∙ ap (λ (k : ℕ). doer k u.numbers) z)
doer_there n (suc i) (u ∷ vs) d e =
    let h = doer_there (suc n) i vs d e in
    let z : suc n + i ≡ n + suc i = omega arith in
    (h.0, h.1, h.2 ∙ ap (λ (k : ℕ). doer k h.0.numbers) z)

-- what stands at a place of the keys
pub key_from : (words : List ℕ) (book : Known) (n i : ℕ) (ids : List ℕ) (k : Key)
    → slice_get (keys_from words book n ids) i ≡ Some k
    → (id : ℕ) × (slice_get ids i ≡ Some id) × (k ≡ key_at words book (n + i) id)
key_from words book n i [] k e = absurd (let none : None ≡ Some k = e in cc)
key_from words book n zero (id ∷ ids) k e = let z : n ≡ n + 0 = omega arith in
    (id, refl, sym (some_same e) ∙ ap (λ (m : ℕ). key_at words book m id) z)
key_from words book n (suc i) (id ∷ ids) k e =
    let h = key_from words book (suc n) i ids k e in
    let z : suc n + i ≡ n + suc i = omega arith in
    (h.0, h.1, h.2 ∙ ap (λ (m : ℕ). key_at words book m h.0) z)

pub set_twice : {A : Type 0} (xs : List A) (i : ℕ) (a b : A) → set (set xs i a) i b ≡ set xs i b
set_twice [] i a b = refl
set_twice (x ∷ xs) zero a b = refl
set_twice (x ∷ xs) (suc i) a b = ap (λ ys. x ∷ ys) (set_twice xs i a b)

pub set_self : {A : Type 0} (xs : List A) (i : ℕ) (a : A) → slice_get xs i ≡ Some a → set xs i a ≡ xs
set_self [] i a e = refl
set_self (x ∷ xs) zero a e = ap (λ y. y ∷ xs) (sym (some_same e))
set_self (x ∷ xs) (suc i) a e = ap (λ ys. x ∷ ys) (set_self xs i a e)
