-- The answers of the lanes are placed in the order of the records.
use Rattle.std.proofs.Common.{◌≡◌, ◌≢◌, ℕ, zero, suc, ◌+◌, ◌<◌, List, [], ◌∷◌, ◌++◌, length, take, drop, get_or}
use Rattle.std.proofs.Common.{Bool, true, false, cond, Some, refl, sym, ◌∙◌, ap, subst, inl, inr, arith}
use Rattle.std.proofs.Common.{add-one, set, length-append}
use Rattle.std.specs.List.{All, Contains, slice_get, slice_index_or}
use Rattle.std.specs.Vec.Iter.{into_iter_items}
use Rattle.std.specs.declared.vec.IntoIter.{IntoIter}
use Rattle.std.proofs.lemmas.Bool.{cases_eq}
use Rattle.std.proofs.lemmas.Bool.Decides.{nat_tests}
use Rattle.std.proofs.lemmas.List.{length-take}
use Rattle.std.proofs.lemmas.List.Elements.{All-push, All-head, All-tail}
use Rattle.std.proofs.Math.Seq.{take-suc, drop-cons}
use Rattle.record_io.specs.declared.item_cursor.Record.{Record}
use Rattle.record_io.specs.declared.answers.Answer.{Answer}
use Rattle.run_promise.specs.Deed.{Deed, deed_of}
use Rattle.law_workers.specs.Deeds.{deeds_of}
use Rattle.law_workers.specs.Lanes.{is_of_lane, of_lane}
use Rattle.frame_workers.specs.Lanes.{left_at, AreAmong}
use Rattle.frame_workers.proofs.Steps.{deeds_step, lane_own, lane_other}

module _ {A : Type 0} where
  -- the answers of a lane are set
  pub left_set : (parts : List (IntoIter Answer A)) (i : ℕ) (left : IntoIter Answer A) → i < length parts
      → left_at i (set parts i left) ≡ into_iter_items left
  left_set [] i left low = absurd (omega arith)
  left_set (p ∷ parts) zero left low = refl
  left_set (p ∷ parts) (suc i) left low = left_set parts i left (omega arith)

  pub left_other : (parts : List (IntoIter Answer A)) (i n : ℕ) (left : IntoIter Answer A) → n ≢ i
      → left_at n (set parts i left) ≡ left_at n parts
  left_other [] i n left off = refl
  left_other (p ∷ parts) zero zero left off = absurd (off refl)
  left_other (p ∷ parts) zero (suc n) left off = refl
  left_other (p ∷ parts) (suc i) zero left off = refl
  left_other (p ∷ parts) (suc i) (suc n) left off = left_other parts i n left (λ e. off (ap suc e))

  pub left_here : (parts : List (IntoIter Answer A)) (i : ℕ) (d : IntoIter Answer A) → i < length parts
      → left_at i parts ≡ into_iter_items (slice_index_or parts i d)
  left_here [] i d low = absurd (omega arith)
  left_here (p ∷ parts) zero d low = refl
  left_here (p ∷ parts) (suc i) d low = left_here parts i d (omega arith)

  -- one more, of which none are left
  pub left_push : (parts : List (IntoIter Answer A)) (left : IntoIter Answer A) → ((n : ℕ) → left_at n parts ≡ [])
      → into_iter_items left ≡ []
      → (n : ℕ) → left_at n (parts ++ left ∷ []) ≡ []
  left_push [] left h e zero = e
  left_push [] left h e (suc n) = refl
  left_push (p ∷ parts) left h e zero = h zero
  left_push (p ∷ parts) left h e (suc n) = left_push parts left (λ m. h (suc m)) e n

  -- the next answer is taken
  pub next_own : (parts : List (IntoIter Answer A)) (i : ℕ) (d left : IntoIter Answer A) (a : Answer) → i < length parts
      → into_iter_items (slice_index_or parts i d) ≡ a ∷ into_iter_items left
      → left_at i parts ≡ a ∷ left_at i (set parts i left)
  next_own parts i d left a low items =
      left_here parts i d low ∙ (items ∙ ap (λ (l : List Answer). a ∷ l) (sym (left_set parts i left low)))

-- an element at its place
pub got : {X : Type 0} (xs : List X) (k : ℕ) (x : X) → k < length xs → x ≡ get_or xs k x → slice_get xs k ≡ Some x
got [] k x low is = absurd (omega arith)
got (y ∷ xs) zero x low is = ap Some (sym is)
got (y ∷ xs) (suc k) x low is = got xs k x (omega arith) is

-- how many answers a lane has left
pub given_next : (rs : List Record) (k : ℕ) (r : Record) → r ≡ get_or rs k r → k < length rs
    → (n : ℕ) (before after : List Answer) (a : Answer)
    → (r.lane ≡ n → before ≡ a ∷ after) → (n ≢ r.lane → after ≡ before) → (total : ℕ)
    → length before + length (of_lane n (take k rs)) ≡ total → length after + length (of_lane n (take (k + 1) rs))
    ≡ total
given_next rs k r here within n before after a own other total h = elim (cases_eq r.lane n) [
  | inl is ↦
      let t : is_of_lane n r ≡ true = grind (arith, nat_tests) in
      let one = ap length (lane_own n rs k r here within t) ∙ length-append (of_lane n (take k rs)) (r ∷ []) in
      let two = ap length (own is) in omega arith
  | inr off ↦
      let f : is_of_lane n r ≡ false = grind (arith, nat_tests) in
      let one = ap length (lane_other n rs k r here within f) in
      let two = ap length (other (λ e. off (sym e))) in omega arith
]

module _ (deeds : List Deed) (s : ℕ) (rs : List Record) (k : ℕ) (r : Record) (here : r ≡ get_or rs k r)
    (within : k < length rs) where
  front : drop k rs ≡ r ∷ drop (suc k) rs
  front = drop-cons rs k r within ∙ ap (λ (z : Record). z ∷ drop (suc k) rs) (sym here)

  -- the lane of the next record gives its next answer
  pub own_next : (n : ℕ) (a : Answer) (ys : List Answer) → is_of_lane n r ≡ true
      → AreAmong deeds s n (drop k rs) (a ∷ ys)
      → Contains deeds (deed_of s r a) × AreAmong deeds s n (drop (suc k) rs) ys
  own_next n a ys is left =
      let lane : of_lane n (drop k rs) ≡ r ∷ of_lane n (drop (suc k) rs) =
      ap (of_lane n) front ∙ ap (λ (b : Bool). cond b (r ∷ of_lane n (drop (suc k) rs)) (of_lane n (drop (suc k) rs)))
      is in
      let all : All (Contains deeds) (deed_of s r a ∷ deeds_of s (of_lane n (drop (suc k) rs)) ys) =
      subst (λ (l : List Record). All (Contains deeds) (deeds_of s l (a ∷ ys))) lane left in (
        All-head (Contains deeds) (deed_of s r a) (deeds_of s (of_lane n (drop (suc k) rs)) ys) all,
        All-tail (Contains deeds) (deed_of s r a) (deeds_of s (of_lane n (drop (suc k) rs)) ys) all,
      )

  -- another lane has the same records left
  pub other_next : (n : ℕ) (ys : List Answer) → is_of_lane n r ≡ false → AreAmong deeds s n (drop k rs) ys
      → AreAmong deeds s n (drop (suc k) rs) ys
  other_next n ys is left =
      let lane : of_lane n (drop k rs) ≡ of_lane n (drop (suc k) rs) =
      ap (of_lane n) front ∙ ap (λ (b : Bool). cond b (r ∷ of_lane n (drop (suc k) rs)) (of_lane n (drop (suc k) rs)))
      is in
      subst (λ (l : List Record). All (Contains deeds) (deeds_of s l ys)) lane left

  -- the answer is placed
  pub placed_next : (xs : List Answer) (a : Answer) → length xs ≡ k → All (Contains deeds) (deeds_of s (take k rs) xs)
      → Contains deeds (deed_of s r a)
      → All (Contains deeds) (deeds_of s (take (k + 1) rs) (xs ++ a ∷ []))
  placed_next xs a size all one =
      let t = length-take k rs in
      let taken : take (k + 1) rs ≡ take k rs ++ r ∷ [] =
      ap (λ (n : ℕ). take n rs) (add-one k)
      ∙ (take-suc rs k r within ∙ ap (λ (z : Record). take k rs ++ z ∷ []) (sym here)) in
      let is : deeds_of s (take (k + 1) rs) (xs ++ a ∷ []) ≡ deeds_of s (take k rs) xs ++ deed_of s r a ∷ [] =
      ap (λ (l : List Record). deeds_of s l (xs ++ a ∷ [])) taken ∙ deeds_step s (take k rs) xs r a (omega arith) in
      subst (All (Contains deeds)) (sym is)
      (All-push (Contains deeds) (deeds_of s (take k rs) xs) (deed_of s r a) all one)

  -- what is left of each lane, after the record's own gave its next answer
  pub left_next : (before after : ℕ → List Answer) (a : Answer) → before r.lane ≡ a ∷ after r.lane
      → ((n : ℕ) → n ≢ r.lane → after n ≡ before n)
      → ((n : ℕ) → AreAmong deeds s n (drop k rs) (before n))
      → Contains deeds (deed_of s r a) × ((n : ℕ) → AreAmong deeds s n (drop (suc k) rs) (after n))
  left_next before after a own others left =
      let t : is_of_lane r.lane r ≡ true = grind (arith, nat_tests) in
      let first = own_next r.lane a (after r.lane) t (subst (AreAmong deeds s r.lane (drop k rs)) own (left r.lane)) in (
        first.0,
        λ n. elim (cases_eq r.lane n) [
          | inl is ↦ subst (λ (m : ℕ). AreAmong deeds s m (drop (suc k) rs) (after m)) is first.1
          | inr off ↦
              let f : is_of_lane n r ≡ false = grind (arith, nat_tests) in
              let same : after n ≡ before n = others n (λ e. off (sym e)) in
              subst (AreAmong deeds s n (drop (suc k) rs)) (sym same) (other_next n (before n) f (left n))
        ],
      )
