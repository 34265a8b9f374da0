-- A lane's records, handled one after the other.
use Rattle.std.proofs.Common.{◌≡◌, ℕ, zero, suc, eqb, eq-eqb, ◌+◌, ◌<◌, ◌≤◌, List, [], ◌∷◌, ◌++◌, length, take, drop}
use Rattle.std.proofs.Common.{get_or, Bool, true, false, cond, Some, refl, sym, ◌∙◌, ap, subst, arith, append_assoc}
use Rattle.std.proofs.Common.{append-nil, length-append}
use Rattle.std.specs.List.{All, filter, slice_get, slice_index_or}
use Rattle.std.proofs.lemmas.List.{take-append-drop, length-take, get_or_append_left, get_or-append-add, get_or_default}
use Rattle.std.proofs.Math.Seq.{drop-cons}
use Rattle.std.proofs.lemmas.List.Elements.{All-nil, All-cons, filter_more, filter-append}
use Rattle.std.proofs.lemmas.List.Kept.{AllPairs-filter}
use Rattle.counter_table.specs.declared.view.View.{View}
use Rattle.record_io.specs.declared.item_cursor.Record.{Record}
use Rattle.record_io.specs.declared.answers.Answer.{Answer}
use Rattle.run_promise.specs.Call.{Begin}
use Rattle.run_promise.specs.Deed.{Deed, deed_of}
use Rattle.law_workers.specs.Work.{indexed}
use Rattle.law_workers.specs.Deeds.{deeds_of, Ascend}
use Rattle.law_workers.specs.Order.{Layout, Handled, ComeBefore}
use Rattle.law_workers.specs.Lanes.{is_of_lane, of_lane}
use Rattle.law_workers.proofs.Handling.{handled_nothing, handled_then, record_indexed}

pub deeds_step : (s : ℕ) (ts : List Record) (xs : List Answer) (r : Record) (a : Answer) → length xs ≡ length ts
    → deeds_of s (ts ++ r ∷ []) (xs ++ a ∷ []) ≡ deeds_of s ts xs ++ deed_of s r a ∷ []
deeds_step s [] [] r a h = refl
deeds_step s [] (b ∷ xs) r a h = absurd (omega arith)
deeds_step s (t ∷ ts) [] r a h = absurd (omega arith)
deeds_step s (t ∷ ts) (b ∷ xs) r a h = ap (λ z. deed_of s t b ∷ z) (deeds_step s ts xs r a (omega arith))

pub deeds_short : (s : ℕ) (ts us : List Record) (xs : List Answer) → length xs ≡ length ts
    → deeds_of s (ts ++ us) xs ≡ deeds_of s ts xs
deeds_short s [] [] [] h = refl
deeds_short s [] (u ∷ us) [] h = refl
deeds_short s [] us (b ∷ xs) h = absurd (omega arith)
deeds_short s (t ∷ ts) us [] h = absurd (omega arith)
deeds_short s (t ∷ ts) us (b ∷ xs) h = ap (λ z. deed_of s t b ∷ z) (deeds_short s ts us xs (omega arith))

-- what is true of each record is true of each answered one
deeds_all : (P : Record → Type 0) (s : ℕ) (ts : List Record) (xs : List Answer) → All P ts
    → All (λ (d : Deed). P d.task) (deeds_of s ts xs)
deeds_all P s [] xs h = All-nil (λ (d : Deed). P d.task)
deeds_all P s (t ∷ ts) [] h = All-nil (λ (d : Deed). P d.task)
deeds_all P s (t ∷ ts) (a ∷ xs) h =
    All-cons (λ (d : Deed). P d.task) (deed_of s t a) (deeds_of s ts xs) (h 0 t (omega arith))
    (deeds_all P s ts xs (λ k d l. h (suc k) d (omega arith)))

-- of records that ascend, the first come before the others
pub first_before : (ts us : List Record) → Ascend (ts ++ us) → ComeBefore ts us
first_before ts us up i j a b =
    let (t, (p, low, here), is) = record_indexed i ts a in let (u, (q, low', here'), is') = record_indexed j us b in
    let size = length-append ts us in
    let less : (slice_index_or (ts ++ us) p t).index < (slice_index_or (ts ++ us) (length ts + q) t).index =
    up p (length ts + q) t (omega arith) (omega arith) in
    let one : slice_index_or (ts ++ us) p t ≡ t = get_or_append_left ts us t p low ∙ here in
    let two : slice_index_or (ts ++ us) (length ts + q) t ≡ u =
    get_or-append-add ts us q t ∙ (get_or_default us q t u low' ∙ here') in
    let c : t.index < (slice_index_or (ts ++ us) (length ts + q) t).index =
    subst (λ (x : Record). x.index < (slice_index_or (ts ++ us) (length ts + q) t).index) one less in
    let d : t.index < u.index = subst (λ (x : Record). t.index < x.index) two c in omega arith

module _ (layout : Layout) (begin : Begin) (u v w : View) (s : ℕ) (ts us : List Record) (r : Record) (xs : List Answer)
    (up : Ascend (ts ++ r ∷ us)) (size : length xs ≡ length ts) where
  below : All (λ (t : Record). t.index < r.index) ts
  below i d l =
      let whole = length-append ts (r ∷ us) in
      let less = up i (length ts + 0) d (omega arith) (omega arith) in
      let one : slice_index_or (ts ++ r ∷ us) i d ≡ slice_index_or ts i d = get_or_append_left ts (r ∷ us) d i l in
      let two : slice_index_or (ts ++ r ∷ us) (length ts + 0) d ≡ r = get_or-append-add ts (r ∷ us) 0 d in
      subst (λ (x : Record). (slice_index_or ts i d).index < x.index) two
      (subst (λ (x : Record). x.index < (slice_index_or (ts ++ r ∷ us) (length ts + 0) d).index) one less)

  before_one : ComeBefore ts (r ∷ [])
  before_one i j a b = first_before ts (r ∷ us) up i j a (omega arith)

  pub one_after : (a : Answer) → Handled layout begin u v ts (deeds_of s ts xs)
      → Handled layout begin v w (r ∷ []) (deed_of s r a ∷ [])
      → Handled layout begin u w (ts ++ r ∷ []) (deeds_of s (ts ++ r ∷ []) (xs ++ a ∷ []))
  one_after a x y =
      let each : All (λ (d : Deed). d.task.index < r.index) (deeds_of s ts xs) =
      deeds_all (λ (t : Record). t.index < r.index) s ts xs below in
      subst (Handled layout begin u w (ts ++ r ∷ [])) (sym (deeds_step s ts xs r a size))
      (handled_then layout begin u v w ts (r ∷ []) (deeds_of s ts xs) (deed_of s r a ∷ []) x y before_one
      (λ i d l. All-cons (λ (e : Deed). (slice_index_or (deeds_of s ts xs) i d).task.index < e.task.index)
      (deed_of s r a) [] (each i d l)
      (All-nil (λ (e : Deed). (slice_index_or (deeds_of s ts xs) i d).task.index < e.task.index))))

  -- the others are not handled
  pub none_after : Handled layout begin u v ts (deeds_of s ts xs) → Handled layout begin v w (r ∷ []) []
      → Handled layout begin u w (ts ++ r ∷ us) (deeds_of s (ts ++ r ∷ us) xs)
  none_after x y =
      let both : Handled layout begin u w (ts ++ r ∷ []) (deeds_of s ts xs) =
      subst (Handled layout begin u w (ts ++ r ∷ [])) (append-nil (deeds_of s ts xs))
      (handled_then layout begin u v w ts (r ∷ []) (deeds_of s ts xs) [] x y before_one
      (λ i d l j e m. absurd (omega arith))) in
      let rest : ComeBefore (ts ++ r ∷ []) us =
      first_before (ts ++ r ∷ []) us (subst Ascend (sym (append_assoc ts (r ∷ []) us)) up) in
      let all : Handled layout begin u w ((ts ++ r ∷ []) ++ us) (deeds_of s ts xs) =
      subst (Handled layout begin u w ((ts ++ r ∷ []) ++ us)) (append-nil (deeds_of s ts xs))
      (handled_then layout begin u w w (ts ++ r ∷ []) us (deeds_of s ts xs) [] both (handled_nothing layout begin w us)
      rest (λ i d l j e m. absurd (omega arith))) in
      subst (λ (l : List Record). Handled layout begin u w l (deeds_of s (ts ++ r ∷ us) xs))
      (append_assoc ts (r ∷ []) us)
      (subst (Handled layout begin u w ((ts ++ r ∷ []) ++ us)) (sym (deeds_short s ts (r ∷ us) xs size)) all)

-- what is not above zero is zero
pub none_of_it : (n : ℕ) → (0 < n → ⊥) → n ≡ 0
none_of_it zero none = refl
none_of_it (suc n) none = absurd (none (omega arith))

filtered_short : {X : Type 0} (p : X → Bool) (xs : List X) → length (filter p xs) ≤ length xs
filtered_short p [] = omega arith
filtered_short p (x ∷ xs) = let h = filtered_short p xs in go (p x) h
  where
    go : (b : Bool) → length (filter p xs) ≤ length xs → length (cond b (x ∷ filter p xs) (filter p xs))
        ≤ suc (length xs)
    go true h = omega arith
    go false h = omega arith

module _ (n : ℕ) (rs : List Record) (k : ℕ) (r : Record) (here : r ≡ get_or rs k r) (within : k < length rs) where
  more : of_lane n (take (k + 1) rs) ≡ of_lane n (take k rs) ++ cond (is_of_lane n r) (r ∷ []) []
  more = filter_more (is_of_lane n) rs k r within
      ∙ ap (λ (z : Record). of_lane n (take k rs) ++ cond (is_of_lane n z) (z ∷ []) []) (sym here)

  pub lane_own : is_of_lane n r ≡ true → of_lane n (take (k + 1) rs) ≡ of_lane n (take k rs) ++ r ∷ []
  lane_own is = more ∙ ap (λ (b : Bool). of_lane n (take k rs) ++ cond b (r ∷ []) []) is

  pub lane_other : is_of_lane n r ≡ false → of_lane n (take (k + 1) rs) ≡ of_lane n (take k rs)
  lane_other is =
      more ∙ (ap (λ (b : Bool). of_lane n (take k rs) ++ cond b (r ∷ []) []) is ∙ append-nil (of_lane n (take k rs)))

  pub lane_short : is_of_lane n r ≡ true → length (of_lane n (take k rs)) < length rs
  lane_short is = let h = filtered_short (is_of_lane n) (take k rs) in let t = length-take k rs in omega arith

  pub lane_whole : is_of_lane n r ≡ true → of_lane n rs ≡ of_lane n (take k rs) ++ r ∷ of_lane n (drop (suc k) rs)
  lane_whole is =
      let all : rs ≡ take k rs ++ r ∷ drop (suc k) rs =
      sym (ap (λ (z : Record). take k rs ++ z ∷ drop (suc k) rs) here
      ∙ (ap (λ (l : List Record). take k rs ++ l) (sym (drop-cons rs k r within)) ∙ take-append-drop k rs)) in
      ap (of_lane n) all ∙ (filter-append (is_of_lane n) (take k rs) (r ∷ drop (suc k) rs)
      ∙ ap (λ (b : Bool). of_lane n (take k rs) ++ cond b (r ∷ of_lane n (drop (suc k) rs))
      (of_lane n (drop (suc k) rs))) is)

  -- the record is that of the lane at this place
  pub lane_next : is_of_lane n r ≡ true → slice_get (of_lane n rs) (length (of_lane n (take k rs))) ≡ Some r
  lane_next is = ap (λ (l : List Record). slice_get l (length (of_lane n (take k rs)))) (lane_whole is)
      ∙ at_end (of_lane n (take k rs))
    where
      at_end : (ts : List Record) → slice_get (ts ++ r ∷ of_lane n (drop (suc k) rs)) (length ts) ≡ Some r
      at_end [] = refl
      at_end (t ∷ ts) = at_end ts

  ascends : Ascend rs → is_of_lane n r ≡ true → Ascend (of_lane n (take k rs) ++ r ∷ of_lane n (drop (suc k) rs))
  ascends up is =
      subst Ascend (lane_whole is) (AllPairs-filter (λ (x y : Record). x.index < y.index) (is_of_lane n) rs up)

  -- none of the records of the lane before it has its number
  pub lane_first : Ascend rs → is_of_lane n r ≡ true → indexed r.index (of_lane n (take k rs)) ≡ 0
  lane_first up is =
      let own : eqb r.index r.index ≡ true = eq-eqb r.index r.index refl in
      let there : 0 < indexed r.index (r ∷ of_lane n (drop (suc k) rs)) = rw own (omega arith) in
      none_of_it (indexed r.index (of_lane n (take k rs))) (λ some.
      let less = first_before (of_lane n (take k rs)) (r ∷ of_lane n (drop (suc k) rs)) (ascends up is) r.index r.index
      some there in omega arith)

  module _ (layout : Layout) (begin : Begin) (u v w : View) (s : ℕ) (xs : List Answer) (is : is_of_lane n r ≡ true)
      (up : Ascend rs)
      (size : length xs ≡ length (of_lane n (take k rs))) where
    pub lane_step : (a : Answer) → Handled layout begin u v (of_lane n (take k rs))
        (deeds_of s (of_lane n (take k rs)) xs)
        → Handled layout begin v w (r ∷ []) (deed_of s r a ∷ [])
        → Handled layout begin u w (of_lane n (take (k + 1) rs))
        (deeds_of s (of_lane n (take (k + 1) rs)) (xs ++ a ∷ []))
    lane_step a x y =
        subst (λ (l : List Record). Handled layout begin u w l (deeds_of s l (xs ++ a ∷ []))) (sym (lane_own is))
        (one_after layout begin u v w s (of_lane n (take k rs)) (of_lane n (drop (suc k) rs)) r xs (ascends up is) size
        a x y)

    pub lane_stop : Handled layout begin u v (of_lane n (take k rs)) (deeds_of s (of_lane n (take k rs)) xs)
        → Handled layout begin v w (r ∷ []) []
        → Handled layout begin u w (of_lane n rs) (deeds_of s (of_lane n rs) xs)
    lane_stop x y =
        subst (λ (l : List Record). Handled layout begin u w l (deeds_of s l xs)) (sym (lane_whole is))
        (none_after layout begin u v w s (of_lane n (take k rs)) (of_lane n (drop (suc k) rs)) r xs (ascends up is) size
        x y)
