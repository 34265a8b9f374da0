-- Cutting a worker's numbers in two and joining those of two workers keep the rule's part on numbers.
use Rattle.std.proofs.Common.{◌≡◌, ◌≢◌, ℕ, ◌+◌, ◌<◌, ◌≤◌, List, [], ◌∷◌, ◌++◌, set, sym, refl, ap, ◌∙◌, subst, inl, inr}
use Rattle.std.proofs.Common.{⊎_elim, arith}
use mathlib.Core.Option.{some, some-injective}
use mathlib.Core.Logic.{dite}
use native.Mathlib.Decide.{ℕ_discrete}
use lib.ListN.{get_elem?}
use Rattle.atomic_table.proofs.Lists.{at_set, at_snoc, at_longer, set_here, set_else}
use Rattle.counter_table.specs.declared.view.Numbers.{Numbers}
use Rattle.sdls_base.specs.Numbers.{tally, total, once_below}
use Rattle.counter_table.specs.Numbers.{count_of, amount, top, is_armed, no_numbers, keeper, newcomer, joined}
use Rattle.counter_table.specs.Rule.{greatest, SeatFits, RowFits, IsSane, NumbersFit}
use Rattle.counter_table.proofs.Sums.{at_below, total-append, total_set, total_two, greatest_at, greatest_least}
use Rattle.counter_table.proofs.Sums.{times-append, count_of-append, amount-append, top-append}
use Rattle.counter_table.proofs.Rows.{once_below_one}

module _ (views : List Numbers) (id : ℕ) (v : Numbers) (at : get_elem? views id ≡ some v) where
  after : List Numbers
  after = set views id (keeper v) ++ newcomer v ∷ []

  abbrev cut : List Numbers
  cut = set views id (keeper v) ++ newcomer v ∷ []

  -- a sum to which the keeper adds as before and the newcomer nothing
  cut_total : (f : Numbers → ℕ) → f (keeper v) ≡ f v → f (newcomer v) ≡ 0 → total f cut ≡ total f views
  cut_total f a b = let t = total_set f views id v (keeper v) at in
      let e = total-append f (set views id (keeper v)) (newcomer v ∷ []) in omega arith

  keeper_there : get_elem? cut id ≡ some (keeper v)
  keeper_there = at_longer _ _ id (keeper v) (set_here views id (keeper v) (at_below views id v at))

  other_there : (j : ℕ) (u : Numbers) → j ≢ id → get_elem? views j ≡ some u → get_elem? cut j ≡ some u
  other_there j u apart e = at_longer _ _ j u (set_else views id j (keeper v) apart ∙ e)

  module _ (row n l : ℕ) (fits : RowFits row n l views) (two : 1 < v.shares) where
    seat : SeatFits row n l v
    seat = fits.each id v at

    cut_each : (j : ℕ) (u : Numbers) → get_elem? cut j ≡ some u → SeatFits row n l u
    cut_each j u e =
        ⊎_elim
        (λ k. ⊎_elim (λ s. subst (SeatFits row n l) s.1 record {
          nexts = seat.nexts;
          limits = seat.limits;
          spent = seat.spent;
        }) (λ o. fits.each j u o.1) (at_set views id j (keeper v) u k))
        (λ same. subst (SeatFits row n l) same record {
          nexts = seat.nexts;
          limits = seat.limits;
          spent = λ x. omega arith;
        })
        (at_snoc _ (newcomer v) u j e)

    cut_raised : greatest (λ u. top row u.raised) views ≤ greatest (λ u. top row u.raised) cut
    cut_raised = greatest_least (λ u. top row u.raised) views _ (λ j u e. dite (ℕ_discrete j id)
        (λ same. let is : u ≡ v = some-injective u v (sym e ∙ (ap (get_elem? views) same ∙ at)) in
        subst (λ z. top row z.raised ≤ greatest (λ u. top row u.raised) cut) (sym is)
        (greatest_at (λ u. top row u.raised) cut id (keeper v) keeper_there))
        (λ apart. greatest_at (λ u. top row u.raised) cut j u (other_there j u apart e)))

    pub row_cut : RowFits row n l cut
    row_cut =
        record {
          once = λ x. let t = cut_total (λ u. tally row x u.drawn) refl refl in let o = fits.once x in omega arith;
          room = let t = cut_total (λ u. is_armed row u.armed) refl refl in let o = fits.room in omega arith;
          grown = let t = cut_total (λ u. amount row u.added) refl refl in let o = fits.grown in omega arith;
          bound = let t = cut_total (λ u. count_of row u.drawn) refl refl in let r = cut_raised in let o = fits.bound in
              omega arith;
          each = cut_each;
          last = ⊎_elim inl (λ k. inr (dite (ℕ_discrete k.0 id)
              (λ is. let same : k.1 ≡ v = some-injective k.1 v (sym k.2 ∙ (ap (get_elem? views) is ∙ at)) in
              (id, keeper v, keeper_there, omega arith, ap (λ z. top row z.nexts) (sym same) ∙ k.4))
              (λ apart. (k.0, k.1, other_there k.0 k.1 apart k.2, k.3, k.4)))) fits.last;
        }

  module _ (count : ℕ) (words : List ℕ) (fits : NumbersFit count words views) (two : 1 < v.shares) where
    cut_sane : (j : ℕ) (u : Numbers) → get_elem? cut j ≡ some u → IsSane u
    cut_sane j u e =
        ⊎_elim
        (λ k. ⊎_elim (λ s. subst IsSane s.1 record { drawn = (fits.sane id v at).drawn; alive = inr (omega arith) })
        (λ o. fits.sane j u o.1) (at_set views id j (keeper v) u k))
        (λ same. subst IsSane same record { drawn = λ q x. omega arith; alive = inr (omega arith) })
        (at_snoc _ (newcomer v) u j e)

    pub cut_fits : NumbersFit count words cut
    cut_fits =
        record {
          size = fits.size;
          rows = λ row b. row_cut row _ _ (fits.rows row b) two;
          shares = let t = total_set (λ u. u.shares) views id v (keeper v) at in
              let e = total-append (λ (u : Numbers). u.shares) (set views id (keeper v)) (newcomer v ∷ []) in
              let s = fits.shares in omega arith;
          sane = cut_sane;
        }

module _ (views : List Numbers) (id other : ℕ) (v w : Numbers) (at : get_elem? views id ≡ some v)
    (there : get_elem? views other ≡ some w) (apart : other ≢ id) where
  abbrev pub met : List Numbers
  met = set (set views id (joined v w)) other no_numbers

  there_too : get_elem? (set views id (joined v w)) other ≡ some w
  there_too = set_else views id other (joined v w) apart ∙ there

  met_total : (f : Numbers → ℕ) → f no_numbers ≡ 0 → total f met + f v + f w ≡ total f views + f (joined v w)
  met_total f z = let a = total_set f views id v (joined v w) at in
      let b = total_set f (set views id (joined v w)) other w no_numbers there_too in omega arith

  joined_there : get_elem? met id ≡ some (joined v w)
  joined_there = set_else _ other id no_numbers (λ e. apart (sym e)) ∙ set_here views id (joined v w)
      (at_below views id v at)

  third_there : (j : ℕ) (u : Numbers) → j ≢ id → j ≢ other → get_elem? views j ≡ some u → get_elem? met j ≡ some u
  third_there j u a b e = set_else _ other j no_numbers b ∙ (set_else views id j (joined v w) a ∙ e)

  -- what each of the views met is
  met_each : (P : Numbers → Type 0) → P no_numbers → P (joined v w)
      → ((j : ℕ) (u : Numbers) → get_elem? views j ≡ some u → P u) → (j : ℕ) (u : Numbers) → get_elem? met j ≡ some u
      → P u
  met_each P none both each j u e =
      ⊎_elim (λ k. subst P k.1 none)
      (λ k. ⊎_elim (λ s. subst P s.1 both) (λ o. each j u o.1) (at_set views id j (joined v w) u k.1))
      (at_set _ other j no_numbers u e)

  module _ (row n l : ℕ) (fits : RowFits row n l views) (sane_v : IsSane v) (sane_w : IsSane w) where
    drawn_two : (x : ℕ) → tally row x v.drawn + tally row x w.drawn ≤ 1
    drawn_two x = let t = total_two (λ u. tally row x u.drawn) views id other v w at there (λ e. apart (sym e)) in
        let o = fits.once x in let b = once_below_one x n in omega arith

    both_spent : (x : ℕ) → tally row x (v.spent ++ w.spent) ≤ once_below x l
    both_spent x =
        let e = times-append row x v.spent w.spent in
        let a = (fits.each id v at).spent x in let b = (fits.each other w there).spent x in
        let c = sane_v.drawn row x in let d = sane_w.drawn row x in let two = drawn_two x in
        let sum = tally row x v.spent + tally row x w.spent in
        let h : sum ≤ once_below x l =
        lemma (tally row x v.spent) (tally row x w.spent) (once_below x l) a b (omega arith) in omega arith
      where
        lemma : (s t o : ℕ) → s ≤ o → t ≤ o → s + t ≤ 1 → s + t ≤ o
        lemma s t o a b c = omega arith

    met_seat : SeatFits row n l (joined v w)
    met_seat =
        record {
          nexts = rw (top-append row v.nexts w.nexts) (let a = (fits.each id v at).nexts in
              let b = (fits.each other w there).nexts in omega arith);
          limits = rw (top-append row v.limits w.limits) (let a = (fits.each id v at).limits in
              let b = (fits.each other w there).limits in omega arith);
          spent = both_spent;
        }

    met_raised : greatest (λ u. top row u.raised) views ≤ greatest (λ u. top row u.raised) met
    met_raised =
        let b = greatest_at (λ u. top row u.raised) met id (joined v w) joined_there in
        let e = top-append row v.raised w.raised in
        greatest_least (λ u. top row u.raised) views _ (λ j u k. dite (ℕ_discrete j id)
        (λ same. let is : u ≡ v = some-injective u v (sym k ∙ (ap (get_elem? views) same ∙ at)) in
        subst (λ z. top row z.raised ≤ greatest (λ u. top row u.raised) met) (sym is) (omega arith))
        (λ not_id. dite (ℕ_discrete j other)
        (λ same. let is : u ≡ w = some-injective u w (sym k ∙ (ap (get_elem? views) same ∙ there)) in
        subst (λ z. top row z.raised ≤ greatest (λ u. top row u.raised) met) (sym is) (omega arith))
        (λ not_other. greatest_at (λ u. top row u.raised) met j u (third_there j u not_id not_other k))))

    met_last : (0 < v.shares)
        → ((j : ℕ) × (u : Numbers) × (get_elem? views j ≡ some u) × (0 < u.shares) × (top row u.nexts ≡ n))
        → (j : ℕ) × (u : Numbers) × (get_elem? met j ≡ some u) × (0 < u.shares) × (top row u.nexts ≡ n)
    met_last alive k =
        let e = top-append row v.nexts w.nexts in
        let a = (fits.each id v at).nexts in let b = (fits.each other w there).nexts in
        dite (ℕ_discrete k.0 id)
        (λ is. let same : k.1 ≡ v = some-injective k.1 v (sym k.2 ∙ (ap (get_elem? views) is ∙ at)) in
        let t : top row v.nexts ≡ n = ap (λ z. top row z.nexts) (sym same) ∙ k.4 in
        (id, joined v w, joined_there, omega arith, omega arith))
        (λ not_id. dite (ℕ_discrete k.0 other)
        (λ is. let same : k.1 ≡ w = some-injective k.1 w (sym k.2 ∙ (ap (get_elem? views) is ∙ there)) in
        let t : top row w.nexts ≡ n = ap (λ z. top row z.nexts) (sym same) ∙ k.4 in
        (id, joined v w, joined_there, omega arith, omega arith))
        (λ not_other. (k.0, k.1, third_there k.0 k.1 not_id not_other k.2, k.3, k.4)))

    pub row_met : 0 < v.shares → RowFits row n l met
    row_met alive =
        record {
          once = λ x. let t = met_total (λ u. tally row x u.drawn) refl in let e = times-append row x v.drawn w.drawn in
              let o = fits.once x in omega arith;
          room = let t = met_total (λ u. is_armed row u.armed) refl in let o = fits.room in omega arith;
          grown = let t = met_total (λ u. amount row u.added) refl in let e = amount-append row v.added w.added in
              let o = fits.grown in omega arith;
          bound = let t = met_total (λ u. count_of row u.drawn) refl in let e = count_of-append row v.drawn w.drawn in
              let r = met_raised in let o = fits.bound in omega arith;
          each = met_each (SeatFits row n l) record {
            nexts = omega arith;
            limits = omega arith;
            spent = λ x. omega arith;
          } met_seat fits.each;
          last = ⊎_elim inl (λ k. inr (met_last alive k)) fits.last;
        }

  pub met_fits : (count : ℕ) (words : List ℕ) → NumbersFit count words views → 0 < v.shares → NumbersFit count words met
  met_fits count words fits alive =
      let sane_v = fits.sane id v at in let sane_w = fits.sane other w there in
      record {
        size = fits.size;
        rows = λ row b. row_met row _ _ (fits.rows row b) sane_v sane_w alive;
        shares = let t = met_total (λ u. u.shares) refl in let s = fits.shares in omega arith;
        sane = met_each IsSane record { drawn = λ q x. omega arith; alive = inl refl }
            record {
              drawn = λ q x. rw (times-append q x v.spent w.spent, times-append q x v.drawn w.drawn) (let a =
                  sane_v.drawn q x in let b = sane_w.drawn q x in omega arith);
              alive = inr (omega arith);
            }
            fits.sane;
      }
