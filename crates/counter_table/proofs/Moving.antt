-- What each step does to its own row, to the other rows, and to what its maker knows of its own numbers.
use Rattle.std.proofs.Common.{◌≡◌, ◌≢◌, ◌⊎◌, ℕ, ◌+◌, ◌-◌, ◌<◌, ◌≤◌, max, eqb, ltb, nat_lt, true, false, cond, ◌&&◌}
use Rattle.std.proofs.Common.{List, [], ◌∷◌, ◌++◌, sym, refl, ap, ◌∙◌, subst, inl, inr, ⊎_elim, le_trans, arith, eq-eqb}
use Rattle.std.proofs.Common.{ne_eqb, Some, None, ◌==◌, if◌then◌else◌}
use Rattle.std.proofs.lemmas.Bool.Decides.{nat_tests}
use Rattle.counter_table.specs.declared.view.Numbers.{Numbers}
use Rattle.sdls_base.specs.Numbers.{tally, once_below}
use Rattle.counter_table.specs.Numbers.{top, is_armed, is_last, arming, drawing, spending, returning, raising, lifting}
use Rattle.counter_table.specs.Rule.{SeatFits, IsSane}
use Rattle.counter_table.proofs.Sums.{times-append, top-append, times_here, count_of_here, amount_here, top_here}
use Rattle.counter_table.proofs.Sums.{times_else, count_of_else, amount_else, top_else}
use Rattle.counter_table.proofs.Rows.{once_below_more, Moves, Quiet}

once_below_next : (x n : ℕ) → (if n == x then 1 else 0) + once_below x n ≡ once_below x (n + 1)
once_below_next x n = grind (arith, nat_tests)

armed_here : (row : ℕ) → is_armed row (Some row) ≡ 1
armed_here row = rw (eq-eqb row row refl) refl

module _ (row n l : ℕ) (v : Numbers) (fits : SeatFits row n l v) (alive : 0 < v.shares) where
  pub arm_moves : (end : ℕ) → Moves row n l n l v (arming row end n v)
  arm_moves end =
      record {
        once = λ x. omega arith;
        grown = refl;
        raised = omega arith;
        counted = omega arith;
        bound = omega arith;
        up = omega arith;
        lifted = omega arith;
        seat = record {
          nexts = rw (top_here row n v.nexts) (let f = fits.nexts in omega arith);
          limits = fits.limits;
          spent = fits.spent;
        };
        last = inl (rw (top_here row n v.nexts) (let f = fits.nexts in omega arith));
        alive = alive;
      }

  pub draw_moves : Moves row n l (n + 1) l v (drawing row n v)
  draw_moves =
      record {
        once = λ x. let e = times_here row n v.drawn x in let o = once_below_next x n in omega arith;
        grown = let e = amount_here row 1 v.added in omega arith;
        raised = omega arith;
        counted = let e = count_of_here row n v.drawn in omega arith;
        bound = let e = count_of_here row n v.drawn in omega arith;
        up = omega arith;
        lifted = omega arith;
        seat = record {
          nexts = rw (top_here row (n + 1) v.nexts) (let f = fits.nexts in omega arith);
          limits = fits.limits;
          spent = fits.spent;
        };
        last = inl (rw (top_here row (n + 1) v.nexts) (let f = fits.nexts in omega arith));
        alive = alive;
      }

  pub raise_moves : (number : ℕ) → Moves row n l (max n number) l v (raising row number n v)
  raise_moves number =
      let nexts : top row (v.nexts ++ (row, n) ∷ (row, max n number) ∷ []) ≡ max n number =
      rw (top-append row v.nexts ((row, n) ∷ (row, max n number) ∷ []), eq-eqb row row refl) (let f = fits.nexts in
      omega arith) in
      record {
        once = λ x. let o = once_below_more x n (max n number) (omega arith) in omega arith;
        grown = let e = amount_here row (number - n) v.added in omega arith;
        raised = let e = top_here row number v.raised in omega arith;
        counted = omega arith;
        bound = let e = top_here row number v.raised in omega arith;
        up = omega arith;
        lifted = omega arith;
        seat = record { nexts = omega arith; limits = fits.limits; spent = fits.spent };
        last = inl nexts;
        alive = alive;
      }

  pub lift_moves : (mark : ℕ) → Moves row n l n (max l mark) v (lifting row mark v)
  lift_moves mark =
      record {
        once = λ x. omega arith;
        grown = refl;
        raised = omega arith;
        counted = omega arith;
        bound = omega arith;
        up = omega arith;
        lifted = omega arith;
        seat = record {
          nexts = fits.nexts;
          limits = rw (top_here row mark v.limits) (let f = fits.limits in omega arith);
          spent = λ x. le_trans (fits.spent x) (once_below_more x l (max l mark) (omega arith));
        };
        last = inr (refl, refl);
        alive = alive;
      }

  pub return_moves : Moves row n l n l v (returning row l v)
  return_moves =
      record {
        once = λ x. omega arith;
        grown = refl;
        raised = omega arith;
        counted = omega arith;
        bound = omega arith;
        up = omega arith;
        lifted = omega arith;
        seat = record {
          nexts = fits.nexts;
          limits = rw (top_here row l v.limits) (let f = fits.limits in omega arith);
          spent = fits.spent;
        };
        last = inr (refl, refl);
        alive = alive;
      }

  module _ (sane : IsSane v) (x : ℕ) (last : v.last ≡ Some (row, x)) (one : (y : ℕ) → tally row y v.drawn ≤ 1)
      (funded : x < l) where
    spent_once : (y : ℕ) → tally row y (v.spent ++ (row, x) ∷ []) ≤ once_below y l
    spent_once y =
        let here : is_last row y v.last ≡ (if x == y then 1 else 0) = rw (last, eq-eqb row row refl) refl in
        let e = times_here row x v.spent y in let s = sane.drawn row y in let o = one y in let f = fits.spent y in
        let spent = tally row y v.spent in
        lemma spent (tally row y v.drawn) y (rw here at s) o f ∙≤ e
      where
        infixl 5 ◌∙≤◌
        ◌∙≤◌ : {a b c : ℕ} → b ≤ c → a ≡ b → a ≤ c
        ◌∙≤◌ h e = omega arith

        lemma : (s d y : ℕ) → s + (if x == y then 1 else 0) ≤ d → d ≤ 1 → s ≤ once_below y l
            → s + (if x == y then 1 else 0) ≤ once_below y l
        lemma s d y a b c = grind (arith, nat_tests)

    pub spend_moves : Moves row n l n l v (spending row x l v)
    spend_moves =
        record {
          once = λ y. omega arith;
          grown = refl;
          raised = omega arith;
          counted = omega arith;
          bound = omega arith;
          up = omega arith;
          lifted = omega arith;
          seat = record {
            nexts = fits.nexts;
            limits =
                rw (top_here row l v.limits) (let f = fits.limits in omega arith);
            spent = spent_once;
          };
          last = inr (refl, refl);
          alive = alive;
        }

    pub spend_sane : IsSane (spending row x l v)
    spend_sane =
        record {
          drawn = λ q y. rw (times-append q y v.spent ((row, x) ∷ []))
              (let s : tally q y v.spent + is_last q y (Some (row, x)) ≤ tally q y v.drawn =
              rw last at (sane.drawn q y) in omega arith);
          alive = inr alive;
        }

-- the other rows
module _ (q row : ℕ) (v : Numbers) (apart : eqb row q ≡ false) where
  pub arm_quiet : (end n : ℕ) → Quiet q v (arming row end n v)
  arm_quiet end n =
      record {
        drawn = λ x. refl;
        spent = λ x. refl;
        added = refl;
        raised = refl;
        counted = refl;
        nexts = top_else q row n apart v.nexts;
        limits = refl;
        armed = armed (nat_lt n end);
      }
    where
      armed : (b : Rattle.std.proofs.Common.Bool) → is_armed q (if b then Some row else v.armed) ≤ is_armed q v.armed
      armed true = rw apart (omega arith)
      armed false = omega arith

  pub draw_quiet : (n : ℕ) → Quiet q v (drawing row n v)
  draw_quiet n =
      record {
        drawn = times_else q row n apart v.drawn;
        spent = λ x. refl;
        added = amount_else q row 1 apart v.added;
        raised = refl;
        counted = count_of_else q row n apart v.drawn;
        nexts = top_else q row (n + 1) apart v.nexts;
        limits = refl;
        armed = omega arith;
      }

  pub raise_quiet : (number n : ℕ) → Quiet q v (raising row number n v)
  raise_quiet number n =
      record {
        drawn = λ x. refl;
        spent = λ x. refl;
        added = amount_else q row (number - n) apart v.added;
        raised = top_else q row number apart v.raised;
        counted = refl;
        nexts = rw (top-append q v.nexts ((row, n) ∷ (row, max n number) ∷ []), apart) (omega arith);
        limits = refl;
        armed = omega arith;
      }

  pub lift_quiet : (mark : ℕ) → Quiet q v (lifting row mark v)
  lift_quiet mark =
      record {
        drawn = λ x. refl;
        spent = λ x. refl;
        added = refl;
        raised = refl;
        counted = refl;
        nexts = refl;
        limits = top_else q row mark apart v.limits;
        armed = omega arith;
      }

  pub spend_quiet : (x l : ℕ) → Quiet q v (spending row x l v)
  spend_quiet x l =
      record {
        drawn = λ y. refl;
        spent = times_else q row x apart v.spent;
        added = refl;
        raised = refl;
        counted = refl;
        nexts = refl;
        limits = top_else q row l apart v.limits;
        armed = omega arith;
      }

  pub return_quiet : (l : ℕ) → Quiet q v (returning row l v)
  return_quiet l =
      record {
        drawn = λ y. refl;
        spent = λ y. refl;
        added = refl;
        raised = refl;
        counted = refl;
        nexts = refl;
        limits = top_else q row l apart v.limits;
        armed = omega arith;
      }

module _ (v : Numbers) (sane : IsSane v) (alive : 0 < v.shares) where
  pub arm_sane : (row end n : ℕ) → IsSane (arming row end n v)
  arm_sane row end n = record { drawn = sane.drawn; alive = inr alive }

  pub raise_sane : (row number n : ℕ) → IsSane (raising row number n v)
  raise_sane row number n = record { drawn = sane.drawn; alive = inr alive }

  pub lift_sane : (row mark : ℕ) → IsSane (lifting row mark v)
  lift_sane row mark = record { drawn = sane.drawn; alive = inr alive }

  pub return_sane : (row l : ℕ) → IsSane (returning row l v)
  return_sane row l = record { drawn = sane.drawn; alive = inr alive }

  pub draw_sane : (row n : ℕ) → IsSane (drawing row n v)
  draw_sane row n =
      record {
        drawn = λ q x. rw (times-append q x v.drawn ((row, n) ∷ [])) (let s = sane.drawn q x in omega arith);
        alive = inr alive;
      }
