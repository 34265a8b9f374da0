-- What a step leaves of a row's part of the rule.
use Rattle.std.proofs.Common.{◌≡◌, ◌⊎◌, ℕ, ◌+◌, ◌<◌, ◌≤◌, max, List, set, sym, refl, ap, ◌∙◌, subst, inl, inr, ⊎_elim}
use Rattle.std.proofs.Common.{le_trans, arith}
use Rattle.std.proofs.lemmas.Bool.Decides.{nat_tests}
use mathlib.Core.Option.{some, some-injective}
use mathlib.Core.Logic.{dite}
use native.Mathlib.Decide.{ℕ_discrete}
use lib.ListN.{get_elem?}
use Rattle.atomic_table.proofs.Lists.{at_set, set_here, set_else}
use Rattle.counter_table.specs.declared.view.Numbers.{Numbers}
use Rattle.sdls_base.specs.Numbers.{tally, total, once_below}
use Rattle.counter_table.specs.Numbers.{count_of, amount, top, is_armed}
use Rattle.counter_table.specs.Rule.{greatest, most, SeatFits, RowFits}
use Rattle.counter_table.proofs.Sums.{at_below, total_set, total_at, greatest_at, greatest_least}

pub once_below_one : (x n : ℕ) → once_below x n ≤ 1
once_below_one x n = grind (arith, nat_tests)

pub once_below_more : (x n m : ℕ) → n ≤ m → once_below x n ≤ once_below x m
once_below_more x n m h = grind (arith, nat_tests)

-- what a step does to the row's words and to its maker's numbers
pub record Moves (row next limit next' limit' : ℕ) (v w : Numbers) : Type 0 where
  pub once : (x : ℕ) → tally row x w.drawn + once_below x next ≤ tally row x v.drawn + once_below x next'
  pub grown : next' + amount row v.added ≡ next + amount row w.added
  pub raised : top row v.raised ≤ top row w.raised
  pub counted : count_of row v.drawn ≤ count_of row w.drawn
  pub bound : next' + count_of row v.drawn ≤ max next (top row w.raised) + count_of row w.drawn
  pub up : next ≤ next'
  pub lifted : limit ≤ limit'
  pub seat : SeatFits row next' limit' w
  pub last : (top row w.nexts ≡ next') ⊎ ((next' ≡ next) × (top row w.nexts ≡ top row v.nexts))
  pub alive : 0 < w.shares

-- the numbers of this row stay as they are
pub record Quiet (row : ℕ) (v w : Numbers) : Type 0 where
  pub drawn : (x : ℕ) → tally row x w.drawn ≡ tally row x v.drawn
  pub spent : (x : ℕ) → tally row x w.spent ≡ tally row x v.spent
  pub added : amount row w.added ≡ amount row v.added
  pub raised : top row w.raised ≡ top row v.raised
  pub counted : count_of row w.drawn ≡ count_of row v.drawn
  pub nexts : top row w.nexts ≡ top row v.nexts
  pub limits : top row w.limits ≡ top row v.limits
  pub armed : is_armed row w.armed ≤ is_armed row v.armed

pub quiet_moves : (row n l : ℕ) (v w : Numbers) → SeatFits row n l v → Quiet row v w → 0 < w.shares
    → Moves row n l n l v w
quiet_moves row n l v w fits q alive =
    record {
      once = λ x. let e = q.drawn x in omega arith;
      grown = let e = q.added in omega arith;
      raised = let e = q.raised in omega arith;
      counted = let e = q.counted in omega arith;
      bound = let e = q.counted in omega arith;
      up = omega arith;
      lifted = omega arith;
      seat = record {
        nexts = let e = q.nexts in let f = fits.nexts in omega arith;
        limits = let e = q.limits in let f = fits.limits in omega arith;
        spent = λ x. let e = q.spent x in let f = fits.spent x in omega arith;
      };
      last = inr (refl, q.nexts);
      alive = alive;
    }

-- each other worker's knowledge outlives the step
pub seats_up : (row n l n' l' : ℕ) (u : Numbers) → n ≤ n' → l ≤ l' → SeatFits row n l u → SeatFits row n' l' u
seats_up row n l n' l' u a b fits =
    record {
      nexts = le_trans fits.nexts a;
      limits = le_trans fits.limits b;
      spent = λ x. le_trans (fits.spent x) (once_below_more x l l' b);
    }

module _ (row n l n' l' : ℕ) (views : List Numbers) (id : ℕ) (v w : Numbers) (at : get_elem? views id ≡ some v)
    (fits : RowFits row n l views) (moves : Moves row n l n' l' v w) where
  here : get_elem? (set views id w) id ≡ some w
  here = set_here views id w (at_below views id v at)

  each : (j : ℕ) (u : Numbers) → get_elem? (set views id w) j ≡ some u → SeatFits row n' l' u
  each j u e =
      ⊎_elim (λ same. subst (SeatFits row n' l') same.1 moves.seat)
      (λ other. seats_up row n l n' l' u moves.up moves.lifted (fits.each j u other.1))
      (at_set views id j w u e)

  raised : greatest (λ u. top row u.raised) views ≤ greatest (λ u. top row u.raised) (set views id w)
  raised = greatest_least (λ u. top row u.raised) views _ (λ j u e. dite (ℕ_discrete j id)
      (λ same. let is : u ≡ v = some-injective u v (sym e ∙ (ap (get_elem? views) same ∙ at)) in
      le_trans (subst (λ z. top row z.raised ≤ top row w.raised) (sym is) moves.raised)
      (greatest_at (λ u. top row u.raised) (set views id w) id w here))
      (λ apart. greatest_at (λ u. top row u.raised) (set views id w) j u (set_else views id j w apart ∙ e)))

  known : (next : ℕ) → next ≡ n → top row w.nexts ≡ top row v.nexts
      → ((j : ℕ) × (u : Numbers) × (get_elem? views j ≡ some u) × (0 < u.shares) × (top row u.nexts ≡ n))
      → (j : ℕ) × (u : Numbers) × (get_elem? (set views id w) j ≡ some u) × (0 < u.shares) × (top row u.nexts ≡ next)
  known next e same k = dite (ℕ_discrete k.0 id)
      (λ is. let u≡v : k.1 ≡ v = some-injective k.1 v (sym k.2 ∙ (ap (get_elem? views) is ∙ at)) in
      (id, w, here, moves.alive, same ∙ (ap (λ z. top row z.nexts) (sym u≡v) ∙ (k.4 ∙ sym e))))
      (λ apart. (k.0, k.1, set_else views id k.0 w apart ∙ k.2, k.3, k.4 ∙ sym e))

  pub row_step : n' + total (λ u. is_armed row u.armed) (set views id w) ≤ most → RowFits row n' l' (set views id w)
  row_step room =
      record {
        once = λ x. let t = total_set (λ u. tally row x u.drawn) views id v w at in let o = fits.once x in
            let m = moves.once x in omega arith;
        room = room;
        grown = let t = total_set (λ u. amount row u.added) views id v w at in let o = fits.grown in
            let m = moves.grown in omega arith;
        bound =
            let t = total_set (λ u. count_of row u.drawn) views id v w at in
            let c = total_at (λ u. count_of row u.drawn) views id v at in
            let top_w = greatest_at (λ u. top row u.raised) (set views id w) id w here in
            let r = raised in let o = fits.bound in let m = moves.bound in let k = moves.counted in
            omega arith;
        each = each;
        last = ⊎_elim (λ e. inr (id, w, here, moves.alive, e))
            (λ s. ⊎_elim (λ one. inl (s.0 ∙ one)) (λ k. inr (known n' s.0 s.1 k)) fits.last)
            moves.last;
      }
