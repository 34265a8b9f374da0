-- Each step on a row's words keeps the rule's part on numbers.
use Rattle.std.proofs.Common.{◌≡◌, ◌≢◌, ◌⊎◌, ℕ, ◌+◌, ◌*◌, ◌^◌, ◌<◌, ◌≤◌, max, eqb, true, false, List, set, get_or}
use Rattle.std.proofs.Common.{length, sym, refl, ◌∙◌, subst, ⊎_elim, arith, eq-eqb, ne_eqb, get_or-set_same}
use Rattle.std.proofs.Common.{get_or-set_other, length-set, Some, None, if◌then◌else◌, Option, Bool, ltb}
use mathlib.Core.Option.{some}
use mathlib.Core.Logic.{dite}
use native.Mathlib.Decide.{ℕ_discrete}
use lib.ListN.{get_elem?}
use Rattle.atomic_table.proofs.Lists.{at_set}
use borrow.Author.Tests.{ltb-true}
use Rattle.counter_table.specs.declared.view.Numbers.{Numbers}
use Rattle.sdls_base.specs.Numbers.{tally, total}
use Rattle.counter_table.specs.Numbers.{is_armed, no_numbers, arming, drawing, spending, returning, peeking, raising}
use Rattle.counter_table.specs.Numbers.{lifting, ALL_SHARES}
use Rattle.counter_table.specs.Rule.{most, next_at, limit_at, SeatFits, RowFits, IsSane, NumbersFit}
use Rattle.counter_table.proofs.Sums.{total_set, total_at, total_less}
use Rattle.counter_table.proofs.Rows.{Moves, Quiet, quiet_moves, row_step, once_below_one}
use Rattle.counter_table.proofs.Moving.{arm_moves, draw_moves, raise_moves, lift_moves, return_moves, spend_moves}
use Rattle.counter_table.proofs.Moving.{spend_sane, arm_quiet, draw_quiet, raise_quiet, lift_quiet, spend_quiet}
use Rattle.counter_table.proofs.Moving.{return_quiet, arm_sane, raise_sane, lift_sane, return_sane, draw_sane}
use Rattle.counter_table.specs.declared.drawing.TheConstants.{ROW_WORDS}

abbrev pub armed_total : ℕ → List Numbers → ℕ
armed_total row views = total (λ v. is_armed row v.armed) views

-- no more workers are armed than there are shares
pub armed_few : (row : ℕ) (views : List Numbers) → total (λ v. v.shares) views ≡ ALL_SHARES
    → ((i : ℕ) (v : Numbers) → get_elem? views i ≡ some v → IsSane v) → armed_total row views ≤ ALL_SHARES
armed_few row views all sane =
    let few = total_less (λ v. is_armed row v.armed) (λ v. v.shares) views (λ i v e. one v (sane i v e).alive) in
    omega arith
  where
    at_most : (o : Option ℕ) → is_armed row o ≤ 1
    at_most None = omega arith
    at_most (Some r) = elim (eqb r row) as (λ b. (if b then 1 else 0) ≤ 1) [ true ↦ omega arith | false ↦ omega arith ]

    one : (v : Numbers) → (v ≡ no_numbers) ⊎ (0 < v.shares) → is_armed row v.armed ≤ v.shares
    one v h = ⊎_elim (λ e. subst (λ z. is_armed row z.armed ≤ z.shares) (sym e) (omega arith)) (λ k. let a =
        at_most v.armed in omega arith) h

pub shares_set : (views : List Numbers) (id : ℕ) (v w : Numbers) → get_elem? views id ≡ some v → w.shares ≡ v.shares
    → total (λ u. u.shares) views ≡ ALL_SHARES → total (λ u. u.shares) (set views id w) ≡ ALL_SHARES
shares_set views id v w at same all = let t = total_set (λ u. u.shares) views id v w at in omega arith

pub sane_set : (views : List Numbers) (id : ℕ) (w : Numbers) → IsSane w
    → ((i : ℕ) (v : Numbers) → get_elem? views i ≡ some v → IsSane v) → (j : ℕ) (u : Numbers)
    → get_elem? (set views id w) j ≡ some u → IsSane u
sane_set views id w sane each j u e = ⊎_elim (λ k. subst IsSane k.1 sane) (λ k. each j u k.1) (at_set views id j w u e)

module _ (count : ℕ) (words words' : List ℕ) (views : List Numbers) (id : ℕ) (v w : Numbers) (row : ℕ)
    (at : get_elem? views id ≡ some v) (fits : NumbersFit count words views) where
  pub row_fits : row < count → RowFits row (get_or words (next_at row) 0) (get_or words (limit_at row) 0) views
  row_fits b = fits.rows row b

  pub seat_fits : row < count → SeatFits row (get_or words (next_at row) 0) (get_or words (limit_at row) 0) v
  seat_fits b = (row_fits b).each id v at

  pub drawn_once : row < count → (x : ℕ) → tally row x v.drawn ≤ 1
  drawn_once b x =
      let t = total_at (λ u. tally row x u.drawn) views id v at in let o = (row_fits b).once x in
      let l = once_below_one x (get_or words (next_at row) 0) in omega arith

  -- the row moves, and the others are quiet
  module _ (below : row < count) (same_size : length words' ≡ length words) (same : (q : ℕ) → q < count → q ≢ row
      → (get_or words' (next_at q) 0 ≡ get_or words (next_at q) 0)
      × (get_or words' (limit_at q) 0 ≡ get_or words (limit_at q) 0))
      (shares : w.shares ≡ v.shares) (alive : 0 < v.shares) (sane : IsSane w) (quiet : (q : ℕ) → eqb row q ≡ false
      → Quiet q v w)
      (moves : Moves row (get_or words (next_at row) 0) (get_or words (limit_at row) 0) (get_or words' (next_at row) 0)
      (get_or words' (limit_at row) 0) v w)
      (room : get_or words' (next_at row) 0 + armed_total row (set views id w) ≤ most) where
    other_row : (q : ℕ) → q < count → q ≢ row
        → RowFits q (get_or words' (next_at q) 0) (get_or words' (limit_at q) 0) (set views id w)
    other_row q b apart =
        let old = fits.rows q b in
        let off : eqb row q ≡ false = ne_eqb row q (λ e. apart (sym e)) in
        let m = quiet_moves q _ _ v w (old.each id v at) (quiet q off) (subst (λ k. 0 < k) (sym shares) alive) in
        let t = total_set (λ u. is_armed q u.armed) views id v w at in
        let fewer = (quiet q off).armed in
        let r = old.room in
        rw (same q b apart).0 (rw (same q b apart).1 (row_step q _ _ _ _ views id v w at old m (omega arith)))

    pub fit_step : NumbersFit count words' (set views id w)
    fit_step =
        record {
          size = same_size ∙ fits.size;
          rows = λ q b. dite (ℕ_discrete q row)
              (λ e. subst (λ k. RowFits k (get_or words' (next_at k) 0) (get_or words' (limit_at k) 0) (set views id w))
              (sym e)
              (row_step row _ _ _ _ views id v w at (fits.rows row below) moves room))
              (other_row q b);
          shares = shares_set views id v w at shares fits.shares;
          sane = sane_set views id w sane fits.sane;
        }

-- the words after a step on one of them
module _ (count : ℕ) (words : List ℕ) (size : length words ≡ ROW_WORDS * count + ROW_WORDS) (row n : ℕ)
    (below : row < count) where
  pub next_set : get_or (set words (next_at row) n) (next_at row) 0 ≡ n
  next_set = let b : next_at row < length words = omega arith in rw get_or-set_same refl

  pub limit_set : get_or (set words (limit_at row) n) (limit_at row) 0 ≡ n
  limit_set = let b : limit_at row < length words = omega arith in rw get_or-set_same refl

  pub next_apart : (j : ℕ) → j ≢ next_at row → get_or (set words (next_at row) n) j 0 ≡ get_or words j 0
  next_apart j a = rw get_or-set_other refl

  pub limit_apart : (j : ℕ) → j ≢ limit_at row → get_or (set words (limit_at row) n) j 0 ≡ get_or words j 0
  limit_apart j a = rw get_or-set_other refl

module _ (count : ℕ) (words : List ℕ) (views : List Numbers) (id : ℕ) (v : Numbers) (row : ℕ)
    (at : get_elem? views id ≡ some v) (fits : NumbersFit count words views)
    (below : row < count) (alive : 0 < v.shares) where
  abbrev n : ℕ
  n = get_or words (next_at row) 0

  abbrev l : ℕ
  l = get_or words (limit_at row) 0

  seat : SeatFits row n l v
  seat = seat_fits count words words views id v v row at fits below

  -- a step on the word `next`, and one on the word `limit`
  next_step : (n' : ℕ) (w : Numbers) → w.shares ≡ v.shares → IsSane w → ((q : ℕ) → eqb row q ≡ false → Quiet q v w)
      → Moves row n l n' l v w → n' + armed_total row (set views id w) ≤ most
      → NumbersFit count (set words (next_at row) n') (set views id w)
  next_step n' w shares sane quiet moves room =
      let words' = set words (next_at row) n' in
      let at_next : get_or words' (next_at row) 0 ≡ n' = next_set count words fits.size row n' below in
      let at_limit : get_or words' (limit_at row) 0 ≡ l =
      next_apart count words fits.size row n' below (limit_at row) (λ e. omega arith) in
      fit_step count words words' views id v w row at fits below (length-set words (next_at row) n')
      (λ q b a. (
        next_apart count words fits.size row n' below (next_at q) (λ e. a (omega arith)),
        next_apart count words fits.size row n' below (limit_at q) (λ e. omega arith),
      ))
      shares alive sane quiet (rw at_next (rw at_limit moves)) (rw at_next room)

  limit_step : (l' : ℕ) (w : Numbers) → w.shares ≡ v.shares → IsSane w → ((q : ℕ) → eqb row q ≡ false → Quiet q v w)
      → Moves row n l n l' v w → n + armed_total row (set views id w) ≤ most
      → NumbersFit count (set words (limit_at row) l') (set views id w)
  limit_step l' w shares sane quiet moves room =
      let words' = set words (limit_at row) l' in
      let at_limit : get_or words' (limit_at row) 0 ≡ l' = limit_set count words fits.size row l' below in
      let at_next : get_or words' (next_at row) 0 ≡ n =
      limit_apart count words fits.size row l' below (next_at row) (λ e. omega arith) in
      fit_step count words words' views id v w row at fits below (length-set words (limit_at row) l')
      (λ q b a. (
        limit_apart count words fits.size row l' below (next_at q) (λ e. omega arith),
        limit_apart count words fits.size row l' below (limit_at q) (λ e. a (omega arith)),
      ))
      shares alive sane quiet (rw at_next (rw at_limit moves)) (rw at_next room)

  sane : IsSane v
  sane = fits.sane id v at

  few : (w : Numbers) → w.shares ≡ v.shares → IsSane w → armed_total row (set views id w) ≤ ALL_SHARES
  few w same ok = armed_few row (set views id w) (shares_set views id v w at same fits.shares)
      (sane_set views id w ok fits.sane)

  old_room : n + armed_total row views ≤ most
  old_room = (fits.rows row below).room

  armed_set : (w : Numbers) → armed_total row (set views id w) + is_armed row v.armed
      ≡ armed_total row views + is_armed row w.armed
  armed_set w = total_set (λ u. is_armed row u.armed) views id v w at

  arm_room : (end : ℕ) → end ≤ 2 ^ 48 → (b : Bool) → ltb n end ≡ b → (w : Numbers) → w.shares ≡ v.shares → IsSane w
      → is_armed row w.armed ≡ is_armed row (if b then Some row else v.armed)
      → n + armed_total row (set views id w) ≤ most
  arm_room end low true is w same ok e = let lt : n < end = ltb-true n end is in let f = few w same ok in omega arith
  arm_room end low false is w same ok e = let o = old_room in let t = armed_set w in omega arith

  pub arm_fits : (end : ℕ) → end ≤ 2 ^ 48
      → NumbersFit count (set words (next_at row) n) (set views id (arming row end n v))
  arm_fits end low =
      let w = arming row end n v in let ok = arm_sane v sane alive row end n in
      next_step n w refl ok (λ q e. arm_quiet q row v e end n) (arm_moves row n l v seat alive end)
      (arm_room end low (ltb n end) refl w refl ok refl)

  pub draw_fits : v.armed ≡ Some row
      → NumbersFit count (set words (next_at row) (n + 1)) (set views id (drawing row n v))
  draw_fits armed =
      let one : is_armed row v.armed ≡ 1 = rw (armed, eq-eqb row row refl) refl in
      next_step (n + 1) (drawing row n v) refl (draw_sane v sane alive row n) (λ q e. draw_quiet q row v e n)
      (draw_moves row n l v seat alive)
      (let o = old_room in let t = armed_set (drawing row n v) in omega arith)

  pub raise_fits : (number : ℕ) → number ≤ 2 ^ 48
      → NumbersFit count (set words (next_at row) (max n number)) (set views id (raising row number n v))
  raise_fits number low =
      let w = raising row number n v in let ok = raise_sane v sane alive row number n in
      next_step (max n number) w refl ok (λ q e. raise_quiet q row v e number n)
      (raise_moves row n l v seat alive number)
      (let f = few w refl ok in let o = old_room in let t = armed_set w in omega arith)

  pub lift_fits : (mark : ℕ) → NumbersFit count (set words (limit_at row) (max l mark))
      (set views id (lifting row mark v))
  lift_fits mark =
      let w = lifting row mark v in
      limit_step (max l mark) w refl (lift_sane v sane alive row mark) (λ q e. lift_quiet q row v e mark)
      (lift_moves row n l v seat alive mark)
      (let o = old_room in let t = armed_set w in omega arith)

  pub return_fits : NumbersFit count (set words (limit_at row) l) (set views id (returning row l v))
  return_fits =
      let w = returning row l v in
      limit_step l w refl (return_sane v sane alive row l) (λ q e. return_quiet q row v e l)
      (return_moves row n l v seat alive)
      (let o = old_room in let t = armed_set w in omega arith)

  pub spend_fits : (x : ℕ) → v.last ≡ Some (row, x) → x < l
      → NumbersFit count (set words (limit_at row) l) (set views id (spending row x l v))
  spend_fits x last funded =
      let w = spending row x l v in
      let one = drawn_once count words words views id v v row at fits below in
      limit_step l w refl (spend_sane row n l v seat alive sane x last one funded) (λ q e. spend_quiet q row v e x l)
      (spend_moves row n l v seat alive sane x last one funded)
      (let o = old_room in let t = armed_set w in omega arith)

  pub peek_fits : (x : ℕ) → v.last ≡ Some (row, x)
      → NumbersFit count (set words (limit_at row) l) (set views id (peeking row x l v))
  peek_fits x last = go (ltb x l) refl
    where
      go : (b : Bool) → ltb x l ≡ b → NumbersFit count (set words (limit_at row) l)
          (set views id (if b then spending row x l v else returning row l v))
      go true is = spend_fits x last (ltb-true x l is)
      go false is = return_fits
