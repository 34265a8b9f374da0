-- Where the rule of the counters holds, the world is kept.
use Rattle.std.proofs.Common.{◌≡◌, ℕ, ◌+◌, ◌<◌, ◌≤◌, le_trans, true, false, map, refl, sym, ap, ◌∙◌, subst, arith, Some}
use Rattle.std.proofs.Common.{None, Option, slice_get}
use Rattle.counter_table.specs.declared.view.Known.{Known}
use Rattle.counter_table.specs.declared.view.Numbers.{Numbers}
use Rattle.counter_table.specs.declared.view.View.{View}
use Rattle.counter_table.specs.Known.{known_mark}
use Rattle.counter_table.specs.Numbers as numbers
use Rattle.counter_table.specs.Rule.{RowFits, SeatFits, IsSane}
use Rattle.sdls_base.specs.Numbers.{tally, total, once_below}
use Rattle.sdls_world.specs.declared.world.Key.{Key}
use Rattle.sdls_world.specs.Core.{Doer}
use Rattle.sdls_world.specs.Kept.{KeyKept, DoerKept, is_last}
use Rattle.sdls_world.proofs.Places.{place_below}
use Rattle.law_counters.specs.Scene.{Scene, IsRuled, doer, key_at, world_of, limit_of, next_of}
use Rattle.law_counters.specs.Laws.{RuledAreKept}
use Rattle.law_counters.proofs.Lists.{doer_there, key_from}
use Rattle.law_counters.proofs.Sums.{total-map, at_map, unused_sum, spent_below, below_where}

last_same : (row x : ℕ) (last : Option (ℕ × ℕ)) → is_last row x last ≡ numbers.is_last row x last
last_same row x None = refl
last_same row x (Some p) = refl

module _ {B : Type 0} (told : B → Known) (count : ℕ) (s : Scene) (ruled : IsRuled told count s) where
  sane : (id : ℕ) (v : View) → slice_get s.views id ≡ Some v → IsSane v.numbers
  sane id v at = ruled.rule.numbers.sane id v.numbers (at_map (λ (u : View). u.numbers) s.views id v at)

  spent_drawn : (row x id : ℕ) (v : View) → slice_get s.views id ≡ Some v
      → tally row x v.numbers.spent ≤ tally row x v.numbers.drawn
  spent_drawn row x id v at = let h = (sane id v at).drawn row x in omega arith

  doer_kept : (n id : ℕ) (v : View) → slice_get s.views id ≡ Some v → DoerKept (doer n v.numbers)
  doer_kept n id v at = record {
    drawn = λ row x. let h = (sane id v at).drawn row x in let e = last_same row x v.numbers.last in omega arith;
    funded = λ no. absurd (let n : false ≡ true = no in cc);
  }

  module _ (row : ℕ) (below : row < count) where
    fits : RowFits row (next_of s row) (limit_of s row) (map (λ (v : View). v.numbers) s.views)
    fits = ruled.rule.numbers.rows row below

    seat : (id : ℕ) (v : View) → slice_get s.views id ≡ Some v → SeatFits row (next_of s row) (limit_of s row) v.numbers
    seat id v at = fits.each id v.numbers (at_map (λ (u : View). u.numbers) s.views id v at)

    drawn_once : (x : ℕ) → total (λ (v : View). tally row x v.numbers.drawn) s.views ≤ once_below x (next_of s row)
    drawn_once x =
        let h = fits.once x in
        let e = total-map (λ (n : Numbers). tally row x n.drawn) (λ (v : View). v.numbers) s.views in omega arith

    below_mark : limit_of s row ≤ known_mark s.book row
    below_mark = le_trans (ruled.rule.turn.limits row below) (ruled.marks row)

    row_kept : (key : ℕ) → KeyKept row (key_at s.words s.book row key) (world_of s)
    row_kept key = record {
      once = λ x.
          let sum = unused_sum row x 0 s.views (λ id v at. spent_drawn row x id v at) in
          let once = drawn_once x in let used = ruled.used row x in omega arith;
      used = λ x.
          let h = spent_below row x (next_of s row) (limit_of s row) (known_mark s.book row) s.views
          (λ id v at. (spent_drawn row x id v at, (seat id v at).spent x)) (drawn_once x) below_mark in
          let used = ruled.used row x in omega arith;
      funded = λ i a at x some.
          let there = doer_there 0 i s.views a at in
          let h = (seat i there.0 there.1).spent x in
          let e : tally row x a.funded ≡ tally row x there.0.numbers.spent =
          ap (λ (d : Doer). tally row x d.funded) there.2 in
          below_where x (limit_of s row) (omega arith);
      lifted = below_mark;
      stored = omega arith;
    }

pub ruled_kept : {B : Type 0} (told : B → Known) → RuledAreKept told
ruled_kept told count s ruled = record {
  keys = λ row k at.
      let there = key_from s.words s.book 0 row s.ids k at in
      let z : 0 + row ≡ row = omega arith in
      let below = place_below s.ids row there.0 there.1 in
      let rows = ruled.rows in
      let is : key_at s.words s.book row there.0 ≡ k =
      sym (there.2 ∙ ap (λ (m : ℕ). key_at s.words s.book m there.0) z) in
      subst (λ (key : Key). KeyKept row key (world_of s)) is (row_kept told count s ruled row (omega arith) there.0);
  actors = λ i a at.
      let there = doer_there 0 i s.views a at in
      subst DoerKept (sym there.2) (doer_kept told count s ruled (0 + i) i there.0 there.1);
}
