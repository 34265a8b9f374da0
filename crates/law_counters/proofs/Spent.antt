-- The used pairs stay those that the workers spent, and a share given or taken back moves none.
use Rattle.std.proofs.Common.{◌≡◌, ◌≢◌, ℕ, zero, suc, ◌+◌, nat_lt, true, false, Bool, List, [], ◌∷◌, ◌++◌, set, length}
use Rattle.std.proofs.Common.{length-set, sym, refl, ap, ◌∙◌, arith, Some, slice_get, if◌then◌else◌}
use Rattle.counter_table.specs.declared.view.View.{View}
use Rattle.counter_table.specs.Numbers as numbers
use Rattle.counter_table.specs.Turn as turning
use Rattle.counter_table.specs.Play.{no_view}
use Rattle.sdls_base.specs.Numbers.{tally}
use Rattle.sdls_world.specs.Core.{Doer, idle}
use Rattle.sdls_world.proofs.Places.{total_set, total-snoc, times-append}
use Rattle.law_counters.specs.Scene.{AreSpent, doer, doers, holder_from, world_of, limit_of}
use Rattle.law_counters.specs.Move.{arms, draws, peeks, sees, takes, gives, lifts, raises, turns}
use Rattle.law_counters.specs.Laws.{SpentStay, SplitTies, JoinTies}
use Rattle.law_counters.proofs.Lists.{doers_set, doers_same, doers-snoc}
use Rattle.law_counters.proofs.Holders.{holder_same, holder-snoc}

-- a step that spends nothing
still : (views : List View) (used : List (ℕ × ℕ)) (id : ℕ) (v w : View) → slice_get views id ≡ Some v
    → w.numbers.spent ≡ v.numbers.spent
    → AreSpent views used → AreSpent (set views id w) used
still views used id v w at same spent row x =
    let t = total_set (λ (u : View). tally row x u.numbers.spent) views id v w at in
    let e : tally row x w.numbers.spent ≡ tally row x v.numbers.spent = ap (tally row x) same in
    let h = spent row x in omega arith

-- a step that spends one pair
one_more : (views : List View) (used : List (ℕ × ℕ)) (id : ℕ) (v w : View) (p : ℕ × ℕ) → slice_get views id ≡ Some v
    → w.numbers.spent ≡ v.numbers.spent ++ p ∷ [] → AreSpent views used → AreSpent (set views id w) (used ++ p ∷ [])
one_more views used id v w p at same spent row x =
    let t = total_set (λ (u : View). tally row x u.numbers.spent) views id v w at in
    let e : tally row x w.numbers.spent ≡ tally row x (v.numbers.spent ++ p ∷ []) = ap (tally row x) same in
    let a = times-append row x v.numbers.spent (p ∷ []) in
    let b = times-append row x used (p ∷ []) in
    let h = spent row x in omega arith

pub spent_stays : SpentStay
spent_stays s spent id v at (arms row key end) = still s.views s.used id v _ at refl spent
spent_stays s spent id v at (draws row key) = still s.views s.used id v _ at refl spent
spent_stays s spent id v at (peeks row key x) = by_limit (nat_lt x (limit_of s row)) where
  looked : Bool → View
  looked b = record v {
    numbers = if b then numbers.spending row x (limit_of s row) v.numbers
        else numbers.returning row (limit_of s row) v.numbers;
  }

  by_limit : (b : Bool) → AreSpent (set s.views id (looked b)) (if b then s.used ++ (row, x) ∷ [] else s.used)
  by_limit true = one_more s.views s.used id v (looked true) (row, x) at refl spent
  by_limit false = still s.views s.used id v (looked false) at refl spent
spent_stays s spent id v at sees = still s.views s.used id v _ at refl spent
spent_stays s spent id v at takes = still s.views s.used id v _ at refl spent
spent_stays s spent id v at gives = still s.views s.used id v _ at refl spent
spent_stays s spent id v at (lifts row key) = still s.views s.used id v _ at refl spent
spent_stays s spent id v at (raises row key number) = still s.views s.used id v _ at refl spent
spent_stays s spent id v at turns = still s.views s.used id v _ at refl spent

pub split_ties : SplitTies
split_ties s id v at =
    let keeps : View = record v { numbers = numbers.keeper v.numbers } in
    let new : View = record { numbers = numbers.newcomer v.numbers; turn = turning.beginner v.turn } in
    let left : List View = set s.views id keeps in
    let place : 0 + length left ≡ length s.views = (let h = length-set s.views id keeps in omega arith) in
    let a : doers 0 (left ++ new ∷ []) ≡ doers 0 s.views ++ idle (length s.views) ∷ [] =
    doers-snoc 0 left new ∙ ap (λ (ds : List Doer). ds ++ doer (0 + length left) new.numbers ∷ [])
    (doers_same 0 id s.views v keeps at refl)
    ∙ ap (λ (k : ℕ). doers 0 s.views ++ doer k new.numbers ∷ []) place in
    let h = holder-snoc 0 left new refl ∙ holder_same 0 id s.views v keeps at refl in (
      (λ j. record (world_of s) { actors = a j; holder = h j }),
      (λ spent row x.
          let t = still s.views s.used id v keeps at refl spent row x in
          let m = total-snoc (λ (u : View). tally row x u.numbers.spent) left new in omega arith),
    )

get_apart : {A : Type 0} (xs : List A) (i j : ℕ) (w u : A) → j ≢ i → slice_get xs j ≡ Some u
    → slice_get (set xs i w) j ≡ Some u
get_apart [] i j w u n e = e
get_apart (x ∷ xs) zero zero w u n e = absurd (n refl)
get_apart (x ∷ xs) zero (suc j) w u n e = e
get_apart (x ∷ xs) (suc i) zero w u n e = e
get_apart (x ∷ xs) (suc i) (suc j) w u n e = get_apart xs i j w u (λ z. n (ap suc z)) e

pub join_ties : JoinTies
join_ties s id other v u at there apart free =
    let one : View = record { numbers = numbers.joined v.numbers u.numbers; turn = turning.merged v.turn u.turn } in
    let left : List View = set s.views id one in
    let still_there : slice_get left other ≡ Some u = get_apart s.views id other one u apart there in
    let y : 0 + other ≡ other = omega arith in
    let z : 0 + id ≡ id = omega arith in
    let a : doers 0 (set left other no_view) ≡ set (set (doers 0 s.views) id (doer id one.numbers)) other (idle other) =
    doers_set 0 other left u no_view still_there
    ∙ ap (λ (ds : List Doer). set ds other (doer (0 + other) no_view.numbers)) (doers_set 0 id s.views v one at)
    ∙ ap (λ (k : ℕ). set (set (doers 0 s.views) id (doer k one.numbers)) other (doer (0 + other) no_view.numbers)) z
    ∙ ap (λ (k : ℕ). set (set (doers 0 s.views) id (doer id one.numbers)) other (doer k no_view.numbers)) y in
    let h : holder_from 0 (set left other no_view) ≡ holder_from 0 s.views =
    holder_same 0 other left u no_view still_there (sym free) ∙ holder_same 0 id s.views v one at refl in (
      (λ j. record (world_of s) { actors = a j; holder = h j }),
      (λ spent row x.
          let f : View → ℕ = λ w. tally row x w.numbers.spent in
          let t = total_set f s.views id v one at in
          let m = total_set f left other u no_view still_there in
          let b = times-append row x v.numbers.spent u.numbers.spent in
          let h = spent row x in omega arith),
    )
