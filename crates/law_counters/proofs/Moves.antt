-- Each step of the counters, held against its steps in the core.
use Rattle.std.proofs.Common.{◌≡◌, ◌≢◌, ⊎_elim, ℕ, zero, suc, ◌+◌, ◌<◌, ◌≤◌, eqb, nat_lt, nat_le, max, true, false}
use Rattle.std.proofs.Common.{Bool, ◌==◌, ◌&&◌, List, [], ◌∷◌, ◌++◌, map, set, length, get_or-set_other}
use Rattle.std.proofs.Common.{get_or-set_same, eq-eqb, sym, refl, ap, ◌∙◌, subst, arith, Some, None, Option, slice_get}
use Rattle.std.proofs.Common.{slice_index, if◌then◌else◌}
use Rattle.std.proofs.lemmas.Bool.Decides.{nat_tests}
use Rattle.counter_table.specs.declared.view.Known.{Known}
use Rattle.counter_table.specs.declared.view.Turn as known
use Rattle.counter_table.specs.declared.view.View.{View}
use Rattle.counter_table.specs.Known.{known_mark}
use Rattle.counter_table.specs.Numbers as numbers
use Rattle.counter_table.specs.Turn as turning
use Rattle.counter_table.specs.Rule.{epoch_at, next_at, limit_at}
use Rattle.sdls_base.specs.KeyId.{end_of}
use Rattle.sdls_base.specs.Numbers.{one_if, total}
use Rattle.sdls_world.specs.declared.world.Key.{Key}
use Rattle.sdls_world.specs.declared.world.Step.TheVariants.{Arm, Draw, Peek, Spend, See, Take, Give, Write, Sync, Lift}
use Rattle.sdls_world.specs.declared.world.Step.TheVariants.{RaiseNext, Turn}
use Rattle.sdls_world.specs.Core as core
use Rattle.sdls_world.specs.Core.{Doer, Core, world_after, world_after_all, on_found, key_of, doer_of, holds_turn}
use Rattle.sdls_world.proofs.Places.{place_below}
use Rattle.law_counters.specs.Scene.{Scene, IsRuled, doer, doers, key_at, keys_from, holder_from, world_of, limit_of}
use Rattle.law_counters.specs.Scene.{next_of, turn_of, epoch_of}
use Rattle.law_counters.specs.Move.{arms, draws, peeks, sees, takes, gives, lifts, raises, turns, moved, MayMove}
use Rattle.law_counters.specs.Move.{steps_of}
use Rattle.law_counters.specs.Laws.{MovesTie, ToldAfter, StoresTie}
use Rattle.law_counters.proofs.Lists.{key_same, keys_same, keys_set, key_there, key_found, doers_set, doers_same}
use Rattle.law_counters.proofs.Lists.{doer_found, set_twice, set_self}
use Rattle.law_counters.proofs.Holders.{holders, holder_same, nobody, somebody, holder_found, holder_taken}
use Rattle.law_counters.proofs.Holders.{holder_freed}
use Rattle.law_counters.proofs.Sums.{total-map}

-- after the worker at a place came to know this, and after a word was written
abbrev knowing : ℕ → View → Scene → Scene
knowing id v s = record s { views = set s.views id v }

abbrev writing : ℕ → ℕ → Scene → Scene
writing at n s = record s { words = set s.words at n }

lt_true : (x n : ℕ) → x < n → nat_lt x n ≡ true
lt_true x n h = grind (arith, nat_tests)

le_true : (x n : ℕ) → x ≤ n → nat_le x n ≡ true
le_true x n h = grind (arith, nat_tests)

eqb-eq : (m n : ℕ) → eqb m n ≡ true → m ≡ n
eqb-eq m n e = grind (arith, nat_tests)

eqb-ne : (m n : ℕ) → eqb m n ≡ false → m ≢ n
eqb-ne m n e = grind (arith, nat_tests)

module _ {B : Type 0} (told : B → Known) (count : ℕ) (s : Scene) (ruled : IsRuled told count s) where
  abbrev world : Core
  world = world_of s

  -- at most one worker holds the turn: none where its word is 0, and one where it is not
  held : holders s.views ≡ total (λ (v : known.Turn). one_if v.holds) (map (λ (v : View). v.turn) s.views)
  held = sym (total-map (λ (v : known.Turn). one_if v.holds) (λ (v : View). v.turn) s.views)

  one_holder : holders s.views ≤ 1
  one_holder =
      let same = held in
      ⊎_elim (λ h. let f = h.free in omega arith)
      (λ k. ⊎_elim (λ h. let f = h.free in omega arith) (λ o. let f = o.held in omega arith) k)
      ruled.rule.turn.place

  none_where_free : turn_of s ≡ 0 → holders s.views ≡ 0
  none_where_free free =
      let same = held in
      ⊎_elim (λ h. let f = h.free in omega arith)
      (λ k. ⊎_elim (λ h. let f = h.free in omega arith) (λ o. absurd (let t = o.turn in omega arith)) k)
      ruled.rule.turn.place

  one_where_taken : turn_of s ≢ 0 → holders s.views ≡ 1
  one_where_taken taken =
      let same = held in
      ⊎_elim (λ h. absurd (taken h.turn)) (λ k. ⊎_elim (λ h. absurd (taken h.turn)) (λ o. let f = o.held in
      omega arith) k) ruled.rule.turn.place

  -- a word below the rows is in no row
  keys_apart : (at x : ℕ) → at < next_at 0 → keys_from (set s.words at x) s.book 0 s.ids ≡ world.keys
  keys_apart at x low = keys_same s.words (set s.words at x) s.book s.book 0 s.ids (λ row id above.
      key_same s.words (set s.words at x) s.book s.book row id
      (get_or-set_other s.words at (next_at row) x 0 (λ e. omega arith))
      (get_or-set_other s.words at (limit_at row) x 0 (λ e. omega arith)) refl)

  module _ (row key : ℕ) (known : slice_get s.ids row ≡ Some key) where
    abbrev here : Key
    here = key_at s.words s.book row key

    zero-row : 0 + row ≡ row
    zero-row = omega arith

    there : slice_get world.keys row ≡ Some here
    there = key_there s.words s.book 0 row s.ids key known ∙ ap (λ (m : ℕ). Some (key_at s.words s.book m key)) zero-row

    found : key_of key world.keys ≡ Some (row, here)
    found = key_found s.words s.book 0 row s.ids key known ruled.apart
        ∙ ap (λ (m : ℕ). Some (row, key_at s.words s.book m key)) zero-row

    next_fits : next_at row < length s.words
    next_fits = let below = place_below s.ids row key known in let rows = ruled.rows in
        let size = ruled.rule.numbers.size in omega arith

    limit_fits : limit_at row < length s.words
    limit_fits = let below = place_below s.ids row key known in let rows = ruled.rows in
        let size = ruled.rule.numbers.size in omega arith

    -- the key's word was written
    next_written : (n : ℕ) → keys_from (set s.words (next_at row) n) s.book 0 s.ids
        ≡ set world.keys row (record here { next = n })
    next_written n =
        let words' = set s.words (next_at row) n in
        let a : slice_index words' (next_at row) ≡ n = get_or-set_same s.words (next_at row) n 0 next_fits in
        let b : slice_index words' (limit_at row) ≡ slice_index s.words (limit_at row) =
        get_or-set_other s.words (next_at row) (limit_at row) n 0 (λ e. omega arith) in
        let new : key_at words' s.book row key ≡ record here { next = n } =
        λ j. record here { next = a j; limit = b j } in
        keys_set s.words words' s.book s.book 0 row s.ids key (record here { next = n }) known
        (subst (λ (m : ℕ). key_at words' s.book m key ≡ record here { next = n }) (sym zero-row) new)
        (λ q id apart. key_same s.words words' s.book s.book q id
        (get_or-set_other s.words (next_at row) (next_at q) n 0 (λ e. apart (omega arith)))
        (get_or-set_other s.words (next_at row) (limit_at q) n 0 (λ e. omega arith)) refl)

    limit_written : (n : ℕ) → keys_from (set s.words (limit_at row) n) s.book 0 s.ids
        ≡ set world.keys row (record here { limit = n })
    limit_written n =
        let words' = set s.words (limit_at row) n in
        let a : slice_index words' (next_at row) ≡ slice_index s.words (next_at row) =
        get_or-set_other s.words (limit_at row) (next_at row) n 0 (λ e. omega arith) in
        let b : slice_index words' (limit_at row) ≡ n = get_or-set_same s.words (limit_at row) n 0 limit_fits in
        let new : key_at words' s.book row key ≡ record here { limit = n } =
        λ j. record here { next = a j; limit = b j } in
        keys_set s.words words' s.book s.book 0 row s.ids key (record here { limit = n }) known
        (subst (λ (m : ℕ). key_at words' s.book m key ≡ record here { limit = n }) (sym zero-row) new)
        (λ q id apart. key_same s.words words' s.book s.book q id
        (get_or-set_other s.words (limit_at row) (next_at q) n 0 (λ e. omega arith))
        (get_or-set_other s.words (limit_at row) (limit_at q) n 0 (λ e. apart (omega arith))) refl)

  epoch_else : (at n : ℕ) → at ≢ epoch_at → slice_index (set s.words at n) epoch_at ≡ epoch_of s
  epoch_else at n apart = get_or-set_other s.words at epoch_at n 0 (λ e. apart (sym e))

  module _ (id : ℕ) (v : View) (at : slice_get s.views id ≡ Some v) where
    abbrev mine : Doer
    mine = doer id v.numbers

    zero-id : 0 + id ≡ id
    zero-id = omega arith

    actors_set : (w : View) → doers 0 (set s.views id w) ≡ set world.actors id (doer id w.numbers)
    actors_set w = doers_set 0 id s.views v w at ∙ ap (λ (m : ℕ). set world.actors id (doer m w.numbers)) zero-id

    actors_same : (w : View) → doer id w.numbers ≡ mine → doers 0 (set s.views id w) ≡ world.actors
    actors_same w same =
        doers_same 0 id s.views v w at (subst (λ (m : ℕ). doer m w.numbers ≡ doer m v.numbers) (sym zero-id) same)

    holder_stays : (w : View) → w.turn.holds ≡ v.turn.holds → holder_from 0 (set s.views id w) ≡ world.holder
    holder_stays w same = holder_same 0 id s.views v w at same

    found_as : (d : Doer) → d.id ≡ id → doer_of id (set world.actors id d) ≡ Some (id, d)
    found_as d same = subst (λ (m : ℕ). doer_of m (set world.actors id d) ≡ Some (id, d)) zero-id
        (doer_found 0 id s.views v d at (same ∙ sym zero-id))

    found_here : doer_of id world.actors ≡ Some (id, mine)
    found_here =
        let self : set world.actors id mine ≡ world.actors =
        sym (actors_set v) ∙ ap (doers 0) (set_self s.views id v at) in
        ap (doer_of id) (sym self) ∙ found_as mine refl

    module _ (holds : v.turn.holds ≡ true) where
      holder_is : world.holder ≡ Some id
      holder_is = holder_found 0 id s.views v at holds one_holder ∙ ap (λ (m : ℕ). Some m) zero-id

      may : holds_turn id world.holder ≡ true
      may = ap (holds_turn id) holder_is ∙ eq-eqb id id refl

    arm_ties : (row key end : ℕ) → MayMove v (arms row key end) s
        → world_of (moved id v (arms row key end) s) ≡ world_after world (Arm id key)
    arm_ties row key end ok =
        let n = next_of s row in
        subst (λ (e : ℕ). world_of (moved id v (arms row key e) s) ≡ world_after world (Arm id key)) (sym ok.1)
        (by_test row key ok.0 (nat_lt n (end_of key)) refl) where
          armed : ℕ → Bool → View
          armed row b =
              record v {
                numbers = record v.numbers {
                  armed = if b then Some row else v.numbers.armed;
                  nexts = v.numbers.nexts ++ (row, next_of s row) ∷ [];
                };
              }

          reached : (row key : ℕ) → slice_get s.ids row ≡ Some key
              → world_after world (Arm id key)
              ≡ (if nat_lt (next_of s row) (end_of key)
              then record world { actors = set world.actors id (record mine { armed = Some row }) } else world)
          reached row key known =
              ap (λ (o : Option (ℕ × Key)). on_found world o (core.arm_step world id)) (found row key known)
              ∙ ap (λ (o : Option (ℕ × Doer)). if nat_lt (next_of s row) (end_of key)
              then record world { actors = core.arm_found world.actors id row o } else world) found_here

          by_test : (row key : ℕ) → slice_get s.ids row ≡ Some key → (b : Bool)
              → nat_lt (next_of s row) (end_of key) ≡ b
              → world_of (knowing id (armed row (nat_lt (next_of s row) (end_of key))) s)
              ≡ world_after world (Arm id key)
          by_test row key known true e =
              let a = actors_set (armed row true) in
              let h = holder_stays (armed row true) refl in
              ap (λ (t : Bool). world_of (knowing id (armed row t) s)) e
              ∙ (λ j. record world { actors = a j; holder = h j })
              ∙ sym (reached row key known ∙ ap (λ (t : Bool). if t
              then record world { actors = set world.actors id (record mine { armed = Some row }) } else world) e)
          by_test row key known false e =
              let a = actors_same (armed row false) refl in
              let h = holder_stays (armed row false) refl in
              ap (λ (t : Bool). world_of (knowing id (armed row t) s)) e
              ∙ (λ j. record world { actors = a j; holder = h j })
              ∙ sym (reached row key known ∙ ap (λ (t : Bool). if t
              then record world { actors = set world.actors id (record mine { armed = Some row }) } else world) e)

    draw_ties : (row key : ℕ) → MayMove v (draws row key) s → world_of (moved id v (draws row key) s)
        ≡ world_after world (Draw id)
    draw_ties row key ok =
        let n = next_of s row in
        let w : View = record v { numbers = numbers.drawing row n v.numbers } in
        let k = next_written row key ok.0 (n + 1) in
        let a = actors_set w in
        let h = holder_stays w refl in
        let e = epoch_else (next_at row) (n + 1) (λ z. omega arith) in
        (λ j. record { keys = k j; actors = a j; holder = h j; epoch = e j; used = s.used })
        ∙ sym (ap (λ (o : Option (ℕ × Doer)). on_found world o (λ (b : ℕ × Doer). core.draw_step world b b.1.armed))
        found_here
        ∙ ap (core.draw_step world (id, mine)) ok.1 ∙ ap (core.draw_at world (id, mine) row) (there row key ok.0))

    see_ties : world_of (moved id v sees s) ≡ world_after world (See id)
    see_ties =
        let w : View = record v { turn = turning.seeing (epoch_of s) v.turn } in
        let a = actors_same w refl in let h = holder_stays w refl in λ j. record world { actors = a j; holder = h j }

    module _ (row key x : ℕ) (known : slice_get s.ids row ≡ Some key) (last : v.numbers.last ≡ Some (row, x)) where
      peeked : world_after world (Peek id) ≡ (if nat_lt x (limit_of s row)
          then record world { actors = set world.actors id (core.funding (row, x) mine) } else world)
      peeked =
          ap (λ (o : Option (ℕ × Doer)).
          on_found world o (λ (b : ℕ × Doer). core.peek_step world b b.1.is_funded b.1.last)) found_here
          ∙ ap (core.peek_step world (id, mine) false) last ∙ ap (core.peek_at world (id, mine) (row, x))
          (there row key known)

      abbrev looked : Bool → View
      looked b = record v {
        numbers = if b then numbers.spending row x (limit_of s row) v.numbers
            else numbers.returning row (limit_of s row) v.numbers;
      }

      abbrev using : Bool → List (ℕ × ℕ)
      using b = if b then s.used ++ (row, x) ∷ [] else s.used

      abbrev funded : Core
      funded = record world { actors = set world.actors id (core.funding (row, x) mine) }

      by_limit : (b : Bool) → nat_lt x (limit_of s row) ≡ b
          → world_of (knowing id (looked b) (record s { used = using b }))
          ≡ world_after_all world (if b then Peek id ∷ Spend id ∷ [] else Peek id ∷ [])
      by_limit true e =
          let d = core.funding (row, x) mine in
          let looks : world_after world (Peek id) ≡ funded = peeked
          ∙ ap (λ (t : Bool). if t then funded else world) e in
          let spends : world_after funded (Spend id) ≡ record funded {
            actors =
                set funded.actors id (core.spending (row, x) d);
            used = s.used ++ (row, x) ∷ [];
          } =
          ap (λ (o : Option (ℕ × Doer)).
          on_found funded o (λ (b : ℕ × Doer). core.spend_step funded b b.1.is_funded b.1.last)) (found_as d refl)
          ∙ ap (core.spend_step funded (id, d) true) last in
          let a = actors_set (looked true) ∙ sym (set_twice world.actors id d (core.spending (row, x) d)) in
          let h = holder_stays (looked true) refl in
          (λ j. record world { actors = a j; holder = h j; used = s.used ++ (row, x) ∷ [] })
          ∙ sym (ap (λ (k : Core). world_after k (Spend id)) looks ∙ spends)
      by_limit false e =
          let a = actors_same (looked false) refl in
          let h = holder_stays (looked false) refl in
          (λ j. record world { actors = a j; holder = h j })
          ∙ sym (peeked ∙ ap (λ (t : Bool). if t then funded else world) e)

    peek_ties : (row key x : ℕ) → MayMove v (peeks row key x) s → world_of (moved id v (peeks row key x) s)
        ≡ world_after_all world (steps_of id (peeks row key x) s)
    peek_ties row key x ok = by_limit row key x ok.0 ok.1 (nat_lt x (limit_of s row)) refl

    abbrev took : Bool → View
    took b = record v { turn = if b then turning.taking s.book v.turn else v.turn }

    take_ties : world_of (moved id v takes s) ≡ world_after world (Take id)
    take_ties = by_test (turn_of s == 0) refl where
      by_test : (b : Bool) → (turn_of s == 0) ≡ b → world_of (knowing id (took b) (writing 0 2 s))
          ≡ world_after world (Take id)
      by_test true e =
          let none = none_where_free (eqb-eq (turn_of s) 0 e) in
          let k = keys_apart 0 2 (omega arith) in
          let a = actors_same (took true) refl in
          let h = holder_taken 0 id s.views v (took true) at refl none ∙ ap (λ (m : ℕ). Some m) zero-id in
          let p = epoch_else 0 2 (λ z. omega arith) in
          (λ j. record { keys = k j; actors = a j; holder = h j; epoch = p j; used = s.used })
          ∙ sym (ap (core.take_step world id) (nobody 0 s.views none))
      by_test false e =
          let some = one_where_taken (eqb-ne (turn_of s) 0 e) in
          let other = somebody 0 s.views (omega arith) in
          let k = keys_apart 0 2 (omega arith) in
          let a = actors_same (took false) refl in
          let h = holder_stays (took false) refl in
          let p = epoch_else 0 2 (λ z. omega arith) in
          (λ j. record { keys = k j; actors = a j; holder = h j; epoch = p j; used = s.used })
          ∙ sym (ap (core.take_step world id) other.1)

    give_ties : v.turn.holds ≡ true → world_of (moved id v gives s) ≡ world_after world (Give id)
    give_ties holds =
        let w : View = record v { turn = turning.giving s.book v.turn } in
        let k = keys_apart 0 0 (omega arith) in
        let a = actors_same w refl in
        let h = holder_freed 0 id s.views v w at holds refl one_holder in
        let p = epoch_else 0 0 (λ z. omega arith) in
        (λ j. record { keys = k j; actors = a j; holder = h j; epoch = p j; used = s.used })
        ∙ sym (ap (λ (t : Bool). if t then record world { holder = None } else world) (may holds))

    lift_ties : (row key : ℕ) → MayMove v (lifts row key) s → world_of (moved id v (lifts row key) s)
        ≡ world_after world (Lift id key)
    lift_ties row key ok =
        let n = max (limit_of s row) (known_mark s.book row) in
        let w : View = record {
          numbers = numbers.lifting row (known_mark s.book row) v.numbers;
          turn = turning.learning s.book.marks v.turn;
        } in
        let k = limit_written row key ok.0 n in
        let a = actors_same w refl in
        let h = holder_stays w refl in
        let p = epoch_else (limit_at row) n (λ z. omega arith) in
        (λ j. record { keys = k j; actors = a j; holder = h j; epoch = p j; used = s.used })
        ∙ sym (ap (λ (t : Bool). if t then on_found world (key_of key world.keys) (core.lift_step world) else world)
        (may ok.1)
        ∙ ap (λ (o : Option (ℕ × Key)). on_found world o (core.lift_step world)) (found row key ok.0))

    raise_ties : (row key number : ℕ) → MayMove v (raises row key number) s
        → world_of (moved id v (raises row key number) s) ≡ world_after world (RaiseNext id key number)
    raise_ties row key number ok =
        let n = max (next_of s row) number in
        let w : View = record v { numbers = numbers.raising row number (next_of s row) v.numbers } in
        let k = next_written row key ok.0 n in
        let a = actors_same w refl in
        let h = holder_stays w refl in
        let p = epoch_else (next_at row) n (λ z. omega arith) in
        (λ j. record { keys = k j; actors = a j; holder = h j; epoch = p j; used = s.used })
        ∙ sym (ap (λ (t : Bool). if t then on_found world (key_of key world.keys) (core.raise_step world number)
        else world) (may ok.1)
        ∙ ap (λ (o : Option (ℕ × Key)). on_found world o (core.raise_step world number)) (found row key ok.0)
        ∙ ap (λ (t : Bool). if t
        then record world { keys = set world.keys row (record (here row key ok.0) { next = n }) } else world)
        (le_true number (end_of key) ok.2))

    turn_ties : MayMove v turns s → world_of (moved id v turns s) ≡ world_after world (Turn id)
    turn_ties ok =
        let n = epoch_of s in
        let w : View = record v { turn = turning.turning v.turn } in
        let k = keys_apart epoch_at (n + 1) (omega arith) in
        let a = actors_same w refl in
        let h = holder_stays w refl in
        let p : slice_index (set s.words epoch_at (n + 1)) epoch_at ≡ n + 1 =
        get_or-set_same s.words epoch_at (n + 1) 0 (let size = ruled.rule.numbers.size in omega arith) in
        (λ j. record { keys = k j; actors = a j; holder = h j; epoch = p j; used = s.used })
        ∙ sym (ap (λ (t : Bool). if t then record world { epoch = if nat_lt n 18446744073709551615 then n + 1 else n }
        else world) (may ok.0)
        ∙ ap (λ (t : Bool). record world { epoch = if t then n + 1 else n })
        (lt_true n 18446744073709551615 (let low = ok.1 in omega arith)))

pub moves_tie : {B : Type 0} (told : B → Known) → MovesTie told
moves_tie told count s ruled id v at (arms row key end) ok = arm_ties told count s ruled id v at row key end ok
moves_tie told count s ruled id v at (draws row key) ok = draw_ties told count s ruled id v at row key ok
moves_tie told count s ruled id v at (peeks row key x) ok = peek_ties told count s ruled id v at row key x ok
moves_tie told count s ruled id v at sees ok = see_ties told count s ruled id v at
moves_tie told count s ruled id v at takes ok = take_ties told count s ruled id v at
moves_tie told count s ruled id v at gives ok = give_ties told count s ruled id v at ok
moves_tie told count s ruled id v at (lifts row key) ok = lift_ties told count s ruled id v at row key ok
moves_tie told count s ruled id v at (raises row key number) ok =
    raise_ties told count s ruled id v at row key number ok
moves_tie told count s ruled id v at turns ok = turn_ties told count s ruled id v at ok

-- a mark that was written and synced, in each of the keys
synced_all : (words : List ℕ) (book : Known) (n : ℕ) (ids : List ℕ)
    → map core.synced (keys_from words book n ids) ≡ keys_from words book n ids
synced_all words book n [] = refl
synced_all words book n (id ∷ ids) =
    ap (λ (ks : List Key). key_at words book n id ∷ ks) (synced_all words book (suc n) ids)

map_set : {A C : Type 0} (f : A → C) (xs : List A) (i : ℕ) (x : A) → map f (set xs i x) ≡ set (map f xs) i (f x)
map_set f [] i x = refl
map_set f (y ∷ ys) zero x = refl
map_set f (y ∷ ys) (suc i) x = ap (λ zs. f y ∷ zs) (map_set f ys i x)

pub stores_tie : {B : Type 0} (told : B → Known) → StoresTie told
stores_tie told count s ruled id v at holds row key mark later known low one =
    let w = world_of s in
    let k : Key = here told count s ruled row key known in
    let new : Key = record k { mark = mark; durable = mark } in
    let marked : Key = record k { mark = mark } in
    let written : Core = record w { keys = set w.keys row marked } in
    let writes : world_after w (Write id key mark) ≡ written =
    ap (λ (t : Bool). if t then on_found w (key_of key w.keys) (core.write_step w mark) else w)
    (may told count s ruled id v at holds)
    ∙ ap (λ (o : Option (ℕ × Key)). on_found w o (core.write_step w mark)) (found told count s ruled row key known)
    ∙ ap (λ (t : Bool). if t && nat_le mark (end_of key) then written else w)
    (le_true (known_mark s.book row) mark one.above)
    ∙ ap (λ (t : Bool). if t then written else w) (le_true mark (end_of key) low) in
    let synced : Core = record w { keys = map core.synced written.keys } in
    let syncs : world_after written (Sync id) ≡ synced =
    ap (λ (t : Bool). if t then synced else written) (may told count s ruled id v at holds) in
    let all : map core.synced written.keys ≡ set w.keys row new =
    map_set core.synced w.keys row marked ∙ ap (λ (ks : List Key). set ks row new)
    (synced_all s.words s.book 0 s.ids) in
    let m = one.here in
    let z : 0 + row ≡ row = omega arith in
    let same : key_at s.words later row key ≡ new = λ j. record k { mark = m j; durable = m j } in
    let keys : keys_from s.words later 0 s.ids ≡ set w.keys row new =
    keys_set s.words s.words s.book later 0 row s.ids key new known
    (subst (λ (q : ℕ). key_at s.words later q key ≡ new) (sym z) same)
    (λ q id apart. key_same s.words s.words s.book later q id refl refl (one.others q (λ e. apart (omega arith)))) in
    ap (λ (ks : List Key). record w { keys = ks }) (keys ∙ sym all)
    ∙ sym (ap (λ (c : Core). world_after c (Sync id)) writes ∙ syncs)

pub told_after : {B : Type 0} (told : B → Known) → ToldAfter told
told_after told count s (arms row key end) m w tells book = tells.0.1
told_after told count s (draws row key) m w tells book = tells.0.1
told_after told count s (peeks row key number) m w tells book = tells.0.1
told_after told count s sees m w tells book = tells.0.1
told_after told count s takes m w tells book = by_test (turn_of s == 0) refl where
  by_test : (b : Bool) → (turn_of s == 0) ≡ b
      → w.0 ≡ record m.0 { turn = if b then turning.taking s.book m.0.turn else m.0.turn }
  by_test true e =
      let took = tells.0 (eqb-eq (turn_of s) 0 e) in
      took.2 ∙ ap (λ (k : Known). record m.0 { turn = turning.taking k m.0.turn }) (book took.0 took.1)
  by_test false e = ap (λ k. k.0) (tells.1 (eqb-ne (turn_of s) 0 e))
told_after told count s gives m w tells book =
    (tells book.0 book.1).1 ∙ ap (λ (k : Known). record m.0 { turn = turning.giving k m.0.turn }) book.2
told_after told count s (lifts row key) m w tells book = tells.1
told_after told count s (raises row key number) m w tells book = tells.0.1
told_after told count s turns m w tells book = tells.0.1
