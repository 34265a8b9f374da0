-- What each step of the definition is, where it is open.
use Rattle.std.proofs.Common.{◌≡◌, ℕ, ◌+◌, ◌<◌, ◌≤◌, max, ltb, leb, true, false, [], ◌∷◌, ◌++◌, set, length, get_or}
use Rattle.std.proofs.Common.{sym, refl, ap, ◌∙◌, arith, Some, slice_get}
use Rattle.std.proofs.lemmas.Bool.Decides.{nat_tests}
use Rattle.sdls_base.specs.KeyId.{end_of}
use Rattle.sdls_world.specs.declared.world.Key.{Key}
use Rattle.sdls_world.specs.declared.world.Step.TheVariants.{Arm, Draw, Peek, Spend, Write, Lift, RaiseNext}
use Rattle.sdls_world.specs.Core.{Doer, Core, key_of, doer_of, holds_turn, drawing, funding, spending, peek_step}
use Rattle.sdls_world.specs.Core.{world_after}
use Rattle.sdls_world.proofs.Places.{place_value, place_there}

lt_test : (m n : ℕ) → m < n → ltb m n ≡ true
lt_test m n h = grind (arith, nat_tests)

le_test : (m n : ℕ) → m ≤ n → leb m n ≡ true
le_test m n h = grind (arith, nat_tests)

-- the element that was reached is the one that was found
same_doer : (w : Core) (place : ℕ) (a b : Doer) → slice_get w.actors place ≡ Some a → b ≡ get_or w.actors place b
    → b ≡ a
same_doer w place a b there is = is ∙ place_value w.actors place a b there

module _ (w : Core) (id place : ℕ) (a b : Doer) (found : doer_of id w.actors ≡ Some (place, a))
    (there : slice_get w.actors place ≡ Some a) (reached : b ≡ get_or w.actors place b) where
  same : b ≡ a
  same = same_doer w place a b there reached

  pub arm_is : (key row : ℕ) (k : Key) (a' : Doer) → key_of key w.keys ≡ Some (row, k) → k.next < end_of k.id
      → a' ≡ record b { armed = Some row } → record w { actors = set w.actors place a' } ≡ world_after w (Arm id key)
  arm_is key row k a' key_found open_to is =
      let new : a' ≡ record a { armed = Some row } =
      is ∙ ap (λ (z : Doer). let r : Doer = record z { armed = Some row } in r) same in
      rw key_found
      (rw (lt_test k.next (end_of k.id) open_to)
      (rw found (ap (λ (z : Doer). let r : Core = record w { actors = set w.actors place z } in r) new)))

  pub draw_is : (row next : ℕ) (k : Key) (a' : Doer) → a.armed ≡ Some row → row < length w.keys
      → k ≡ get_or w.keys row k → next ≡ k.next + 1 → a' ≡ drawing row k.next b
      → record w { keys = set w.keys row (record k { next = next }); actors = set w.actors place a' }
      ≡ world_after w (Draw id)
  draw_is row next k a' armed below k_is next_is is =
      let new : a' ≡ drawing row k.next a = is ∙ ap (drawing row k.next) same in
      let k_there : slice_get w.keys row ≡ Some k = place_there w.keys row k below k_is in
      rw found (rw armed
      (rw k_there (λ j. record w {
        keys = set w.keys row (record k { next = next_is j });
        actors = set w.actors place (new j);
      })))

  pub peek_is : (p : ℕ × ℕ) (k : Key) (a' : Doer) → a.last ≡ Some p → a.is_funded ≡ false → p.0 < length w.keys
      → k ≡ get_or w.keys p.0 k → p.1 < k.limit → a' ≡ funding p b
      → record w { actors = set w.actors place a' } ≡ world_after w (Peek id)
  peek_is p k a' last unfunded below k_is low is =
      let new : a' ≡ funding p a = is ∙ ap (funding p) same in
      let k_there : slice_get w.keys p.0 ≡ Some k = place_there w.keys p.0 k below k_is in
      let step : record w { actors = set w.actors place a' } ≡ peek_step w (place, a) false (Some p) =
      rw k_there
      (rw (lt_test p.1 k.limit low) (ap (λ (z : Doer). let r : Core = record w { actors = set w.actors place z } in
      r) new)) in
      rw found (step ∙ λ j. peek_step w (place, a) (sym unfunded j) (sym last j))

  pub spend_is : (p : ℕ × ℕ) (a' : Doer) → a.last ≡ Some p → a.is_funded ≡ true → a' ≡ spending p b
      → record w { actors = set w.actors place a'; used = w.used ++ p ∷ [] } ≡ world_after w (Spend id)
  spend_is p a' last funded is =
      let new : a' ≡ spending p a = is ∙ ap (spending p) same in
      rw found (rw last
      (rw funded
      (ap (λ (z : Doer). let r : Core = record w { actors = set w.actors place z; used = w.used ++ p ∷ [] } in
      r) new)))

module _ (w : Core) (id key row : ℕ) (k : Key) (holder : holds_turn id w.holder ≡ true)
    (found : key_of key w.keys ≡ Some (row, k)) where
  pub write_is : (mark : ℕ) → k.mark ≤ mark → mark ≤ end_of k.id
      → record w { keys = set w.keys row (record k { mark = mark }) } ≡ world_after w (Write id key mark)
  write_is mark low high =
      rw holder (rw found (rw (le_test k.mark mark low) (rw (le_test mark (end_of k.id) high) refl)))

  pub lift_is : (limit : ℕ) → limit ≡ max k.limit k.durable
      → record w { keys = set w.keys row (record k { limit = limit }) } ≡ world_after w (Lift id key)
  lift_is limit is = rw holder (rw found (λ j. record w { keys = set w.keys row (record k { limit = is j }) }))

  pub raise_is : (number next : ℕ) → number ≤ end_of k.id → next ≡ max k.next number
      → record w { keys = set w.keys row (record k { next = next }) } ≡ world_after w (RaiseNext id key number)
  raise_is number next high is =
      rw holder
      (rw found
      (rw (le_test number (end_of k.id) high) (λ j. record w { keys = set w.keys row (record k { next = is j }) })))
