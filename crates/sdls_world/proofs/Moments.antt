-- Each step keeps what holds of the pure core.
use Rattle.std.proofs.Common.{◌≡◌, ◌≢◌, ℕ, ◌+◌, ◌<◌, ◌≤◌, max, eqb, ltb, leb, length, true, false, Bool, ◌&&◌, List, []}
use Rattle.std.proofs.Common.{◌∷◌, ◌++◌, map, set, length-set, get_or, take, Result, Ok, Err, OnOk, OnErr, zero, suc}
use Rattle.std.proofs.Common.{sym, refl, ap, ◌∙◌, subst, ⊎_elim, le_trans, arith, Some, None, Option, slice_get}
use Rattle.std.proofs.Common.{if◌then◌else◌, nat_lt, ◌==◌}
use Rattle.std.proofs.lemmas.Bool.Decides.{nat_tests}
use Rattle.sdls_base.specs.KeyId.{end_of}
use Rattle.sdls_world.specs.declared.world.Key.{Key}
use Rattle.sdls_world.specs.declared.world.Step.{Step}
use Rattle.sdls_world.specs.declared.world.Step.TheVariants.{Arm, Draw, Peek, Spend, See, Take, Give, Write, Sync, Lift}
use Rattle.sdls_world.specs.declared.world.Step.TheVariants.{RaiseNext, Turn, Crash}
use Rattle.sdls_world.specs.Core.{Doer, idle, Core, key_of, doer_of, on_found, holds_turn, drawing, funding, spending}
use Rattle.sdls_world.specs.Core.{arm_found, arm_step, draw_at, draw_step, peek_at, peek_step, spend_step, take_step}
use Rattle.sdls_world.specs.Core.{write_step, lift_step, raise_step, synced, restarted, world_after, world_after_all}
use Rattle.sdls_world.specs.Core.{begun}
use Rattle.sdls_world.specs.Core.{beginning}
use Rattle.sdls_base.specs.Numbers.{one_if, tally, total, once_below}
use Rattle.sdls_world.specs.Kept.{is_last, unused, KeyKept, DoerKept, IsWorldKept}
use Rattle.sdls_world.proofs.Places.{get_set, get_snoc, get_map, total_set, total_at, total-snoc, found_at}
use Rattle.sdls_world.proofs.Places.{times-append, once_below_one, once_below_more, once_below_last, once_below_yes}
use Rattle.sdls_world.proofs.Places.{is_pair, same_pair, some_same, length-mapped}

false≢true : false ≡ true → ⊥
false≢true e = cc

-- a key whose words and marks only rose
rises : (row : ℕ) (k k' : Key) (w w' : Core) → k.next ≤ k'.next → k.limit ≤ k'.limit → k.durable ≤ k'.durable
    → k'.limit ≤ k'.durable → k'.durable ≤ k'.mark
    → w'.used ≡ w.used → w'.actors ≡ w.actors → KeyKept row k w → KeyKept row k' w'
rises row k k' w w' next limit durable lifted stored used actors kept =
    record {
      once = λ x. rw used (rw actors (le_trans (kept.once x) (once_below_more x k.next k'.next next)));
      used = λ x. rw used (le_trans (kept.used x) (once_below_more x k.durable k'.durable durable));
      funded = λ i a e x h. let b = kept.funded i a (subst (λ z. slice_get z i ≡ Some a) actors e) x h in omega arith;
      lifted = lifted;
      stored = stored;
    }

-- one key changes, and its words and marks only rise
key_moves : (w : Core) (row : ℕ) (k k' : Key) → IsWorldKept w → slice_get w.keys row ≡ Some k → k.next ≤ k'.next
    → k.limit ≤ k'.limit → k.durable ≤ k'.durable → k'.limit ≤ k'.durable → k'.durable ≤ k'.mark
    → IsWorldKept record w { keys = set w.keys row k' }
key_moves w row k k' kept at next limit durable lifted stored =
    let w' = record w { keys = set w.keys row k' } in
    record {
      keys = λ q c e. ⊎_elim
          (λ s. subst (λ z. KeyKept q z w') s.1
          (subst (λ z. KeyKept z k' w') (sym s.0)
          (rises row k k' w w' next limit durable lifted stored refl refl (kept.keys row k at))))
          (λ o. let old = kept.keys q c o.1 in
          rises q c c w w' (omega arith) (omega arith) (omega arith) old.lifted old.stored refl refl old)
          (get_set w.keys row q k' c e);
      actors = kept.actors;
    }

-- the actors change, and no number is used, drawn or funded
same_actors : (w : Core) (actors : List Doer)
    → ((row x : ℕ) → total (unused row x) actors ≡ total (unused row x) w.actors)
    → ((i : ℕ) (a : Doer) → slice_get actors i ≡ Some a → DoerKept a
    × ((row : ℕ) (k : Key) → slice_get w.keys row ≡ Some k → (x : ℕ) → 0 < tally row x a.funded → x < k.limit))
    → IsWorldKept w → IsWorldKept record w { actors = actors }
same_actors w actors same each kept =
    record {
      keys = λ row k e. let old = kept.keys row k e in
          record {
            once = λ x. let s = same row x in let o = old.once x in omega arith;
            used = old.used;
            funded = λ i a at x h. (each i a at).1 row k e x h;
            lifted = old.lifted;
            stored = old.stored;
          };
      actors = λ i a e. (each i a e).0;
    }

arming : ℕ → Doer → Doer
arming row a = record a { armed = Some row }

-- Arm
arm_keeps : (w : Core) (id row : ℕ) (o : Option (ℕ × Doer)) → doer_of id w.actors ≡ o → IsWorldKept w
    → IsWorldKept record w { actors = arm_found w.actors id row o }
arm_keeps w id row None is kept =
    let a' : Doer = record (idle id) { armed = Some row } in
    same_actors w (w.actors ++ a' ∷ []) (λ q x. total-snoc (unused q x) w.actors a' ∙ omega arith)
    (λ i a e. ⊎_elim (λ old. (kept.actors i a old, λ q k at x h. (kept.keys q k at).funded i a old x h))
    (λ same. subst (λ (z : Doer). DoerKept z
    × ((q : ℕ) (k : Key) → slice_get w.keys q ≡ Some k → (x : ℕ) → 0 < tally q x z.funded → x < k.limit)) same
    (record { drawn = λ q x. omega arith; funded = λ f. absurd (false≢true f) }, λ q k at x h. absurd (omega arith)))
    (get_snoc w.actors a' a i e))
    kept
arm_keeps w id row (Some f) is kept =
    let at = found_at (λ (a : Doer). eqb a.id id) w.actors f.0 f.1 is in
    let a' : Doer = record f.1 { armed = Some row } in
    let old = kept.actors f.0 f.1 at in
    same_actors w (set w.actors f.0 a') (λ q x. let t = total_set (unused q x) w.actors f.0 f.1 a' at in omega arith)
    (λ i a e. ⊎_elim
    (λ same. subst (λ (z : Doer). DoerKept z
    × ((q : ℕ) (k : Key) → slice_get w.keys q ≡ Some k → (x : ℕ) → 0 < tally q x z.funded → x < k.limit)) same.1
    (record { drawn = old.drawn; funded = old.funded }, λ q k k_at x h. (kept.keys q k k_at).funded f.0 f.1 at x h))
    (λ o. (kept.actors i a o.1, λ q k k_at x h. (kept.keys q k k_at).funded i a o.1 x h))
    (get_set w.actors f.0 i a' a e))
    kept

-- Draw
draw_keeps : (w : Core) (i row : ℕ) (a : Doer) (k : Key) → slice_get w.actors i ≡ Some a → slice_get w.keys row ≡ Some k
    → IsWorldKept w
    → IsWorldKept record w {
      keys = set w.keys row (record k { next = k.next + 1 });
      actors = set w.actors i (drawing row k.next a);
    }
draw_keeps w i row a k at k_at kept =
    let a' = drawing row k.next a in
    let w' : Core = record w { keys = set w.keys row (record k { next = k.next + 1 }); actors = set w.actors i a' } in
    let sane = kept.actors i a at in
    record {
      keys = λ q c e. ⊎_elim
          (λ s. subst (λ z. KeyKept q z w') s.1 (subst (λ z. KeyKept z (record k { next = k.next + 1 }) w') (sym s.0)
          (key_drawn w i row a k at kept row k (record k { next = k.next + 1 }) (kept.keys row k k_at) refl refl refl
          (λ x. next_one row x k.next))))
          (λ o. key_drawn w i row a k at kept q c c (kept.keys q c o.1) refl refl refl
          (λ x. other_row row q x k.next (once_below x c.next) (λ z. o.0 (sym z))))
          (get_set w.keys row q (record k { next = k.next + 1 }) c e);
      actors = λ j b e. ⊎_elim
          (λ s. subst DoerKept s.1 record {
            drawn = λ q x. rw (times-append q x a.drawn ((row, k.next) ∷ [])) (let d = sane.drawn q x in omega arith);
            funded = λ f. absurd (false≢true f);
          })
          (λ o. kept.actors j b o.1) (get_set w.actors i j a' b e);
    }
  where
    next_one : (row x n : ℕ) → one_if ((row == row) && (n == x)) + once_below x n ≤ once_below x (n + 1)
    next_one row x n = ⊎_elim (λ y. let l = once_below_last x n y.1 in let z = y.2 in
        omega arith) (λ z. let m = once_below_more x n (n + 1) (omega arith) in omega arith) (is_pair row x (row, n))

    other_row : (row q x n o : ℕ) → row ≢ q → one_if ((row == q) && (n == x)) + o ≤ o
    other_row row q x n o apart = ⊎_elim (λ y. absurd (apart y.0)) (λ z. omega arith) (is_pair q x (row, n))

    key_drawn : (w : Core) (i row : ℕ) (a : Doer) (k : Key) → slice_get w.actors i ≡ Some a → IsWorldKept w
        → (q : ℕ) (c c' : Key) → KeyKept q c w → c'.limit ≡ c.limit → c'.durable ≡ c.durable → c'.mark ≡ c.mark
        → ((x : ℕ) → one_if ((row == q) && (k.next == x)) + once_below x c.next ≤ once_below x c'.next)
        → KeyKept q c' record w {
          keys = set w.keys row (record k { next = k.next + 1 });
          actors = set w.actors i (drawing row k.next a);
        }
    key_drawn w i row a k at kept q c c' old same_limit same_durable same_mark more =
        let sane = kept.actors i a at in
        record {
          once = λ x.
              let t = total_set (unused q x) w.actors i a (drawing row k.next a) at in
              let d = times-append q x a.drawn ((row, k.next) ∷ []) in
              let s = sane.drawn q x in let o = old.once x in let m = more x in omega arith;
          used = λ x. rw same_durable (old.used x);
          funded = λ j b e x h.
              rw same_limit
              (⊎_elim (λ s. old.funded i a at x (subst (λ (z : Doer). 0 < tally q x z.funded) (sym s.1) h))
              (λ o. old.funded j b o.1 x h) (get_set w.actors i j (drawing row k.next a) b e));
          lifted = let l = old.lifted in omega arith;
          stored = let l = old.stored in omega arith;
        }

-- Peek
peek_keeps : (w : Core) (i : ℕ) (a : Doer) (p : ℕ × ℕ) (k : Key) → slice_get w.actors i ≡ Some a → a.last ≡ Some p
    → slice_get w.keys p.0 ≡ Some k → p.1 < k.limit → IsWorldKept w
    → IsWorldKept record w { actors = set w.actors i (funding p a) }
peek_keeps w i a p k at last k_at below kept =
    let sane = kept.actors i a at in
    let a' = funding p a in
    same_actors w (set w.actors i a') (λ q x. let t = total_set (unused q x) w.actors i a a' at in omega arith)
    (λ j b e. ⊎_elim
    (λ same. subst (λ (z : Doer). DoerKept z
    × ((q : ℕ) (c : Key) → slice_get w.keys q ≡ Some c → (x : ℕ) → 0 < tally q x z.funded → x < c.limit)) same.1 (
      record {
        drawn = sane.drawn;
        funded = λ f r is. let s : p ≡ r = some_same (sym last ∙ is) in
            subst (λ (z : ℕ × ℕ). 0 < tally z.0 z.1 (a.funded ++ p ∷ [])) s (let o = same_pair p in
            let t = times-append p.0 p.1 a.funded (p ∷ []) in omega arith);
      },
      λ q c c_at x h.
          let t = times-append q x a.funded (p ∷ []) in
          ⊎_elim
          (λ y. let same_key : c ≡ k = some_same (sym c_at ∙ (ap (slice_get w.keys) (sym y.0) ∙ k_at)) in
          let l : c.limit ≡ k.limit = ap (λ z. z.limit) same_key in let n = y.1 in omega arith)
          (λ z. (kept.keys q c c_at).funded i a at x (omega arith))
          (is_pair q x p),
    ))
    (λ o. (kept.actors j b o.1, λ q c c_at x h. (kept.keys q c c_at).funded j b o.1 x h))
    (get_set w.actors i j a' b e))
    kept

-- Spend
spend_keeps : (w : Core) (i : ℕ) (a : Doer) (p : ℕ × ℕ) → slice_get w.actors i ≡ Some a → a.last ≡ Some p
    → a.is_funded ≡ true → IsWorldKept w
    → IsWorldKept record w { actors = set w.actors i (spending p a); used = w.used ++ p ∷ [] }
spend_keeps w i a p at last is_funded kept =
    let sane = kept.actors i a at in
    let a' = spending p a in
    let is : (q x : ℕ) → is_last q x a.last ≡ one_if ((p.0 == q) && (p.1 == x)) = λ q x. ap (is_last q x) last in
    record {
      keys = λ q c c_at. let old = kept.keys q c c_at in
          record {
            once = λ x.
                let t = total_set (unused q x) w.actors i a a' at in
                let s = sane.drawn q x in let e = is q x in
                let u = times-append q x a.spent (p ∷ []) in let v = times-append q x w.used (p ∷ []) in
                let o = old.once x in omega arith;
            used = λ x.
                let v = times-append q x w.used (p ∷ []) in
                ⊎_elim
                (λ y.
                let below : x < c.limit =
                old.funded i a at x (subst (λ (z : ℕ × ℕ). 0 < tally z.0 z.1 a.funded) (pair_is p q x y.0 y.1)
                (sane.funded is_funded p last)) in
                let l = old.lifted in let one = once_below_yes x c.durable (omega arith) in
                let most = once_below_one x c.next in
                let t = total_at (unused q x) w.actors i a at in
                let s = sane.drawn q x in let e = is q x in let o = old.once x in let z = y.2 in omega arith)
                (λ z. let u = old.used x in omega arith)
                (is_pair q x p);
            funded = λ j b e x h.
                ⊎_elim (λ s. old.funded i a at x (subst (λ (z : Doer). 0 < tally q x z.funded) (sym s.1) h))
                (λ o. old.funded j b o.1 x h) (get_set w.actors i j a' b e);
            lifted = old.lifted;
            stored = old.stored;
          };
      actors = λ j b e. ⊎_elim
          (λ s. subst DoerKept s.1 record {
            drawn = λ q x. rw (times-append q x a.spent (p ∷ [])) (let d = sane.drawn q x in let l = is q x in
                omega arith);
            funded = λ f. absurd (false≢true f);
          })
          (λ o. kept.actors j b o.1) (get_set w.actors i j a' b e);
    }
  where
    pair_is : (p : ℕ × ℕ) (q x : ℕ) → p.0 ≡ q → p.1 ≡ x → p ≡ (q, x)
    pair_is p q x e f = λ j. (e j, f j)

-- all keys change, and their words and marks only rise
synced_keeps : (w : Core) → IsWorldKept w → IsWorldKept record w { keys = map synced w.keys }
synced_keeps w kept =
    let w' = record w { keys = map synced w.keys } in
    record {
      keys = λ q c e. let f = get_map synced w.keys q c e in let old = kept.keys q f.0 f.1 in
          subst (λ z. KeyKept q z w') f.2
          (rises q f.0 (synced f.0) w w' (omega arith) (omega arith) (let s = old.stored in
          omega arith) (let l = old.lifted in let s = old.stored in omega arith) (omega arith) refl refl old);
      actors = kept.actors;
    }

crash_keeps : (w : Core) → IsWorldKept w → IsWorldKept record {
  keys = map restarted w.keys;
  actors = [];
  holder = None;
  epoch = 0;
  used = w.used;
}
crash_keeps w kept =
    let w' : Core = record { keys = map restarted w.keys; actors = []; holder = None; epoch = 0; used = w.used } in
    record {
      keys = λ q c e. let f = get_map restarted w.keys q c e in let old = kept.keys q f.0 f.1 in
          subst (λ z. KeyKept q z w') f.2
          record {
            once = λ x. let u = old.used x in omega arith;
            used = old.used;
            funded = λ i a k x h. absurd (let n : None ≡ Some a = k in cc);
            lifted = omega arith;
            stored = omega arith;
          };
      actors = λ i a k. absurd (let n : None ≡ Some a = k in cc);
    }

-- the holder and the epoch are no part of it
same_core : (w : Core) (holder : Option ℕ) (epoch : ℕ) → IsWorldKept w
    → IsWorldKept record w { holder = holder; epoch = epoch }
same_core w holder epoch kept =
    let w' : Core = record w { holder = holder; epoch = epoch } in
    record {
      keys = λ q c e. let old = kept.keys q c e in
          rises q c c w w' (omega arith) (omega arith) (omega arith) old.lifted old.stored refl refl old;
      actors = kept.actors;
    }

if_keeps : (w w' : Core) (b : Bool) → IsWorldKept w → IsWorldKept w' → IsWorldKept (if b then w' else w)
if_keeps w w' true kept kept' = kept'
if_keeps w w' false kept kept' = kept

on_keeps : {X : Type 0} (w : Core) (o : Option X) (f : X → Core) → IsWorldKept w
    → ((x : X) → o ≡ Some x → IsWorldKept (f x)) → IsWorldKept (on_found w o f)
on_keeps w None f kept each = kept
on_keeps w (Some x) f kept each = each x refl

key_at : (w : Core) (id : ℕ) (f : ℕ × Key) → key_of id w.keys ≡ Some f → slice_get w.keys f.0 ≡ Some f.1
key_at w id f e = found_at (λ (k : Key). eqb k.id id) w.keys f.0 f.1 e

doer_at : (w : Core) (id : ℕ) (f : ℕ × Doer) → doer_of id w.actors ≡ Some f → slice_get w.actors f.0 ≡ Some f.1
doer_at w id f e = found_at (λ (a : Doer). eqb a.id id) w.actors f.0 f.1 e

draw_step_keeps : (w : Core) (a : ℕ × Doer) → slice_get w.actors a.0 ≡ Some a.1 → IsWorldKept w → (armed : Option ℕ)
    → IsWorldKept (draw_step w a armed)
draw_step_keeps w a at kept None = kept
draw_step_keeps w a at kept (Some row) = go (slice_get w.keys row) refl
  where
    go : (o : Option Key) → slice_get w.keys row ≡ o → IsWorldKept (draw_at w a row o)
    go None e = kept
    go (Some k) e = draw_keeps w a.0 row a.1 k at e kept

peek_step_keeps : (w : Core) (a : ℕ × Doer) → slice_get w.actors a.0 ≡ Some a.1 → IsWorldKept w
    → (funded : Bool) (last : Option (ℕ × ℕ)) → a.1.last ≡ last → IsWorldKept (peek_step w a funded last)
peek_step_keeps w a at kept funded None e = kept
peek_step_keeps w a at kept true (Some p) e = kept
peek_step_keeps w a at kept false (Some p) e = go (slice_get w.keys p.0) refl
  where
    below : (k : Key) → slice_get w.keys p.0 ≡ Some k → (b : Bool) → ltb p.1 k.limit ≡ b
        → IsWorldKept (if b then record w { actors = set w.actors a.0 (funding p a.1) } else w)
    below k k_at true is = let lt : p.1 < k.limit = grind (arith, nat_tests) in
        peek_keeps w a.0 a.1 p k at e k_at lt kept
    below k k_at false is = kept

    go : (o : Option Key) → slice_get w.keys p.0 ≡ o → IsWorldKept (peek_at w a p o)
    go None k = kept
    go (Some c) k = below c k (ltb p.1 c.limit) refl

spend_step_keeps : (w : Core) (a : ℕ × Doer) → slice_get w.actors a.0 ≡ Some a.1 → IsWorldKept w
    → (funded : Bool) (last : Option (ℕ × ℕ)) → a.1.is_funded ≡ funded → a.1.last ≡ last
    → IsWorldKept (spend_step w a funded last)
spend_step_keeps w a at kept funded None f e = kept
spend_step_keeps w a at kept false (Some p) f e = kept
spend_step_keeps w a at kept true (Some p) f e = spend_keeps w a.0 a.1 p at e f kept

write_step_keeps : (w : Core) (mark : ℕ) (k : ℕ × Key) → slice_get w.keys k.0 ≡ Some k.1 → IsWorldKept w → (b c : Bool)
    → leb k.1.mark mark ≡ b
    → IsWorldKept (if b && c then record w { keys = set w.keys k.0 (record k.1 { mark = mark }) } else w)
write_step_keeps w mark k at kept true true is =
    let old = kept.keys k.0 k.1 at in let le : k.1.mark ≤ mark = grind (arith, nat_tests) in
    key_moves w k.0 k.1 (record k.1 { mark = mark }) kept at (omega arith) (omega arith) (omega arith) old.lifted
    (let s = old.stored in omega arith)
write_step_keeps w mark k at kept true false is = kept
write_step_keeps w mark k at kept false c is = kept

lift_step_keeps : (w : Core) (k : ℕ × Key) → slice_get w.keys k.0 ≡ Some k.1 → IsWorldKept w
    → IsWorldKept (lift_step w k)
lift_step_keeps w k at kept =
    let old = kept.keys k.0 k.1 at in
    key_moves w k.0 k.1 (record k.1 { limit = max k.1.limit k.1.durable }) kept at (omega arith) (omega arith)
    (omega arith) (let l = old.lifted in omega arith) old.stored

raise_step_keeps : (w : Core) (number : ℕ) (k : ℕ × Key) → slice_get w.keys k.0 ≡ Some k.1 → IsWorldKept w
    → IsWorldKept (raise_step w number k)
raise_step_keeps w number k at kept =
    let old = kept.keys k.0 k.1 at in
    if_keeps w (record w { keys = set w.keys k.0 (record k.1 { next = max k.1.next number }) })
    (leb number (end_of k.1.id)) kept
    (key_moves w k.0 k.1 (record k.1 { next = max k.1.next number }) kept at (omega arith) (omega arith) (omega arith)
    old.lifted old.stored)

take_step_keeps : (w : Core) (id : ℕ) (o : Option ℕ) → IsWorldKept w → IsWorldKept (take_step w id o)
take_step_keeps w id None kept = same_core w (Some id) w.epoch kept
take_step_keeps w id (Some h) kept = kept

-- each step keeps it
pub step_keeps : (w : Core) (s : Step) → IsWorldKept w → IsWorldKept (world_after w s)
step_keeps w (Arm actor key) kept = on_keeps w (key_of key w.keys) (arm_step w actor) kept (λ k e.
    if_keeps w (record w { actors = arm_found w.actors actor k.0 (doer_of actor w.actors) })
    (ltb k.1.next (end_of k.1.id)) kept (arm_keeps w actor k.0 (doer_of actor w.actors) refl kept))
step_keeps w (Draw actor) kept =
    on_keeps w (doer_of actor w.actors) (λ a. draw_step w a a.1.armed) kept
    (λ a e. draw_step_keeps w a (doer_at w actor a e) kept a.1.armed)
step_keeps w (Peek actor) kept =
    on_keeps w (doer_of actor w.actors) (λ a. peek_step w a a.1.is_funded a.1.last) kept
    (λ a e. peek_step_keeps w a (doer_at w actor a e) kept a.1.is_funded a.1.last refl)
step_keeps w (Spend actor) kept =
    on_keeps w (doer_of actor w.actors) (λ a. spend_step w a a.1.is_funded a.1.last) kept
    (λ a e. spend_step_keeps w a (doer_at w actor a e) kept a.1.is_funded a.1.last refl refl)
step_keeps w (See actor) kept = kept
step_keeps w (Take actor) kept = take_step_keeps w actor w.holder kept
step_keeps w (Give actor) kept =
    if_keeps w (record w { holder = None }) (holds_turn actor w.holder) kept (same_core w None w.epoch kept)
step_keeps w (Write actor key mark) kept =
    if_keeps w (on_found w (key_of key w.keys) (write_step w mark)) (holds_turn actor w.holder) kept
    (on_keeps w (key_of key w.keys) (write_step w mark) kept
    (λ k e. write_step_keeps w mark k (key_at w key k e) kept (leb k.1.mark mark) (leb mark (end_of k.1.id)) refl))
step_keeps w (Sync actor) kept =
    if_keeps w (record w { keys = map synced w.keys }) (holds_turn actor w.holder) kept (synced_keeps w kept)
step_keeps w (Lift actor key) kept =
    if_keeps w (on_found w (key_of key w.keys) (lift_step w)) (holds_turn actor w.holder) kept
    (on_keeps w (key_of key w.keys) (lift_step w) kept (λ k e. lift_step_keeps w k (key_at w key k e) kept))
step_keeps w (RaiseNext actor key number) kept =
    if_keeps w (on_found w (key_of key w.keys) (raise_step w number)) (holds_turn actor w.holder) kept
    (on_keeps w (key_of key w.keys) (raise_step w number) kept
    (λ k e. raise_step_keeps w number k (key_at w key k e) kept))
step_keeps w (Turn actor) kept =
    let epoch = if nat_lt w.epoch 18446744073709551615 then w.epoch + 1 else w.epoch in
    if_keeps w (record w { epoch = epoch }) (holds_turn actor w.holder) kept (same_core w w.holder epoch kept)
step_keeps w Crash kept = crash_keeps w kept

-- and so does each list of steps
pub steps_keep : (w : Core) (steps : List Step) → IsWorldKept w → IsWorldKept (world_after_all w steps)
steps_keep w [] kept = kept
steps_keep w (s ∷ ss) kept = steps_keep (world_after w s) ss (step_keeps w s kept)

-- it holds at the beginning
pub beginning_kept : (keys : List (ℕ × ℕ)) → IsWorldKept (beginning keys)
beginning_kept keys =
    record {
      keys = λ q c e. let f = get_map begun keys q c e in
          subst (λ z. KeyKept q z (beginning keys)) f.2
          record {
            once = λ x. omega arith;
            used = λ x. omega arith;
            funded = λ i a k x h. absurd (let n : None ≡ Some a = k in cc);
            lifted = omega arith;
            stored = omega arith;
          };
      actors = λ i a k. absurd (let n : None ≡ Some a = k in cc);
    }

-- a row that was there at the beginning is there after every list of steps
if_count : (n : ℕ) (w w' : Core) (b : Bool) → length w.keys ≡ n → length w'.keys ≡ n
    → length (if b then w' else w).keys ≡ n
if_count n w w' true e f = f
if_count n w w' false e f = e

on_count : {X : Type 0} (n : ℕ) (w : Core) (o : Option X) (f : X → Core) → length w.keys ≡ n
    → ((x : X) → length (f x).keys ≡ n) → length (on_found w o f).keys ≡ n
on_count n w None f e each = e
on_count n w (Some x) f e each = each x

draw_count : (w : Core) (a : ℕ × Doer) (armed : Option ℕ) → length (draw_step w a armed).keys ≡ length w.keys
draw_count w a None = refl
draw_count w a (Some row) = go (slice_get w.keys row)
  where
    go : (o : Option Key) → length (draw_at w a row o).keys ≡ length w.keys
    go None = refl
    go (Some k) = length-set w.keys row (record k { next = k.next + 1 })

peek_count : (w : Core) (a : ℕ × Doer) (funded : Bool) (last : Option (ℕ × ℕ))
    → length (peek_step w a funded last).keys ≡ length w.keys
peek_count w a funded None = refl
peek_count w a true (Some p) = refl
peek_count w a false (Some p) = go (slice_get w.keys p.0)
  where
    go : (o : Option Key) → length (peek_at w a p o).keys ≡ length w.keys
    go None = refl
    go (Some k) = if_count (length w.keys) w (record w { actors = set w.actors a.0 (funding p a.1) }) (ltb p.1 k.limit)
        refl refl

spend_count : (w : Core) (a : ℕ × Doer) (funded : Bool) (last : Option (ℕ × ℕ))
    → length (spend_step w a funded last).keys ≡ length w.keys
spend_count w a funded None = refl
spend_count w a false (Some p) = refl
spend_count w a true (Some p) = refl

take_count : (w : Core) (id : ℕ) (o : Option ℕ) → length (take_step w id o).keys ≡ length w.keys
take_count w id None = refl
take_count w id (Some h) = refl

same_count : (w : Core) (s : Step) → length (world_after w s).keys ≡ length w.keys
same_count w (Arm actor key) =
    on_count _ w (key_of key w.keys) (arm_step w actor) refl
    (λ k. if_count _ w (record w { actors = arm_found w.actors actor k.0 (doer_of actor w.actors) })
    (ltb k.1.next (end_of k.1.id)) refl refl)
same_count w (Draw actor) = on_count _ w (doer_of actor w.actors) (λ a. draw_step w a a.1.armed) refl
    (λ a. draw_count w a a.1.armed)
same_count w (Peek actor) = on_count _ w (doer_of actor w.actors) (λ a. peek_step w a a.1.is_funded a.1.last) refl
    (λ a. peek_count w a a.1.is_funded a.1.last)
same_count w (Spend actor) = on_count _ w (doer_of actor w.actors) (λ a. spend_step w a a.1.is_funded a.1.last) refl
    (λ a. spend_count w a a.1.is_funded a.1.last)
same_count w (See actor) = refl
same_count w (Take actor) = take_count w actor w.holder
same_count w (Give actor) = if_count _ w (record w { holder = None }) (holds_turn actor w.holder) refl refl
same_count w (Write actor key mark) =
    if_count _ w (on_found w (key_of key w.keys) (write_step w mark)) (holds_turn actor w.holder) refl
    (on_count _ w (key_of key w.keys) (write_step w mark) refl
    (λ k. if_count _ w (record w { keys = set w.keys k.0 (record k.1 { mark = mark }) })
    ((leb k.1.mark mark) && (leb mark (end_of k.1.id))) refl (length-set w.keys k.0 (record k.1 { mark = mark }))))
same_count w (Sync actor) = if_count _ w (record w { keys = map synced w.keys }) (holds_turn actor w.holder) refl
    (length-mapped synced w.keys)
same_count w (Lift actor key) =
    if_count _ w (on_found w (key_of key w.keys) (lift_step w)) (holds_turn actor w.holder) refl
    (on_count _ w (key_of key w.keys) (lift_step w) refl
    (λ k. length-set w.keys k.0 (record k.1 { limit = max k.1.limit k.1.durable })))
same_count w (RaiseNext actor key number) =
    if_count _ w (on_found w (key_of key w.keys) (raise_step w number)) (holds_turn actor w.holder) refl
    (on_count _ w (key_of key w.keys) (raise_step w number) refl
    (λ k. if_count _ w (record w { keys = set w.keys k.0 (record k.1 { next = max k.1.next number }) })
    (leb number (end_of k.1.id)) refl (length-set w.keys k.0 (record k.1 { next = max k.1.next number }))))
same_count w (Turn actor) =
    if_count _ w (record w { epoch = if nat_lt w.epoch 18446744073709551615 then w.epoch + 1 else w.epoch })
    (holds_turn actor w.holder) refl refl
same_count w Crash = length-mapped restarted w.keys

same_counts : (w : Core) (steps : List Step) → length (world_after_all w steps).keys ≡ length w.keys
same_counts w [] = refl
same_counts w (s ∷ ss) = same_counts (world_after w s) ss ∙ same_count w s

there : (keys : List Key) (row : ℕ) → row < length keys → (k : Key) × (slice_get keys row ≡ Some k)
there [] row b = absurd (omega arith)
there (k ∷ ks) zero b = (k, refl)
there (k ∷ ks) (suc row) b = there ks row (omega arith)

pub used_differ : (keys : List (ℕ × ℕ)) (steps : List Step) (row x : ℕ) → row < length keys
    → tally row x (world_after_all (beginning keys) steps).used ≤ 1
used_differ keys steps row x b =
    let w = world_after_all (beginning keys) steps in
    let count : length w.keys ≡ length keys = same_counts (beginning keys) steps ∙ length-mapped begun keys in
    let k = there w.keys row (omega arith) in
    let kept = (steps_keep (beginning keys) steps (beginning_kept keys)).keys row k.0 k.1 in
    let u = kept.used x in let one = once_below_one x k.0.durable in omega arith

-- one more step
after_suc : (w : Core) (steps : List Step) (i : ℕ) (s : Step) → i < length steps → s ≡ get_or steps i s
    → world_after_all w (take (suc i) steps) ≡ world_after (world_after_all w (take i steps)) s
after_suc w [] i s b e = absurd (omega arith)
after_suc w (x ∷ xs) zero s b e = ap (world_after w) (sym e)
after_suc w (x ∷ xs) (suc i) s b e = after_suc (world_after w x) xs i s (omega arith) e

pub after_more : (w : Core) (steps : List Step) (i : ℕ) (s : Step) → i < length steps → s ≡ get_or steps i s
    → world_after_all w (take (i + 1) steps) ≡ world_after (world_after_all w (take i steps)) s
after_more w steps i s b e = let n : i + 1 ≡ suc i = omega arith in
    ap (λ k. world_after_all w (take k steps)) n ∙ after_suc w steps i s b e

pub take_whole : (w : Core) (steps : List Step) (i : ℕ) → length steps ≤ i
    → world_after_all w (take i steps) ≡ world_after_all w steps
take_whole w [] zero b = refl
take_whole w [] (suc i) b = refl
take_whole w (x ∷ xs) zero b = absurd (omega arith)
take_whole w (x ∷ xs) (suc i) b = take_whole (world_after w x) xs i (omega arith)

-- whatever a call answers
pub answer_keeps : {E : Type 0} (r : Result (Unit {0}) E) (w w' : Core) (s : Step) → OnOk r (w' ≡ world_after w s)
    → OnErr r (w' ≡ w) → IsWorldKept w → IsWorldKept w'
answer_keeps (Ok u) w w' s ok err kept = subst IsWorldKept (sym ok) (step_keeps w s kept)
answer_keeps (Err e) w w' s ok err kept = subst IsWorldKept (sym err) kept

pub answers_keep : {E : Type 0} (r : Result (Unit {0}) E) (w w' : Core) (steps : List Step)
    → OnOk r (w' ≡ world_after_all w steps) → OnErr r ((count : ℕ) × (w' ≡ world_after_all w (take count steps)))
    → IsWorldKept w
    → IsWorldKept w'
answers_keep (Ok u) w w' steps ok err kept = subst IsWorldKept (sym ok) (steps_keep w steps kept)
answers_keep (Err e) w w' steps ok err kept = subst IsWorldKept (sym err.1) (steps_keep w (take err.0 steps) kept)
