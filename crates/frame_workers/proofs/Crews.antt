-- Lanes that ran one after the other in the list, for the promise of a crew.
use Rattle.std.proofs.Common.{◌≡◌, ℕ, Bool, ◌<◌, zero, suc, List, [], ◌∷◌, ◌++◌, length, Some, sym, ap, ◌∙◌, subst}
use Rattle.std.proofs.Common.{arith, append_assoc, length-append}
use mathlib.Core.List.{IsPrefix}
use Rattle.std.specs.List.{slice_get, slice_index_or}
use Rattle.std.proofs.lemmas.Option.{slice_get_within}
use Rattle.frame_workers.specs.declared.lane.Lane.{Lane}
use Rattle.record_io.specs.declared.item_cursor.Record.{Record}
use Rattle.counter_table.specs.declared.counters.Worker.{Worker}
use Rattle.frame_workers.specs.Lanes.{HasRun, HaveRun}

-- what stands at a place stands there still once more is added
pub stays : {A : Type 0} (xs more : List A) (k : ℕ) (x : A) → slice_get xs k ≡ Some x
    → slice_get (xs ++ more) k ≡ Some x
stays [] more k x is = absurd (let low = slice_get_within [] k x is in omega arith)
stays (y ∷ xs) more zero x is = is
stays (y ∷ xs) more (suc k) x is = stays xs more k x is

pub follows : {A : Type 0} (a b c : List A) → IsPrefix a b → IsPrefix b c → IsPrefix a c
follows a b c (m, first) (n, second) =
    (m ++ n, sym (append_assoc a m n) ∙ (ap (λ l. l ++ n) first ∙ second))

module _ {B : Type 0} (H : B → B → Type 0) where
  pub pushed : (old new : List B) → length new ≡ length old
      → ((k : ℕ) (d : B) → k < length old → H (slice_index_or old k d) (slice_index_or new k d))
      → (one other : B) → H one other → (k : ℕ) (d : B) → k < length (old ++ one ∷ [])
      → H (slice_index_or (old ++ one ∷ []) k d) (slice_index_or (new ++ other ∷ []) k d)
  pushed [] [] many each one other h zero d low = h
  pushed [] [] many each one other h (suc k) d low = absurd (omega arith)
  pushed [] (y ∷ new) many each one other h k d low = absurd (omega arith)
  pushed (x ∷ old) [] many each one other h k d low = absurd (omega arith)
  pushed (x ∷ old) (y ∷ new) many each one other h zero d low = each zero d (omega arith)
  pushed (x ∷ old) (y ∷ new) many each one other h (suc k) d low =
      pushed old new (omega arith) (λ j e inside. each (suc j) e (omega arith)) one other h k d (omega arith)

-- the lanes ran, and so did one that was taken off the end and is added again
pub have_run : {B : Type 0} (ready : Worker B → Type 0) (told : Bool) (tasks : List Record)
    (old new before after : List (Lane B))
    (one other : Lane B) → before ≡ old ++ one ∷ [] → after ≡ new ++ other ∷ [] → HaveRun ready told tasks old new
    → HasRun ready told tasks one other → HaveRun ready told tasks before after
have_run ready told tasks old new before after one other before_is after_is ran last =
    let longer = length-append old (one ∷ []) in let longer_after = length-append new (other ∷ []) in
    let many = ran.many in
    subst (λ (l : List (Lane _)). HaveRun ready told tasks l after) (sym before_is)
    (subst (λ (l : List (Lane _)). HaveRun ready told tasks (old ++ one ∷ []) l) (sym after_is) (record {
      many = omega arith;
      each = pushed (HasRun ready told tasks) old new ran.many ran.each one other last;
    }))
