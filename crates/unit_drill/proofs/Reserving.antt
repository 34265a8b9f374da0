-- The history of a drill's sender: reserves alone, each a block above the mark.
use Rattle.std.proofs.Common.{◌≡◌, ℕ, ◌+◌, ◌*◌, ◌<◌, ◌≤◌, min, if◌then◌else◌, Bool, true, false, List, [], ◌∷◌, ◌++◌}
use Rattle.std.proofs.Common.{length, refl, sym, ◌∙◌, ap, subst, arith}
use Rattle.std.proofs.lemmas.List.{length-append}
use Rattle.sdls_base.specs.KeyId.{end_of}
use Rattle.sdls_base.specs.declared.entry.Change.TheVariants.{Marks}
use Rattle.sdls_base.specs.declared.entry.Entry.{Entry}
use Rattle.sdls_base.specs.declared.states.Direction.TheVariants.{Send}
use Rattle.unit_state.specs.declared.state.State.{State}
use Rattle.unit_state.specs.Applied.{applied}
use Rattle.unit_state.specs.History.{after_all, epoch_after}
use Rattle.unit_state.specs.Restart.{counts}
use Rattle.unit_state.proofs.Histories.{after_more, epochs_more}
use Rattle.run_promise.specs.History.{IsReserve}
use Rattle.run_promise.specs.Numbers.{mark_of, floor_of, reserve_of}
use Rattle.unit_drill.proofs.Read.{sender_bare}
use Rattle.unit_drill.proofs.Lanes.{begun, each, end_on, floor_on, four, key_lane, key_on, mark_on, marked_on, state_at}
use Rattle.unit_drill.proofs.Lanes.{with_on}

abbrev pub sending : (ℕ → ℕ) → State
sending marks = state_at 1 Send marks begun (each 0)

abbrev pub all_marks : (ℕ → ℕ) → ℕ
all_marks marks = marks 0 + marks 1 + marks 2 + marks 3

-- After these entries the state has these marks, none above the bound by more than a block; each entry raised one by a
-- block at
-- least, and none counts for the epoch.
pub record Reserved (es : List Entry) (bound : ℕ) : Type 0 where
  pub marks : ℕ → ℕ
  pub is : after_all (sending (each 1)) es ≡ sending marks
  pub low : (lane : ℕ) → lane < 4 → marks lane ≤ bound + 64
  pub grown : 64 * length es + 4 ≤ all_marks marks
  pub epoch : epoch_after es ≡ 0

pub none_reserved : (bound : ℕ) → 0 < bound → Reserved [] bound
none_reserved bound some = record {
  marks = each 1;
  is = refl;
  low = λ lane within. omega arith;
  grown = omega arith;
  epoch = refl;
}

cond_low : (b : Bool) (x y most : ℕ) → x ≤ most → y ≤ most → (if b then x else y) ≤ most
cond_low true x y most h k = h
cond_low false x y most h k = k

sum_with : (marks : ℕ → ℕ) (x lane : ℕ) → lane < 4 → all_marks (with_on lane x marks) + marks lane ≡ all_marks marks + x
sum_with marks x = four _ (omega arith) (omega arith) (omega arith) (omega arith)

same_reserve : (marks : ℕ → ℕ) (number lane : ℕ) → lane < 4 → number + 64 ≤ end_of (key_on lane)
    → (reserve_of sender_bare (sending marks) (key_on lane) number).change ≡ Marks (key_on lane) (number + 64) 0
same_reserve marks number lane low below =
    let most : min (number + 64) (end_of (key_on lane)) ≡ number + 64 = omega arith in
    ap (λ (m : ℕ). Marks (key_on lane) m (floor_of (sending marks) (key_on lane))) most
    ∙ ap (Marks (key_on lane) (number + 64)) (floor_on 1 Send marks begun (each 0) lane low)

-- one reserve more
pub reserved_more : (near : ℕ → ℕ → Type 0) (es : List Entry) (bound : ℕ) (entry : Entry) → bound ≤ 200000
    → ((lane number : ℕ) → lane < 4 → near (key_on lane) number → number ≤ bound)
    → Reserved es bound → IsReserve near sender_bare (after_all (sending (each 1)) es) entry
    → Reserved (es ++ entry ∷ []) bound
reserved_more near es bound entry small near_low so_far reserves =
    let marks = so_far.marks in
    let r : IsReserve near sender_bare (sending marks) entry =
    subst (λ (s : State). IsReserve near sender_bare s entry) so_far.is reserves in
    let (lane, low, same) = key_lane 1 Send marks begun (each 0) r.key r.there in
    let number = r.number in
    let is_near : near (key_on lane) number = subst (λ (k : ℕ). near k number) (sym same) r.is_near in
    let most : number ≤ bound = near_low lane number low is_near in
    let unmarked : mark_of (sending marks) (key_on lane) ≤ number =
    subst (λ (k : ℕ). mark_of (sending marks) k ≤ number) (sym same) r.unmarked in
    let at_mark = mark_on 1 Send marks begun (each 0) lane low in
    let end = end_on lane low in
    let change : entry.change ≡ Marks (key_on lane) (number + 64) 0 =
    ap (λ (e : Entry). e.change) r.entry_is
    ∙ (ap (λ (k : ℕ). (reserve_of sender_bare (sending marks) k number).change) (sym same)
    ∙ same_reserve marks number lane low (omega arith)) in
    let next : after_all (sending (each 1)) (es ++ entry ∷ []) ≡ sending (with_on lane (number + 64) marks) =
    after_more (sending (each 1)) es (entry ∷ [])
    ∙ (ap (λ (s : State). applied s entry.change) so_far.is
    ∙ (ap (applied (sending marks)) change ∙ marked_on marks (number + 64) lane low)) in
    let sum = sum_with marks (number + 64) lane low in
    let grown = so_far.grown in
    let longer : length (es ++ entry ∷ []) ≡ length es + 1 = length-append es (entry ∷ []) in
    let no_count : counts entry.change ≡ false = ap counts change in
    let last : epoch_after (entry ∷ []) ≡ 0 = ap (λ (b : Bool). (if b then 1 else 0) + 0) no_count in
    let epochs = epochs_more es (entry ∷ []) in
    let before = so_far.epoch in
    record {
      marks = with_on lane (number + 64) marks;
      is = next;
      low = λ other within. cond_low _ (number + 64) (marks other) (bound + 64) (omega arith) (so_far.low other within);
      grown = omega arith;
      epoch = omega arith;
    }
