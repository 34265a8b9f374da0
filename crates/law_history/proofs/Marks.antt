-- Marks and floors through legal entries and releases.
use Rattle.std.proofs.Common.{◌≡◌, ℕ, ◌+◌, ◌<◌, ◌≤◌, min, nat_eq, cond, Bool, true, false, Option, Some, None, IsSome}
use Rattle.std.proofs.Common.{IsSomeAnd, inl, inr, ⊎_elim, refl, sym, ap, ◌∙◌, subst, arith, List}
use Rattle.std.specs.Prelude.{IfSome}
use Rattle.std.specs.Option.{option_map_or}
use Rattle.std.proofs.lemmas.Bool.{cases_lt}
use Rattle.std.proofs.lemmas.Option.{none-some, same_Some}
use Rattle.sdls_base.specs.KeyId.{end_of}
use Rattle.sdls_base.specs.declared.entry.Change.TheVariants.{Marks}
use Rattle.sdls_base.specs.declared.entry.Entry.{Entry}
use Rattle.sdls_base.specs.declared.entry.Seen.TheVariants.{Word}
use Rattle.key_book.specs.declared.key_row.KeyRow.{KeyRow}
use Rattle.unit_plan.specs.PlanLines.{PlanLines}
use Rattle.unit_state.specs.declared.state.State.{State}
use Rattle.unit_state.specs.State.{KeepsRules, key_row}
use Rattle.unit_state.specs.Applied.{applied}
use Rattle.unit_state.specs.Laws.{RowRises, Rises, FallsOnlyTo}
use Rattle.unit_state.proofs.Found.{found_passes, held_rules}
use Rattle.unit_state.proofs.KeyRules.{equal_number}
use Rattle.unit_state.proofs.StateLaws.{rises, fall_only_to}
use Rattle.record_io.specs.declared.item_cursor.Record.{Record}
use Rattle.run_promise.specs.Numbers.{mark_of, floor_of, reserve_of, released_floor, is_released, release_of}
use Rattle.run_promise.specs.History.{frame_change, IsLegal, IsRelease}
use Rattle.law_history.specs.Laws.{NumbersRise}
use Rattle.law_history.proofs.Legal.{of_step, command_marks, frame_marks}

-- ---- a key's numbers, by its row

pub row_named : (state : State) (key : ℕ) (held : KeyRow) → key_row state key ≡ Some held → held.id ≡ key
row_named state key held is = equal_number _ _ (found_passes (λ (row : KeyRow). nat_eq row.id key) state.keys held is)

pub mark_is : (state : State) (key : ℕ) (held : KeyRow) → key_row state key ≡ Some held → mark_of state key ≡ held.mark
mark_is state key held is = ap (λ (o : Option KeyRow). option_map_or (λ (row : KeyRow). row.mark) o 1) is

pub floor_is : (state : State) (key : ℕ) (held : KeyRow) → key_row state key ≡ Some held
    → floor_of state key ≡ held.floor
floor_is state key held is = ap (λ (o : Option KeyRow). option_map_or (λ (row : KeyRow). row.floor) o 0) is

from_one_by : (state : State) (key : ℕ) (o : Option KeyRow) → KeepsRules state → key_row state key ≡ o
    → 1 ≤ option_map_or (λ (row : KeyRow). row.mark) o 1
from_one_by state key None rules is = omega arith
from_one_by state key (Some held) rules is = (held_rules state key held rules is).mark_from_one

-- a mark is at least 1
pub mark_from_one : (state : State) (key : ℕ) → KeepsRules state → 1 ≤ mark_of state key
mark_from_one state key rules = from_one_by state key (key_row state key) rules refl

mark_up : (o p : Option KeyRow) → IfSome o (λ held. IsSomeAnd p (RowRises held))
    → 1 ≤ option_map_or (λ (row : KeyRow). row.mark) p 1
    → option_map_or (λ (row : KeyRow). row.mark) o 1 ≤ option_map_or (λ (row : KeyRow). row.mark) p 1
mark_up None p up low = low
mark_up (Some held) None up low = absurd up
mark_up (Some held) (Some new) up low = up.mark

floor_up : (o p : Option KeyRow) → IfSome o (λ held. IsSomeAnd p (RowRises held))
    → option_map_or (λ (row : KeyRow). row.floor) o 0 ≤ option_map_or (λ (row : KeyRow). row.floor) p 0
floor_up None p up = omega arith
floor_up (Some held) None up = absurd up
floor_up (Some held) (Some new) up = up.floor

pub floors_up : (old new : State) (key : ℕ) → Rises old new → floor_of old key ≤ floor_of new key
floors_up old new key up = floor_up (key_row old key) (key_row new key) (up key)

pub numbers_up : (old new : State) (key : ℕ) → KeepsRules new → Rises old new → NumbersRise old new key
numbers_up old new key rules up = record {
  mark = mark_up (key_row old key) (key_row new key) (up key) (mark_from_one new key rules);
  floor = floors_up old new key up;
}

-- ---- reserves

not_fallen : (old new : ℕ) → (new < old → old ≤ new) → old ≤ new
not_fallen old new up = ⊎_elim up (λ (high : old ≤ new). high) (cases_lt new old)

marks_up_by : (state : State) (key id mark floor : ℕ) (o p : Option KeyRow) → KeepsRules state → key_row state id ≡ o
    → mark_of state key ≤ mark → floor_of state key ≤ floor
    → IfSome o (λ held. IsSomeAnd p (FallsOnlyTo key mark floor held)) → IfSome o (λ held. IsSomeAnd p (RowRises held))
marks_up_by state key id mark floor None p rules is high_mark high_floor falls = tt
marks_up_by state key id mark floor (Some held) None rules is high_mark high_floor falls = absurd falls
marks_up_by state key id mark floor (Some held) (Some new) rules is high_mark high_floor falls =
    let named : held.id ≡ id = row_named state id held is in
    let at : held.id ≡ key → key_row state key ≡ Some held = λ same. ap (key_row state) (sym same ∙ named) ∙ is in
    record {
      mark = not_fallen held.mark new.mark (λ low.
          let to = falls.mark low in
          let own : mark_of state key ≡ held.mark = mark_is state key held (at to.0) in
          let new_is : new.mark ≡ mark = to.1 in
          omega arith);
      floor = not_fallen held.floor new.floor (λ low.
          let to = falls.floor low in
          let own : floor_of state key ≡ held.floor = floor_is state key held (at to.0) in
          let new_is : new.floor ≡ floor = to.1 in
          omega arith);
    }

-- marks that are set no lower than the key's own do not fall
pub marks_up : (state : State) (key mark floor : ℕ) → KeepsRules state → mark_of state key ≤ mark
    → floor_of state key ≤ floor
    → Rises state (applied state (Marks key mark floor))
marks_up state key mark floor rules high_mark high_floor =
    λ id. marks_up_by state key id mark floor (key_row state id) (key_row (applied state (Marks key mark floor)) id)
    rules refl high_mark high_floor
    (fall_only_to state key mark floor id)

to_end_by : (state : State) (key : ℕ) (o : Option KeyRow) → KeepsRules state → key_row state key ≡ o → IsSome o
    → option_map_or (λ (row : KeyRow). row.mark) o 1 ≤ end_of key
to_end_by state key None rules is there = absurd (cc)
to_end_by state key (Some held) rules is there =
    subst (λ (id : ℕ). held.mark ≤ end_of id) (row_named state key held is)
    (held_rules state key held rules is).mark_to_end

reserve_up : (plan : PlanLines) (state : State) (key number : ℕ) → KeepsRules state → IsSome (key_row state key)
    → mark_of state key ≤ number
    → Rises state (applied state (reserve_of plan state key number).change)
reserve_up plan state key number rules there unmarked =
    let end : mark_of state key ≤ end_of key = to_end_by state key (key_row state key) rules refl there in
    marks_up state key (min (number + plan.block) (end_of key)) (floor_of state key) rules (omega arith) (omega arith)

-- no legal entry lets a mark or a floor fall
pub legal_up : (near : ℕ → ℕ → Type 0) (plan : PlanLines) (state : State) (records : List Record) (entry : Entry)
    → KeepsRules state
    → IsLegal near plan state records entry → Rises state (applied state entry.change)
legal_up near plan state records entry rules (inl opening) =
    subst (λ (e : Entry). Rises state (applied state e.change)) (sym opening.entry_is)
    (rises state (frame_change plan state opening.reply) (frame_marks plan state opening.reply))
legal_up near plan state records entry rules (inr (inl procedure)) =
    rises state entry.change (command_marks entry.change
    (of_step state procedure.task.octets entry.seen (entry.change, procedure.reply) procedure.step))
legal_up near plan state records entry rules (inr (inr reserve)) =
    subst (λ (e : Entry). Rises state (applied state e.change)) (sym reserve.entry_is)
    (reserve_up plan state reserve.key reserve.number rules reserve.there reserve.unmarked)

-- ---- releases

-- the entry of a release
pub record IsReleaseEntry (state : State) (word : ℕ) (held : KeyRow) (entry : Entry) : Type 0 where
  pub index_is : entry.index ≡ None
  pub seen_is : entry.seen ≡ Word word
  pub change_is : entry.change ≡ Marks held.id (min held.mark word) (released_floor state held)

release_entry_by : (state : State) (word : ℕ) (held : KeyRow) (b : Bool) (made entry : Entry)
    → made ≡ record {
      index = None;
      seen = Word word;
      change =
          Marks held.id (min held.mark word) (released_floor state held);
    }
    → cond b None (Some made) ≡ Some entry → IsReleaseEntry state word held entry
release_entry_by state word held true made entry made_is is = absurd (none-some entry is)
release_entry_by state word held false made entry made_is is =
    let same : entry ≡ made = sym (same_Some made entry is) in
    record {
      index_is = ap (λ (e : Entry). e.index) (same ∙ made_is);
      seen_is = ap (λ (e : Entry). e.seen) (same ∙ made_is);
      change_is = ap (λ (e : Entry). e.change) (same ∙ made_is);
    }

pub release_entry : (state : State) (word : ℕ) (held : KeyRow) (entry : Entry) → release_of state word held ≡ Some entry
    → IsReleaseEntry state word held entry
release_entry state word held entry is = release_entry_by state word held (is_released state held word) _ entry refl is

mark_kept_by : (state : State) (key number word floor : ℕ) (held : KeyRow) (o p : Option KeyRow) → key_row state key ≡ o
    → key_row state held.id ≡ Some held → number < option_map_or (λ (row : KeyRow). row.mark) o 1
    → (held.id ≡ key → number < word)
    → 1 ≤ option_map_or (λ (row : KeyRow). row.mark) p 1
    → IfSome o (λ row. IsSomeAnd p (FallsOnlyTo held.id (min held.mark word) floor row))
    → number < option_map_or (λ (row : KeyRow). row.mark) p 1
mark_kept_by state key number word floor held None p is there below low some falls = omega arith
mark_kept_by state key number word floor held (Some row) None is there below low some falls = absurd falls
mark_kept_by state key number word floor held (Some row) (Some new) is there below low some falls =
    ⊎_elim
    (λ (fell : new.mark < row.mark).
    let to = falls.mark fell in
    let same : held.id ≡ key = sym to.0 ∙ row_named state key row is in
    let one : held ≡ row = same_Some held row (sym there ∙ ap (key_row state) same ∙ is) in
    let mark : held.mark ≡ row.mark = ap (λ (r : KeyRow). r.mark) one in
    let new_is : new.mark ≡ min held.mark word = to.1 in
    let under : number < word = low same in
    omega arith)
    (λ (stayed : row.mark ≤ new.mark). omega arith)
    (cases_lt new.mark row.mark)

-- a release leaves a mark above each number below both mark and word
pub release_marks : (near : ℕ → ℕ → Type 0) (state : State) (entry : Entry) (release : IsRelease near state entry)
    → KeepsRules (applied state entry.change) → (key number : ℕ) → number < mark_of state key
    → (release.held.id ≡ key → number < release.word)
    → number < mark_of (applied state entry.change) key
release_marks near state entry release rules key number below low =
    let held : KeyRow = release.held in
    let is = release_entry state release.word held entry release.releases in
    let new : State = applied state (Marks held.id (min held.mark release.word) (released_floor state held)) in
    let same : applied state entry.change ≡ new = ap (applied state) is.change_is in
    subst (λ (s : State). number < mark_of s key) (sym same)
    (mark_kept_by state key number release.word (released_floor state held) held (key_row state key)
    (key_row new key) refl release.there below low
    (subst (λ (s : State). 1 ≤ mark_of s key) same (mark_from_one (applied state entry.change) key rules))
    (fall_only_to state held.id (min held.mark release.word) (released_floor state held) key))
