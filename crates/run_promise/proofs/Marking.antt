-- Reserves and releases are changes that the state allows.
use Rattle.std.proofs.Common.{◌≡◌, ℕ, zero, suc, ◌+◌, ◌<◌, ◌≤◌, min, Bool, true, false, cond, ◌&&◌, nat_eq, List, []}
use Rattle.std.proofs.Common.{◌∷◌, Option, Some, None, IsSome, refl, sym, ◌∙◌, ap, subst, arith}
use Rattle.std.specs.List.{slice_get}
use Rattle.std.specs.Option.{option_map, option_map_or, option_and_then}
use Rattle.std.proofs.lemmas.Bool.{false≢true}
use Rattle.std.proofs.lemmas.Bool.Decides.{nat_tests}
use Rattle.std.proofs.lemmas.Option.{none-some, same_Some, slice_get_within, get_or_from_slice_get}
use Rattle.sdls_base.specs.KeyId.{end_of}
use Rattle.sdls_base.specs.declared.entry.Change.TheVariants.{Marks}
use Rattle.sdls_base.specs.declared.entry.Entry.{Entry}
use Rattle.sdls_base.specs.declared.entry.Seen.TheVariants.{Word}
use Rattle.sdls_base.specs.declared.states.Direction.{Direction}
use Rattle.sdls_base.specs.declared.states.Direction.TheVariants.{Send, Receive}
use Rattle.key_book.specs.declared.key_row.KeyRow.{KeyRow}
use Rattle.key_book.specs.KeyRow.{IsKeyRow}
use Rattle.key_book.specs.KeyBook.{row_of}
use Rattle.sa_book.specs.declared.sa_book.SaRow.{SaRow}
use Rattle.sa_book.specs.SaRow.{HasHigh, IsSaRow}
use Rattle.sa_book.specs.SaRefusal.{is_receiving, is_key, receives_with, receiver_with}
use Rattle.unit_plan.specs.PlanLines.{PlanLines}
use Rattle.unit_state.specs.declared.state.State.{State}
use Rattle.unit_state.specs.State.{KeepsRules, key_row}
use Rattle.unit_state.specs.Applied.{applied}
use Rattle.unit_state.specs.Allows.{Allows}
use Rattle.unit_state.proofs.Found.{found, found_passes, held_rules}
use Rattle.unit_state.proofs.Held.{row_of_changed}
use Rattle.run_promise.specs.Numbers.{mark_of, floor_of, reserve_of, released_floor, is_released, release_of}
use Rattle.run_promise.specs.Numbers.{release_at}

equal_number : (a b : ℕ) → nat_eq a b ≡ true → a ≡ b
equal_number a b h = grind (arith, nat_tests)

number_test : (a b : ℕ) → a ≡ b → nat_eq a b ≡ true
number_test a b h = grind (arith, nat_tests)

-- a key that is there
pub record IsThere (state : State) (key : ℕ) : Type 0 where
  pub row : KeyRow
  pub is : key_row state key ≡ Some row
  pub id : row.id ≡ key
  pub rules : IsKeyRow row

there_by : (o : Option KeyRow) → IsSome o → (row : KeyRow) × (o ≡ Some row)
there_by None some = absurd (false≢true some)
there_by (Some row) some = (row, refl)

pub is_there : (state : State) (key : ℕ) → KeepsRules state → IsSome (key_row state key) → IsThere state key
is_there state key rules some =
    let (row, is) = there_by (key_row state key) some in
    record {
      row = row;
      is = is;
      id = equal_number row.id key (found_passes (λ (row : KeyRow). nat_eq row.id key) state.keys row is);
      rules = held_rules state key row rules is;
    }

pub floor_below : (state : State) (key : ℕ) → KeepsRules state → IsSome (key_row state key)
    → floor_of state key < end_of key
floor_below state key rules some =
    let at : IsThere state key = is_there state key rules some in
    subst (λ (o : Option KeyRow). option_map_or (λ (row : KeyRow). row.floor) o 0 < end_of key) (sym at.is)
    (subst (λ (id : ℕ). at.row.floor < end_of id) at.id at.rules.floor_below_end)

pub reserve_allowed : (plan : PlanLines) (state : State) (key number : ℕ) → KeepsRules state
    → IsSome (key_row state key)
    → number < end_of key → 1 ≤ plan.block → Allows state (reserve_of plan state key number).change
reserve_allowed plan state key number rules some below block = record {
  there = some;
  from_one = omega arith;
  to_end = omega arith;
  below_end = floor_below state key rules some;
}

-- a change of marks sets the mark of a key that is there
pub mark_set : (state : State) (key mark floor : ℕ) → KeepsRules state → IsSome (key_row state key)
    → mark_of (applied state (Marks key mark floor)) key ≡ mark
mark_set state key mark floor rules some =
    let at : IsThere state key = is_there state key rules some in
    let f : KeyRow → KeyRow = λ row. record row { mark = mark; floor = floor } in
    ap (λ (o : Option KeyRow). option_map_or (λ (row : KeyRow). row.mark) o 1)
    (row_of_changed state.keys key key f (λ row. refl)
    ∙ ap (option_map (λ (row : KeyRow). cond (nat_eq row.id key) (f row) row)) at.is)
    ∙ ap (λ (b : Bool). (cond b (f at.row) at.row).mark) (number_test at.row.id key at.id)

-- the mark that a reserve leaves is above the number
pub mark_above : (plan : PlanLines) (state next : State) (key number mark : ℕ) → KeepsRules state
    → IsSome (key_row state key)
    → number < end_of key → 1 ≤ plan.block → next ≡ applied state (reserve_of plan state key number).change
    → mark ≡ mark_of next key
    → number < mark
mark_above plan state next key number mark rules some below block is mark_is =
    let same : mark ≡ min (number + plan.block) (end_of key) =
    mark_is ∙ ap (λ (s : State). mark_of s key) is ∙ mark_set state key (min (number + plan.block) (end_of key))
    (floor_of state key) rules some in
    omega arith

-- a row that stands in a list is found by its identifier
there_at : (rows : List KeyRow) (place : ℕ) (held : KeyRow) → slice_get rows place ≡ Some held
    → IsSome (row_of rows held.id)
there_at [] place held there = absurd (none-some held there)
there_at (row ∷ rows) zero held there =
    let same : nat_eq row.id held.id ≡ true =
    number_test row.id held.id (ap (λ (r : KeyRow). r.id) (same_Some row held there)) in
    subst (λ (b : Bool). IsSome (cond b (Some row) (row_of rows held.id))) (sym same) refl
there_at (row ∷ rows) (suc place) held there = by (nat_eq row.id held.id) (there_at rows place held there)
  where
    by : (b : Bool) → IsSome (row_of rows held.id) → IsSome (cond b (Some row) (row_of rows held.id))
    by true rest = refl
    by false rest = rest

high_below : (direction : Direction) (own : Option ℕ) (key high : ℕ) → HasHigh direction own high
    → (is_receiving direction && is_key key own) ≡ true
    → high < end_of key
high_below Receive (Some own) key high has test = subst (λ (n : ℕ). high < end_of n) (equal_number own key test) has
high_below Receive None key high has test = absurd cc
high_below Send own key high has test = absurd cc

released_below : (state : State) (held : KeyRow) → KeepsRules state → held.floor < end_of held.id
    → released_floor state held < end_of held.id
released_below state held rules low = by (receiver_with state.associations held.id) refl
  where
    by : (o : Option SaRow) → receiver_with state.associations held.id ≡ o
        → option_map_or (λ (row : SaRow). row.window.high) o held.floor < end_of held.id
    by None is = low
    by (Some row) is =
        high_below row.direction row.key held.id row.window.high
        (found IsSaRow (receives_with held.id) state.associations row is rules.associations.each).high
        (found_passes (receives_with held.id) state.associations row is)

release_by : (state : State) (word : ℕ) (held : KeyRow) (b : Bool) (entry : Entry)
    → cond b None
    (Some (record {
      index = None;
      seen = Word word;
      change =
          Marks held.id (min held.mark word) (released_floor state held);
    })) ≡ Some entry
    → entry.change ≡ Marks held.id (min held.mark word) (released_floor state held)
release_by state word held true entry is = absurd (none-some entry is)
release_by state word held false entry is = ap (λ (e : Entry). e.change) (sym (same_Some _ entry is))

-- the release of a key is allowed
pub release_of_allowed : (state : State) (word : ℕ) (held : KeyRow) (entry : Entry) → KeepsRules state → IsKeyRow held
    → IsSome (key_row state held.id)
    → 1 ≤ word → release_of state word held ≡ Some entry → Allows state entry.change
release_of_allowed state word held entry rules row there some is =
    subst (Allows state) (sym (release_by state word held (is_released state held word) entry is))
    (let from_one : 1 ≤ held.mark = row.mark_from_one in
    let to_end : held.mark ≤ end_of held.id = row.mark_to_end in
    record {
      there = there;
      from_one = omega arith;
      to_end = omega arith;
      below_end = released_below state held rules row.floor_below_end;
    })

pub release_allowed : (state : State) (place word : ℕ) (entry : Entry) → KeepsRules state → 1 ≤ word
    → release_at state place word ≡ Some entry
    → Allows state entry.change
release_allowed state place word entry rules some is = by (slice_get state.keys place) refl is
  where
    by : (o : Option KeyRow) → slice_get state.keys place ≡ o → option_and_then (release_of state word) o ≡ Some entry
        → Allows state entry.change
    by None there e = absurd (none-some entry e)
    by (Some held) there e =
        release_of_allowed state word held entry rules
        (subst IsKeyRow (get_or_from_slice_get state.keys place held held there)
        (rules.keys.rules.each place held (slice_get_within state.keys place held there)))
        (there_at state.keys place held there) some e
