-- Marks by key and by place.
use Rattle.std.proofs.Common.{◌≡◌, ◌≢◌, ℕ, ◌<◌, ◌≤◌, Bool, true, false, nat_eq, nat_lt, List, [], length, get_or}
use Rattle.std.proofs.Common.{Option, Some, None, refl, sym, ◌∙◌, ap, subst, inl, inr, ◌⊎◌, arith}
use Rattle.std.specs.Prelude.{IfSome, IsSomeAnd}
use Rattle.std.specs.List.{position, position_or_len}
use Rattle.std.specs.Option.{option_map_or}
use Rattle.std.proofs.Math.ListN.{get_or-eq_default}
use Rattle.std.proofs.lemmas.Bool.Decides.{nat_tests}
use Rattle.std.proofs.lemmas.List.{length-map, get_or-map}
use Rattle.std.proofs.lemmas.List.Quantifiers.{position-Some}
use Rattle.std.proofs.lemmas.List.Sums.{position_or_len_is}
use Rattle.sdls_base.proofs.Searches.{find_placed, find_nowhere}
use Rattle.sdls_base.specs.declared.states.KeyState.TheVariants.{PreActive}
use Rattle.sdls_base.specs.KeyId.{end_of, end_of_class, class_of}
use Rattle.sdls_base.specs.declared.key_id.KeyClass.{KeyClass}
use Rattle.sdls_base.specs.declared.key_id.KeyClass.TheVariants.{Master, Gcm, Cmac}
use Rattle.key_book.specs.declared.key_row.KeyRow.{KeyRow}
use Rattle.key_book.specs.KeyRow.{IsKeyRow}
use Rattle.key_book.specs.KeyBook.{place_of}
use Rattle.unit_state.specs.declared.state.State.{State}
use Rattle.unit_state.specs.State.{KeepsRules, key_row}
use Rattle.unit_state.specs.Laws.{KeepsPlaces}
use Rattle.unit_state.proofs.KeyRules.{number_test}
use Rattle.run_promise.specs.Numbers.{marks_of, mark_at, mark_of}
use Rattle.unit_book.specs.Marks.{KeepsMarks, highest_mark}

some_row : KeyRow
some_row = record { id = 0; state = PreActive; bytes = []; digest = []; mark = 0; floor = 0 }

at_row : (state : State) (place : ℕ) → place < length state.keys
    → mark_at state place ≡ (get_or state.keys place some_row).mark
at_row state place low = get_or-map (λ (row : KeyRow). row.mark) state.keys place some_row 1 low

behind_rows : (state : State) (place : ℕ) → length state.keys ≤ place → mark_at state place ≡ 1
behind_rows state place high =
    get_or-eq_default (marks_of state) 1 (let size : length (marks_of state) ≡ length state.keys =
    length-map state.keys (λ (row : KeyRow). row.mark) in
    let more : length (marks_of state) ≤ place = omega arith in more)

-- the row at a place is that of its key
own_place : (rows : List KeyRow) (place : ℕ) → place < length rows
    → ((k : ℕ) → k < place → (get_or rows k some_row).id ≢ (get_or rows place some_row).id)
    → position (λ (row : KeyRow). nat_eq row.id (get_or rows place some_row).id) rows ≡ Some place
own_place rows place low others =
    let id : ℕ = (get_or rows place some_row).id in
    placed (λ (row : KeyRow). nat_eq row.id id) rows place low
    (position_or_len_is (λ (row : KeyRow). nat_eq row.id id) rows place some_row (omega arith)
    (λ k less. no_number (get_or rows k some_row).id id (others k less)) (λ _. number_test id id refl))
  where
    placed : (p : KeyRow → Bool) (rows : List KeyRow) (i : ℕ) → i < length rows → position_or_len p rows ≡ i
        → position p rows ≡ Some i
    placed p rows i low e = grind (arith, nat_tests)

    no_number : (a b : ℕ) → a ≢ b → nat_eq a b ≡ false
    no_number a b other = grind (arith, nat_tests)

-- ---- bounds

class_end : (class : KeyClass) → end_of_class class ≤ highest_mark
class_end Master = omega arith
class_end Gcm = omega arith
class_end Cmac = omega arith

row_rules : (state : State) (place : ℕ) → KeepsRules state → place < length state.keys
    → IsKeyRow (get_or state.keys place some_row)
row_rules state place rules low = rules.keys.rules.each place some_row low

either : (a b : ℕ) → (a < b) ⊎ (b ≤ a)
either a b = by (nat_lt a b) refl
  where
    by : (test : Bool) → nat_lt a b ≡ test → (a < b) ⊎ (b ≤ a)
    by true is = inl (grind (arith, nat_tests))
    by false is = inr (grind (arith, nat_tests))

pub mark_from_one : (state : State) (place : ℕ) → KeepsRules state → 1 ≤ mark_at state place
mark_from_one state place rules = by (either place (length state.keys))
  where
    by : (place < length state.keys) ⊎ (length state.keys ≤ place) → 1 ≤ mark_at state place
    by (inl low) = let is : mark_at state place ≡ (get_or state.keys place some_row).mark = at_row state place low in
        let one : 1 ≤ (get_or state.keys place some_row).mark =
        (row_rules state place rules low).mark_from_one in omega arith
    by (inr high) = let is : mark_at state place ≡ 1 = behind_rows state place high in omega arith

pub mark_to_highest : (state : State) (place : ℕ) → KeepsRules state → mark_at state place ≤ highest_mark
mark_to_highest state place rules = by (either place (length state.keys))
  where
    by : (place < length state.keys) ⊎ (length state.keys ≤ place) → mark_at state place ≤ highest_mark
    by (inl low) =
        let row : KeyRow = get_or state.keys place some_row in
        let is : mark_at state place ≡ row.mark = at_row state place low in
        let most : row.mark ≤ end_of row.id = (row_rules state place rules low).mark_to_end in
        let end : end_of row.id ≤ highest_mark = class_end (class_of row.id) in omega arith
    by (inr high) = let is : mark_at state place ≡ 1 = behind_rows state place high in omega arith

-- ---- from key to place

placed_key : (state : State) (key place : ℕ) → place_of state.keys key ≡ Some place
    → key_row state key ≡ Some (get_or state.keys place some_row)
placed_key state key place there = find_placed (λ (row : KeyRow). nat_eq row.id key) state.keys place some_row there

pub mark_placed : (state : State) (key place : ℕ) → place_of state.keys key ≡ Some place
    → mark_at state place ≡ mark_of state key
mark_placed state key place there =
    let found = position-Some (λ (row : KeyRow). nat_eq row.id key) state.keys place some_row there in
    at_row state place found.0
    ∙ sym (ap (λ (o : Option KeyRow). option_map_or (λ (row : KeyRow). row.mark) o 1)
    (placed_key state key place there))

pub mark_nowhere : (state : State) (key : ℕ) → place_of state.keys key ≡ None → mark_of state key ≡ 1
mark_nowhere state key nowhere =
    ap (λ (o : Option KeyRow). option_map_or (λ (row : KeyRow). row.mark) o 1)
    (find_nowhere (λ (row : KeyRow). nat_eq row.id key) state.keys nowhere)

pub place_below : (state : State) (key place : ℕ) → place_of state.keys key ≡ Some place → place < length state.keys
place_below state key place there =
    (position-Some (λ (row : KeyRow). nat_eq row.id key) state.keys place some_row there).0

-- each key that is there is there again, with a mark that did not fall
abbrev pub KeepsEach : State → State → Type 0
KeepsEach old new = (id : ℕ) → IfSome (key_row old id)
    (λ held. IsSomeAnd (key_row new id) (λ now. held.mark ≤ now.mark))

-- what holds key by key holds place by place
pub by_place : (one other : State) → KeepsRules one → KeepsRules other → KeepsPlaces one other → KeepsEach one other
    → KeepsMarks one other
by_place one other rules later places each place = by (either place (length one.keys))
  where
    by : (place < length one.keys) ⊎ (length one.keys ≤ place) → mark_at one place ≤ mark_at other place
    by (inr high) =
        let is : mark_at one place ≡ 1 = behind_rows one place high in
        let least : 1 ≤ mark_at other place = mark_from_one other place later in omega arith
    by (inl low) =
        let row : KeyRow = get_or one.keys place some_row in
        let here : place_of one.keys row.id ≡ Some place =
        own_place one.keys place low (λ k less. rules.keys.rules.identifiers k place some_row less low) in
        let there : place_of other.keys row.id ≡ Some place = places row.id place here in
        let kept : IsSomeAnd (key_row other row.id) (λ now. row.mark ≤ now.mark) =
        subst (λ (o : Option KeyRow). IfSome o (λ held. IsSomeAnd (key_row other row.id) (λ now. held.mark ≤ now.mark)))
        (placed_key one row.id place here) (each row.id) in
        let up : row.mark ≤ (get_or other.keys place some_row).mark =
        subst (λ (o : Option KeyRow). IsSomeAnd o (λ now. row.mark ≤ now.mark)) (placed_key other row.id place there)
        kept in
        let was : mark_at one place ≡ row.mark = at_row one place low in
        let is : mark_at other place ≡ (get_or other.keys place some_row).mark =
        at_row other place (place_below other row.id place there) in
        omega arith

-- what holds place by place holds key by key
pub by_key : (one other : State) (key : ℕ) → KeepsRules other → KeepsPlaces one other → KeepsMarks one other
    → mark_of one key ≤ mark_of other key
by_key one other key later places marks = by (place_of one.keys key) refl (place_of other.keys key) refl
  where
    by : (o : Option ℕ) → place_of one.keys key ≡ o → (p : Option ℕ) → place_of other.keys key ≡ p
        → mark_of one key ≤ mark_of other key
    by (Some place) here p there =
        let next : place_of other.keys key ≡ Some place = places key place here in
        let was : mark_at one place ≡ mark_of one key = mark_placed one key place here in
        let is : mark_at other place ≡ mark_of other key = mark_placed other key place next in
        let up : mark_at one place ≤ mark_at other place = marks place in omega arith
    by None here (Some place) there =
        let was : mark_of one key ≡ 1 = mark_nowhere one key here in
        let is : mark_at other place ≡ mark_of other key = mark_placed other key place there in
        let least : 1 ≤ mark_at other place = mark_from_one other place later in omega arith
    by None here None there =
        let was : mark_of one key ≡ 1 = mark_nowhere one key here in
        let is : mark_of other key ≡ 1 = mark_nowhere other key there in omega arith
