-- A change that a state allows leaves the rules.
use Rattle.std.proofs.Common.{◌≡◌, ℕ, ◌-◌, ◌<◌, ◌≤◌, max, min, Bool, true, false, cond, ◌&&◌, nat_eq, nat_le, nat_lt}
use Rattle.std.proofs.Common.{List, [], ◌∷◌, ◌++◌, length, get_or, map, take, drop, Option, Some, None, IsSome}
use Rattle.std.proofs.Common.{IsSomeAnd, sym, refl, ap, ◌∙◌, subst, arith}
use Rattle.std.specs.Prelude.{IfSome}
use Rattle.std.specs.List.{All, list_any, insert, position_or_len}
use Rattle.std.specs.Option.{option_map, option_and_then}
use Rattle.std.proofs.lemmas.Bool.{false≢true}
use Rattle.std.proofs.lemmas.Bool.Decides.{nat_tests}
use Rattle.std.proofs.lemmas.List.Elements.{All-map, All-filter, All-append, All-take, All-drop, All-cons}
use Rattle.std.proofs.lemmas.List.Folds.{list_any_at}
use Rattle.std.proofs.lemmas.Option.{same_Some}
use Rattle.sdls_base.specs.Bounds.{IsKeyLength}
use Rattle.sdls_base.specs.FirstFailing.{fails_if, first_told}
use Rattle.sdls_base.specs.KeyId.{end_of}
use Rattle.sdls_base.specs.declared.entry.Change.{Change}
use Rattle.sdls_base.specs.declared.entry.Change.TheVariants.{Marks, Load, KeyStates, Create, Rekey, SaTo, SetNumber}
use Rattle.sdls_base.specs.declared.entry.Change.TheVariants.{SetWindow, Accepted, Nothing}
use Rattle.sdls_base.specs.declared.entry.NewSa.{NewSa}
use Rattle.sdls_base.specs.declared.key_id.KeyItem.{KeyItem}
use Rattle.sdls_base.specs.declared.states.Direction.{Direction}
use Rattle.sdls_base.specs.declared.states.Direction.TheVariants.{Send, Receive}
use Rattle.sdls_base.specs.declared.states.KeyState.{KeyState}
use Rattle.sdls_base.specs.declared.states.KeyState.TheVariants as key_states
use Rattle.sdls_base.specs.declared.states.SaState.{SaState}
use Rattle.sdls_base.specs.declared.states.SaState.TheVariants.{Unkeyed, Keyed, Operational}
use Rattle.key_book.specs.declared.key_row.KeyRow.{KeyRow}
use Rattle.key_book.specs.KeyRow as key_row
use Rattle.key_book.specs.KeyBook as key_rows
use Rattle.key_book.specs.KeyRefusal.{load_refusal}
use Rattle.key_book.specs.Moves.{moved, moves_refusal}
use Rattle.key_book.proofs.Moved.{IsKeyBook-moved, moved_row}
use Rattle.sa_book.specs.declared.sa_book.SaRow.{SaRow}
use Rattle.sa_book.specs.declared.refusals.SaRefusal.{SaRefusal}
use Rattle.sa_book.specs.declared.refusals.SaRefusal.TheVariants.{PastEnd, BelowFloor}
use Rattle.sa_book.specs.SaRow.{IsSaRow, HasHigh, new_row, with_key, without_key, following}
use Rattle.sa_book.specs.SaBook as association_rows
use Rattle.sa_book.specs.SaBook.{IsSaBook, with_row, in_use}
use Rattle.sa_book.specs.SaRefusal.{is_receiving, is_key, receives_with, unless_active, number_refusal}
use Rattle.sa_book.specs.SaRefusal.{number_refusal_of, key_refusal, rekey_refusal}
use Rattle.replay_window.specs.Window.{accepted, with_field}
use Rattle.replay_window.proofs.Lowered.{lowered_high}
use Rattle.sa_book.specs.Numbers.{with_floor}
use Rattle.sa_book.proofs.HighRules.{IsSaBook-lowered}
use Rattle.sa_book.proofs.Changes.{IsSaBook-create}
use Rattle.unit_state.specs.declared.state.State.{State}
use Rattle.unit_state.specs.State.{KeepsRules, MayHold, HasKey, key_row as held_row, association_row}
use Rattle.unit_state.specs.Applied.{applied, numbered, direction_of, key_held, in_state}
use Rattle.unit_state.specs.Allows.{Allows, AllowsMarks, AllowsLoad, AllowsStates, AllowsCreate, AllowsRekey}
use Rattle.unit_state.specs.Allows.{AllowsNumber, AllowsWindow, AllowsAccepted, state_refusal}
use Rattle.unit_state.specs.Taking.{least_with}
use Rattle.unit_state.proofs.Found.{found, found_passes}
use Rattle.unit_state.proofs.Moves.{is_held}
use Rattle.unit_state.proofs.Held.{Grow, StaysHeld, all_still, grow_loaded, grow_changed, row_of_changed, all_changed}
use Rattle.unit_state.proofs.KeyRules.{equal_number, number_test, rules_raise_mark, rules_raise_floor, rules_marks}
use Rattle.unit_state.proofs.KeyRules.{rules_loaded, row_of_moved, not_moved}
use Rattle.unit_state.proofs.SaRules.{judged, rules_rekeyed, rules_numbered, rules_widened, rules_accepted}
use Rattle.unit_state.proofs.SaRules.{rules_in_state, one_row}

-- a row that is there
pub record There {X : Type 0} (o : Option X) (P : X → Type 0) : Type 0 where
  pub row : X
  pub is : o ≡ Some row
  pub holds : P row

there_at : {X : Type 0} (o p : Option X) (P : X → Type 0) → p ≡ o → IsSomeAnd o P → There p P
there_at None p P e h = absurd h
there_at (Some x) p P e h = record { row = x; is = e; holds = h }

pub there : {X : Type 0} (o : Option X) (P : X → Type 0) → IsSomeAnd o P → There o P
there o P h = there_at o o P refl h

some_at : {X : Type 0} (o p : Option X) → p ≡ o → IsSome o → There p (λ _. Unit {0})
some_at None p e h = absurd (cc)
some_at (Some x) p e h = record { row = x; is = e; holds = tt }

pub some_there : {X : Type 0} (o : Option X) → IsSome o → There o (λ _. Unit {0})
some_there o h = some_at o o refl h

pub some_and : {X : Type 0} (o : Option X) (x : X) (P : X → Type 0) → o ≡ Some x → P x → IsSomeAnd o P
some_and o x P e h = subst (λ o. IsSomeAnd o P) (sym e) h

named : (keys : List KeyRow) (key : ℕ) (held : KeyRow) → key_rows.row_of keys key ≡ Some held → held.id ≡ key
named keys key held e = equal_number _ _ (found_passes (λ (row : KeyRow). nat_eq row.id key) keys held e)

-- marks

not_above : (b : Bool) (high floor : ℕ) → cond b (min high floor) high ≤ high
not_above true high floor = omega arith
not_above false high floor = omega arith

receives_low : (b : Bool) (high floor : ℕ) → b ≡ true → cond b (min high floor) high ≤ floor
receives_low true high floor t = omega arith
receives_low false high floor t = absurd (false≢true t)

low_floor : (direction : Direction) (held : Option ℕ) (high key floor : ℕ) → HasHigh direction held high
    → held ≡ Some key → cond (is_receiving direction && is_key key held) (min high floor) high ≤ floor
low_floor Receive None high key floor has e = absurd (cc)
low_floor Receive (Some own) high key floor has e =
    receives_low (nat_eq own key) high floor (number_test own key (same_Some own key e))
low_floor Send held high key floor has e = omega arith

-- an association that was lowered to a floor where a test says so
lowered_at : (b : Bool) (row : SaRow) (floor : ℕ) → (cond b (with_floor row floor) row).window.high
    ≡ cond b (min row.window.high floor) row.window.high
lowered_at true row floor = lowered_high floor row.window
lowered_at false row floor = refl

lowered_key : (b : Bool) (row : SaRow) (floor : ℕ) → (cond b (with_floor row floor) row).key ≡ row.key
lowered_key true row floor = refl
lowered_key false row floor = refl

marks_row : (row new : SaRow) (held : KeyRow) (key mark floor : ℕ) (b : Bool) → nat_eq held.id key ≡ b
    → new.window.high ≤ row.window.high → (held.id ≡ key → new.window.high ≤ floor) → MayHold row held
    → MayHold new (cond b (record held { mark = mark; floor = floor }) held)
marks_row row new held key mark floor true e low at holds =
    record { active = holds.active; floor = at (equal_number _ _ e) }
marks_row row new held key mark floor false e low at holds =
    record { active = holds.active; floor = omega (arith, low, holds.floor) }

marks_at : (keys : List KeyRow) (key mark floor : ℕ) (row new : SaRow) (own : Option ℕ)
    → new.window.high ≤ row.window.high → (own ≡ Some key → new.window.high ≤ floor)
    → IfSome own (λ k. IsSomeAnd (key_rows.row_of keys k) (MayHold row))
    → IfSome own
    (λ k. IsSomeAnd
    (key_rows.row_of (key_rows.changed keys key (λ (row : KeyRow). record row { mark = mark; floor = floor })) k)
    (MayHold new))
marks_at keys key mark floor row new None low at has = has
marks_at keys key mark floor row new (Some k) low at has =
    let t = there (key_rows.row_of keys k) (MayHold row) has in
    some_and _ _ (MayHold new)
    (row_of_changed keys key k (λ (row : KeyRow). record row { mark = mark; floor = floor }) (λ _. refl)
    ∙ ap (option_map (λ (row : KeyRow). cond (nat_eq row.id key) (record row { mark = mark; floor = floor }) row))
    t.is)
    (marks_row row new t.row key mark floor (nat_eq t.row.id key) refl low
    (λ same. at (ap (λ n. Some n) (sym (named keys k t.row t.is) ∙ same))) t.holds)

marks_kept : (state : State) (key mark floor : ℕ) → KeepsRules state → AllowsMarks state key mark floor
    → KeepsRules (applied state (Marks key mark floor))
marks_kept state key mark floor ok allowed =
    let at = some_there (held_row state key) allowed.there in
    record {
      keys = rules_marks state.keys key mark floor at.row ok.keys at.is allowed.from_one allowed.to_end
          allowed.below_end;
      associations = IsSaBook-lowered state.associations key floor ok.associations;
      held = All-map
          (HasKey (key_rows.changed state.keys key (λ (row : KeyRow). record row { mark = mark; floor = floor })))
          (λ (row : SaRow). cond (receives_with key row) (with_floor row floor) row) state.associations
          (λ i d low.
          let row : SaRow = get_or state.associations i d in
          let new : SaRow = cond (receives_with key row) (with_floor row floor) row in
          let is : new.window.high ≡ cond (receives_with key row) (min row.window.high floor) row.window.high =
          lowered_at (receives_with key row) row floor in
          subst (λ (o : Option ℕ).
          IfSome o (λ k.
          IsSomeAnd
          (key_rows.row_of
          (key_rows.changed state.keys key (λ (row : KeyRow). record row { mark = mark; floor = floor })) k)
          (MayHold new)))
          (sym (lowered_key (receives_with key row) row floor))
          (marks_at state.keys key mark floor row new row.key
          (subst (λ (h : ℕ). h ≤ row.window.high) (sym is) (not_above (receives_with key row) row.window.high floor))
          (λ e. subst (λ (h : ℕ). h ≤ floor) (sym is)
          (low_floor row.direction row.key row.window.high key floor (ok.associations.each i d low).high e))
          (ok.held i d low)));
    }

-- keys loaded, and keys that take a state

pub loaded_kept : (state : State) (items : List KeyItem) → KeepsRules state
    → All (λ item. IsKeyLength (length item.bytes)) items → load_refusal state.keys items ≡ None
    → KeepsRules (applied state (Load items))
loaded_kept state items ok long free =
    record {
      keys = rules_loaded state.keys items ok.keys long free;
      associations = ok.associations;
      held = all_still state.keys (state.keys ++ map key_row.new_row items) state.associations
          (grow_loaded state.keys (map key_row.new_row items)) ok.held;
    }

load_kept : (state : State) (items : List KeyItem) → KeepsRules state → AllowsLoad state items
    → KeepsRules (applied state (Load items))
load_kept state items ok allowed =
    loaded_kept state items ok (λ i d low. (allowed.each i d low).length) allowed.book

moved_at : (keys : List KeyRow) (ids : List ℕ) (to : KeyState) (rows : List SaRow) (i : ℕ) (d : SaRow) (own : Option ℕ)
    → i < length rows → (get_or rows i d).key ≡ own → moves_refusal keys ids to (in_use rows) ≡ None
    → IfSome own (λ k. IsSomeAnd (key_rows.row_of keys k) (MayHold (get_or rows i d)))
    → IfSome own (λ k. IsSomeAnd (key_rows.row_of (moved keys ids to) k) (MayHold (get_or rows i d)))
moved_at keys ids to rows i d None low e free has = has
moved_at keys ids to rows i d (Some k) low e free has =
    let t = there (key_rows.row_of keys k) (MayHold (get_or rows i d)) has in
    let held_by : is_held rows k ≡ true =
    list_any_at (λ (row : SaRow). is_key k row.key) rows i d low (ap (is_key k) e ∙ number_test k k refl) in
    let other : list_any (λ id. nat_eq id k) ids ≡ false =
    not_moved keys ids to rows k t.row (list_any (λ id. nat_eq id k) ids) refl free t.is t.holds.active held_by in
    let same : moved_row ids to t.row ≡ t.row =
    ap (λ b. cond b (key_row.in_state t.row to) t.row)
    (ap (λ n. list_any (λ id. nat_eq id n) ids) (named keys k t.row t.is) ∙ other) in
    some_and _ t.row (MayHold (get_or rows i d))
    (row_of_moved keys ids to k ∙ ap (option_map (moved_row ids to)) t.is ∙ ap (λ (row : KeyRow). Some row) same)
    t.holds

pub states_kept : (state : State) (ids : List ℕ) (to : KeyState) → KeepsRules state → AllowsStates state ids to
    → KeepsRules (applied state (KeyStates ids to))
states_kept state ids to ok allowed =
    record {
      keys = IsKeyBook-moved state.keys ids to (in_use state.associations) ok.keys allowed.book;
      associations = ok.associations;
      held = λ i d low. moved_at state.keys ids to state.associations i d (get_or state.associations i d).key low refl
          allowed.book (ok.held i d low);
    }

-- associations created

has_inserted : (keys : List KeyRow) (rows : List SaRow) (row : SaRow) (n : ℕ) → HasKey keys row → All (HasKey keys) rows
    → All (HasKey keys) (insert rows n row)
has_inserted keys rows row n own has =
    All-append (HasKey keys) (take n rows) (row ∷ drop n rows) (All-take (HasKey keys) n rows has)
    (All-cons (HasKey keys) row (drop n rows) own (All-drop (HasKey keys) n rows has))

-- a row with the same key and the same highest number
same_at : (keys : List KeyRow) (row new : SaRow) (own : Option ℕ) → new.window.high ≡ row.window.high
    → IfSome own (λ k. IsSomeAnd (key_rows.row_of keys k) (MayHold row))
    → IfSome own (λ k. IsSomeAnd (key_rows.row_of keys k) (MayHold new))
same_at keys row new None high has = has
same_at keys row new (Some k) high has =
    let t = there (key_rows.row_of keys k) (MayHold row) has in
    some_and _ t.row (MayHold new) t.is (record { active = t.holds.active; floor = omega (arith, high, t.holds.floor) })

same_key : (keys : List KeyRow) (row new : SaRow) → new.key ≡ row.key → new.window.high ≡ row.window.high
    → HasKey keys row → HasKey keys new
same_key keys row new key high has =
    subst (λ (o : Option ℕ). IfSome o (λ k. IsSomeAnd (key_rows.row_of keys k) (MayHold new))) (sym key)
    (same_at keys row new row.key high has)

pub create_kept : (state : State) (new : NewSa) → KeepsRules state → AllowsCreate state new
    → KeepsRules (applied state (Create new))
create_kept state new ok allowed =
    record {
      keys = ok.keys;
      associations = IsSaBook-create state.associations new state.channels ok.associations allowed.window
          allowed.channels allowed.book;
      held = has_inserted state.keys state.associations (new_row new)
          (position_or_len (λ (other : SaRow). nat_lt new.spi other.spi) state.associations) tt ok.held;
    }

-- numbers set

-- what a number of an association makes of its key
abbrev raised : Direction → ℕ → KeyRow → KeyRow
raised Send number row = record row { mark = max row.mark number }
raised Receive number row = record row { floor = max row.floor (number - 1) }

raised_id : (direction : Direction) (number : ℕ) (row : KeyRow) → (raised direction number row).id ≡ row.id
raised_id Send number row = refl
raised_id Receive number row = refl

raised_stays : (direction : Direction) (number : ℕ) (row : KeyRow) → StaysHeld row (raised direction number row)
raised_stays Send number row = record { state = refl; floor = omega arith }
raised_stays Receive number row = record { state = refl; floor = omega arith }

raised_all : (direction : Direction) (keys : List KeyRow) (key number : ℕ)
    → numbered keys (Some direction) (Some key) number ≡ key_rows.changed keys key (raised direction number)
raised_all Send keys key number = refl
raised_all Receive keys key number = refl

rules_raised : (direction : Direction) (keys : List KeyRow) (key number : ℕ) (row : KeyRow) → key_rows.IsKeyBook keys
    → key_rows.row_of keys key ≡ Some row → number < end_of key
    → key_rows.IsKeyBook (key_rows.changed keys key (raised direction number))
rules_raised Send keys key number row ok is below = rules_raise_mark keys key number row ok is (omega arith)
rules_raised Receive keys key number row ok is below = rules_raise_floor keys key (number - 1) row ok is (omega arith)

follows_floor : (direction : Direction) (key : Option ℕ) (number : ℕ) (row : SaRow) (held : KeyRow)
    → HasHigh direction key row.window.high → (following direction number row.window).high
    ≤ (raised direction number held).floor
follows_floor Send key number row held has = omega arith
follows_floor Receive key number row held has = omega arith

raised_state : (direction : Direction) (number : ℕ) (held : KeyRow) → (raised direction number held).state ≡ held.state
raised_state Send number held = refl
raised_state Receive number held = refl

chosen_row : (b : Bool) (x y : KeyRow) → b ≡ true → cond b x y ≡ x
chosen_row true x y e = refl
chosen_row false x y e = absurd (false≢true e)

-- the row of the key itself
raised_row : (direction : Direction) (keys : List KeyRow) (key number : ℕ) (held : KeyRow)
    → key_rows.row_of keys key ≡ Some held → key_rows.row_of (key_rows.changed keys key (raised direction number)) key
    ≡ Some (raised direction number held)
raised_row direction keys key number held is =
    row_of_changed keys key key (raised direction number) (raised_id direction number)
    ∙ ap (option_map (λ (row : KeyRow). cond (nat_eq row.id key) (raised direction number row) row)) is
    ∙ ap (λ (row : KeyRow). Some row)
    (chosen_row _ (raised direction number held) held (number_test _ _ (named keys key held is)))

-- the number lies below the end
number_free : (key number floor : ℕ) → number_refusal key number floor ≡ None → number < end_of key
number_free key number floor free = by (nat_le (end_of key) number) refl free
  where
    by : (b : Bool) → nat_le (end_of key) number ≡ b
        → first_told (fails_if b (PastEnd (end_of key)) ∷ fails_if (nat_lt number floor) (BelowFloor floor) ∷ []) ≡ None
        → number < end_of key
    by true e free = absurd (cc)
    by false e free = grind (arith, nat_tests)

key_parts : (a b c d e : Option SaRefusal) → first_told (a ∷ b ∷ c ∷ d ∷ e ∷ []) ≡ None → (c ≡ None) × (e ≡ None)
key_parts None None None None None h = (refl, refl)
key_parts None None None None (Some r) h = absurd (cc)
key_parts None None None (Some r) e h = absurd (cc)
key_parts None None (Some r) d e h = absurd (cc)
key_parts None (Some r) c d e h = absurd (cc)
key_parts (Some r) b c d e h = absurd (cc)

two_parts : (a b : Option SaRefusal) → first_told (a ∷ b ∷ []) ≡ None → b ≡ None
two_parts None None h = refl
two_parts None (Some r) h = absurd (cc)
two_parts (Some r) b h = absurd (cc)

is_active : (state : KeyState) → unless_active state ≡ None → state ≡ key_states.Active
is_active key_states.Active h = refl
is_active key_states.PreActive h = absurd (cc)
is_active key_states.Deactivated h = absurd (cc)
is_active key_states.Destroyed h = absurd (cc)

-- what a free key says of its state and of the number
key_free : (rows : List SaRow) (row : SaRow) (key : ℕ) (state : KeyState) (number floor : ℕ)
    → key_refusal rows row key state number floor ≡ None → (state ≡ key_states.Active) × (number < end_of key)
key_free rows row key state number floor free =
    let parts = key_parts _ _ _ _ _ free in
    (is_active state parts.0, number_free key number floor parts.1)

grow_raised : (direction : Direction) (keys : List KeyRow) (key number : ℕ)
    → Grow keys (key_rows.changed keys key (raised direction number))
grow_raised direction keys key number =
    grow_changed keys key (raised direction number) (raised_id direction number) (raised_stays direction number)

pub keyed_kept : (state : State) (spi key number floor : ℕ) (row : SaRow) (held : KeyRow) → KeepsRules state
    → association_row state spi ≡ Some row → held_row state key ≡ Some held
    → rekey_refusal state.associations spi key held.state number floor ≡ None
    → KeepsRules (applied state (Rekey spi key number))
keyed_kept state spi key number floor row held ok at_row at_key allowed =
    let judge = judged state.associations spi (λ row. key_refusal state.associations row key held.state number floor)
    allowed in
    let free = key_free state.associations judge.row key held.state number floor judge.free in
    let keys : List KeyRow = key_rows.changed state.keys key (raised row.direction number) in
    let same : numbered state.keys (direction_of state spi) (Some key) number ≡ keys =
    ap (λ (d : Option Direction). numbered state.keys d (Some key) number)
    (ap (option_map (λ (row : SaRow). row.direction)) at_row) ∙ raised_all row.direction state.keys key
    number in
    record {
      keys = subst key_rows.IsKeyBook (sym same)
          (rules_raised row.direction state.keys key number held ok.keys at_key free.1);
      associations = rules_rekeyed state.associations spi key held.state number floor ok.associations allowed;
      held = subst (λ keys. All (HasKey keys) (association_rows.changed state.associations spi (with_key key number)))
          (sym same)
          (all_changed keys state.associations spi (with_key key number)
          (all_still state.keys keys state.associations (grow_raised row.direction state.keys key number) ok.held)
          (λ i d low test.
          let one : row ≡ get_or state.associations i d =
          same_Some _ _ (sym at_row ∙ one_row state.associations spi i d ok.associations low test) in
          subst (λ (r : SaRow). HasKey keys (with_key key number r)) one
          (some_and _ (raised row.direction number held) (MayHold (with_key key number row))
          (raised_row row.direction state.keys key number held at_key)
          (record {
            active = raised_state row.direction number held ∙ free.0;
            floor = follows_floor row.direction row.key number row held
                (found IsSaRow _ state.associations row at_row ok.associations.each).high;
          }))));
    }

rekey_kept : (state : State) (spi key number : ℕ) → KeepsRules state → AllowsRekey state spi key number
    → KeepsRules (applied state (Rekey spi key number))
rekey_kept state spi key number ok allowed =
    let at = there (association_row state spi) _ allowed in
    let t = there (held_row state key) _ at.holds in
    keyed_kept state spi key number (least_with 1 at.row.direction t.row) at.row t.row ok at.is t.is t.holds

number_kept : (state : State) (spi number : ℕ) → KeepsRules state → AllowsNumber state spi number
    → KeepsRules (applied state (SetNumber spi number))
number_kept state spi number ok allowed =
    let at = there (association_row state spi) _ allowed in
    let row : SaRow = at.row in
    let own = there row.key _ at.holds in
    let key : ℕ = own.row in
    let t = there (held_row state key) _ own.holds in
    let held : KeyRow = t.row in
    let judge = judged state.associations spi _ t.holds in
    let here : judge.row ≡ row = same_Some _ _ (sym judge.there ∙ at.is) in
    let free : number_refusal key number (least_with 1 row.direction held) ≡ None =
    ap (λ (o : Option ℕ). number_refusal_of o number (least_with 1 row.direction held))
    (sym own.is ∙ ap (λ (r : SaRow). r.key) (sym here)) ∙ two_parts _ _ judge.free in
    let keys : List KeyRow = key_rows.changed state.keys key (raised row.direction number) in
    let same : numbered state.keys (direction_of state spi) (key_held state spi) number ≡ keys =
    ap (λ (o : Option SaRow). numbered state.keys (option_map (λ (row : SaRow). row.direction) o)
    (option_and_then (λ (row : SaRow). row.key) o) number) at.is
    ∙ ap (λ (k : Option ℕ). numbered state.keys (Some row.direction) k number) own.is
    ∙ raised_all row.direction state.keys key number in
    let holds : MayHold row held =
    subst (λ (o : Option KeyRow). IsSomeAnd o (MayHold row)) t.is
    (subst (λ (o : Option ℕ). IfSome o (λ key. IsSomeAnd (key_rows.row_of state.keys key) (MayHold row))) own.is
    (found (HasKey state.keys) _ state.associations row at.is ok.held)) in
    record {
      keys = subst key_rows.IsKeyBook (sym same)
          (rules_raised row.direction state.keys key number held ok.keys t.is
          (number_free key number (least_with 1 row.direction held) free));
      associations = rules_numbered state.associations spi number (least_with 1 row.direction held) ok.associations
          t.holds;
      held = subst
          (λ keys. All (HasKey keys)
          (association_rows.changed state.associations spi
          (λ row. record row { window = following row.direction number row.window }))) (sym same)
          (all_changed keys state.associations spi
          (λ row. record row { window = following row.direction number row.window })
          (all_still state.keys keys state.associations (grow_raised row.direction state.keys key number) ok.held)
          (λ i d low test.
          let one : row ≡ get_or state.associations i d =
          same_Some _ _ (sym at.is ∙ one_row state.associations spi i d ok.associations low test) in
          subst (λ (r : SaRow). HasKey keys (record r { window = following r.direction number r.window })) one
          (subst (λ (o : Option ℕ).
          IfSome o (λ key. IsSomeAnd (key_rows.row_of keys key)
          (MayHold (record row { window = following row.direction number row.window })))) (sym own.is)
          (some_and _ (raised row.direction number held)
          (MayHold (record row { window = following row.direction number row.window }))
          (raised_row row.direction state.keys key number held t.is)
          (record {
            active = raised_state row.direction number held ∙ holds.active;
            floor = follows_floor row.direction row.key number row held
                (found IsSaRow _ state.associations row at.is ok.associations.each).high;
          })))));
    }

-- the other changes of associations

states_held : (keys : List KeyRow) (rows : List SaRow) (spi : ℕ) (to : Option SaState) → All (HasKey keys) rows
    → All (HasKey keys) (in_state rows spi to)
states_held keys rows spi None has = All-filter _ (HasKey keys) rows has
states_held keys rows spi (Some Unkeyed) has = all_changed keys rows spi without_key has (λ i d low test. tt)
states_held keys rows spi (Some Keyed) has =
    all_changed keys rows spi (λ row. record row { state = Keyed }) has
    (λ i d low test. same_key keys (get_or rows i d) (record (get_or rows i d) { state = Keyed }) refl refl
    (has i d low))
states_held keys rows spi (Some Operational) has =
    all_changed keys rows spi (λ row. record row { state = Operational }) has
    (λ i d low test. same_key keys (get_or rows i d) (record (get_or rows i d) { state = Operational }) refl refl
    (has i d low))

pub state_kept : (state : State) (spi : ℕ) (to : Option SaState) → KeepsRules state
    → state_refusal state.associations spi to ≡ None → KeepsRules (applied state (SaTo spi to))
state_kept state spi to ok allowed =
    record {
      keys = ok.keys;
      associations = rules_in_state state.associations spi to ok.associations allowed;
      held = states_held state.keys state.associations spi to ok.held;
    }

window_kept : (state : State) (spi window : ℕ) → KeepsRules state → AllowsWindow state spi window
    → KeepsRules (applied state (SetWindow spi window))
window_kept state spi window ok allowed =
    let judge = judged state.associations spi _ allowed.book in
    record {
      keys = ok.keys;
      associations = rules_widened state.associations spi window judge.row ok.associations allowed.bounds judge.there;
      held = all_changed state.keys state.associations spi (λ row. record row { window = with_field window row.window })
          ok.held
          (λ i d low test. same_key state.keys (get_or state.associations i d)
          (record (get_or state.associations i d) { window = with_field window (get_or state.associations i d).window })
          refl refl (ok.held i d low));
    }

accepted_kept : (state : State) (spi key number floor : ℕ) → KeepsRules state
    → AllowsAccepted state spi key number floor → KeepsRules (applied state (Accepted spi key number floor))
accepted_kept state spi key number floor ok allowed =
    let at = there (association_row state spi) _ allowed.row in
    let row : SaRow = at.row in
    let t = there (held_row state key) _ allowed.held in
    let held : KeyRow = t.row in
    let f : KeyRow → KeyRow = λ row. record row { floor = max row.floor floor } in
    let keys : List KeyRow = key_rows.changed state.keys key f in
    let holds : MayHold row held =
    subst (λ (o : Option KeyRow). IsSomeAnd o (MayHold row)) t.is
    (subst (λ (o : Option ℕ). IfSome o (λ key. IsSomeAnd (key_rows.row_of state.keys key) (MayHold row)))
    at.holds.1 (found (HasKey state.keys) _ state.associations row at.is ok.held)) in
    record {
      keys = rules_raise_floor state.keys key floor held ok.keys t.is allowed.below_end;
      associations = rules_accepted state.associations spi number row ok.associations at.is at.holds.0;
      held = all_changed keys state.associations spi (λ row. record row { window = accepted number row.window })
          (all_still state.keys keys state.associations
          (grow_changed state.keys key f (λ _. refl) (λ _. record { state = refl; floor = omega arith })) ok.held)
          (λ i d low test.
          let one : row ≡ get_or state.associations i d =
          same_Some _ _ (sym at.is ∙ one_row state.associations spi i d ok.associations low test) in
          subst (λ (r : SaRow). HasKey keys (record r { window = accepted number r.window })) one
          (subst (λ (o : Option ℕ).
          IfSome o (λ key. IsSomeAnd (key_rows.row_of keys key)
          (MayHold (record row { window = accepted number row.window })))) (sym at.holds.1)
          (some_and _ (f held) (MayHold (record row { window = accepted number row.window }))
          (row_of_changed state.keys key key f (λ _. refl)
          ∙ ap (option_map (λ (row : KeyRow). cond (nat_eq row.id key) (f row) row)) t.is
          ∙ ap (λ (row : KeyRow). Some row)
          (chosen_row _ (f held) held (number_test _ _ (named state.keys key held t.is))))
          (record { active = holds.active; floor = omega (arith, allowed.covered, holds.floor) }))));
    }

-- every change
pub rules_kept : (state : State) (change : Change) → KeepsRules state → Allows state change
    → KeepsRules (applied state change)
rules_kept state (Marks key mark floor) ok allowed = marks_kept state key mark floor ok allowed
rules_kept state (Load items) ok allowed = load_kept state items ok allowed
rules_kept state (KeyStates ids to) ok allowed = states_kept state ids to ok allowed
rules_kept state (Create new) ok allowed = create_kept state new ok allowed
rules_kept state (Rekey spi key number) ok allowed = rekey_kept state spi key number ok allowed
rules_kept state (SaTo spi to) ok allowed = state_kept state spi to ok allowed
rules_kept state (SetNumber spi number) ok allowed = number_kept state spi number ok allowed
rules_kept state (SetWindow spi window) ok allowed = window_kept state spi window ok allowed
rules_kept state (Accepted spi key number floor) ok allowed = accepted_kept state spi key number floor ok allowed
rules_kept state Nothing ok allowed = ok
