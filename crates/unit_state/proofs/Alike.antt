-- Changes that are stored, and changes that are not: what a restart leaves of them.
use Rattle.std.proofs.Common.{◌≡◌, ◌≢◌, ℕ, zero, suc, ◌<◌, ◌≤◌, max, Bool, true, false, cond, ◌&&◌, nat_eq, List, []}
use Rattle.std.proofs.Common.{◌∷◌, length, get_or, map, Option, Some, None, IsSome, ⊎_elim, sym, refl, ap, ◌∙◌, subst}
use Rattle.std.proofs.Common.{arith}
use Rattle.std.specs.Option.{option_map, option_map_or, option_and_then}
use Rattle.std.proofs.lemmas.Bool.{cases_eq, false≢true}
use Rattle.std.proofs.lemmas.List.Quantifiers.{position-Some}
use Rattle.sdls_base.proofs.Searches.{find_placed, find_nowhere, find_none}
use Rattle.sdls_base.specs.KeyId.{end_of}
use Rattle.std.proofs.lemmas.Option.{same_Some}
use Rattle.sdls_base.specs.declared.entry.Change.{Change}
use Rattle.sdls_base.specs.declared.entry.Change.TheVariants.{Marks, Load, KeyStates, Create, Rekey, SaTo, SetNumber}
use Rattle.sdls_base.specs.declared.entry.Change.TheVariants.{SetWindow, Accepted, Nothing}
use Rattle.sdls_base.specs.declared.states.Direction.{Direction}
use Rattle.sdls_base.specs.declared.states.Direction.TheVariants.{Send, Receive}
use Rattle.key_book.specs.declared.key_row.KeyRow.{KeyRow}
use Rattle.key_book.specs.KeyBook.{AreKeyRows, row_of, place_of, changed}
use Rattle.key_book.proofs.Rows.{other_identifier}
use Rattle.sa_book.specs.SaRefusal.{receives_with, is_receiving, is_key}
use Rattle.sa_book.specs.Numbers.{with_floor, lowered}
use Rattle.replay_window.specs.declared.window.Window.{Window}
use Rattle.replay_window.specs.Window.{accepted, begun_at, lowered_to}
use Rattle.replay_window.proofs.Lowered.{begun_lowered}
use Rattle.sa_book.specs.declared.sa_book.SaRow.{SaRow}
use Rattle.sa_book.specs.SaBook as association_rows
use Rattle.unit_state.specs.declared.state.State.{State}
use Rattle.unit_state.specs.State.{KeepsRules, key_row, association_row}
use Rattle.unit_state.specs.Applied.{applied}
use Rattle.unit_state.specs.Allows.{Allows, AllowsAccepted}
use Rattle.unit_state.specs.Restart.{restarted_high, restarted_row, AreAlike, acceptance_stored, stored_as, IsStorable}
use Rattle.unit_state.specs.Laws.{StoresWell}
use Rattle.unit_state.proofs.Held.{row_of_changed}
use Rattle.unit_state.proofs.Found.{found_passes, held_rules}
use Rattle.unit_state.proofs.KeyRules.{equal_number, number_test}
use Rattle.unit_state.proofs.SaRules.{one_row}
use Rattle.unit_state.proofs.RulesKept.{there}

-- lists that agree at each place
same_at_each : {X Y : Type 0} (f g : X → Y) (xs : List X)
    → ((k : ℕ) (d : X) → k < length xs → f (get_or xs k d) ≡ g (get_or xs k d)) → map f xs ≡ map g xs
same_at_each f g [] same = refl
same_at_each f g (x ∷ xs) same =
    ap (λ y. y ∷ map f xs) (same zero x (omega arith))
    ∙ ap (λ ys. g x ∷ ys) (same_at_each f g xs (λ k d low. same (suc k) d (omega arith)))

map_map : {X Y Z : Type 0} (f : Y → Z) (g : X → Y) (xs : List X) → map f (map g xs) ≡ map (λ x. f (g x)) xs
map_map f g [] = refl
map_map f g (x ∷ xs) = ap (λ zs. f (g x) ∷ zs) (map_map f g xs)

-- a restart does not see the highest number of an association that receives with a key that is there
killed : (keys : List KeyRow) (row : SaRow) (key : ℕ) (held : KeyRow) (high : ℕ) → row.direction ≡ Receive
    → row.key ≡ Some key → row_of keys key ≡ Some held → restarted_high keys row.direction row.key high ≡ held.floor
killed keys row key held high receives holds there =
    ap (λ (d : Direction). restarted_high keys d row.key high) receives
    ∙ ap (λ (o : Option ℕ). restarted_high keys Receive o high) holds
    ∙ ap (λ (o : Option KeyRow). option_map_or (λ (row : KeyRow). row.floor) o high) there

unseen : (keys : List KeyRow) (row : SaRow) (key : ℕ) (held : KeyRow) (window : Window) → row.direction ≡ Receive
    → row.key ≡ Some key → row_of keys key ≡ Some held
    → begun_at held.floor window ≡ begun_at held.floor row.window → restarted_row keys (record row { window = window })
    ≡ restarted_row keys row
unseen keys row key held window receives holds there same =
    ap (λ (h : ℕ). record row { window = begun_at h window })
    (killed keys row key held window.high receives holds there)
    ∙ ap (λ (w : Window). record row { window = w }) same
    ∙ ap (λ (h : ℕ). record row { window = begun_at h row.window })
    (sym (killed keys row key held row.window.high receives holds there))

one_unseen : (keys : List KeyRow) (row : SaRow) (number : ℕ) (b : Bool)
    → (b ≡ true → restarted_row keys (record row { window = accepted number row.window }) ≡ restarted_row keys row)
    → restarted_row keys (cond b (record row { window = accepted number row.window }) row) ≡ restarted_row keys row
one_unseen keys row number true same = same refl
one_unseen keys row number false same = refl

-- an acceptance moves the highest number of one association, which a restart does not see
accepted_unseen : (keys : List KeyRow) (rows : List SaRow) (spi key number : ℕ) (row : SaRow) (held : KeyRow)
    → association_rows.IsSaBook rows → association_rows.row_of rows spi ≡ Some row → row.direction ≡ Receive
    → row.key ≡ Some key → row_of keys key ≡ Some held
    → map (restarted_row keys)
    (association_rows.changed rows spi (λ row. record row { window = accepted number row.window }))
    ≡ map (restarted_row keys) rows
accepted_unseen keys rows spi key number row held ok at receives holds there =
    map_map (restarted_row keys) _ rows
    ∙ same_at_each _ (restarted_row keys) rows
    (λ k d low. one_unseen keys (get_or rows k d) number (nat_eq (get_or rows k d).spi spi)
    (λ test.
    let same : row ≡ get_or rows k d = same_Some _ _ (sym at ∙ one_row rows spi k d ok low test) in
    unseen keys (get_or rows k d) key held (accepted number (get_or rows k d).window)
    (ap (λ (r : SaRow). r.direction) (sym same) ∙ receives) (ap (λ (r : SaRow). r.key) (sym same) ∙ holds) there
    refl))

-- a key has one row

one_key_at : (keys : List KeyRow) (id k : ℕ) (d : KeyRow) (o : Option ℕ) → AreKeyRows keys → k < length keys
    → (get_or keys k d).id ≡ id → place_of keys id ≡ o → row_of keys id ≡ Some (get_or keys k d)
one_key_at keys id k d None ok low named place =
    absurd (false≢true
    (sym (find_none (λ (row : KeyRow). nat_eq row.id id) keys
    (find_nowhere (λ (row : KeyRow). nat_eq row.id id) keys place) k d low) ∙ number_test _ _ named))
one_key_at keys id k d (Some i) ok low named place =
    let at = position-Some (λ (row : KeyRow). nat_eq row.id id) keys i d place in
    find_placed (λ (row : KeyRow). nat_eq row.id id) keys i d place
    ∙ ⊎_elim (λ (here : k ≡ i). ap (λ n. Some (get_or keys n d)) (sym here))
    (λ (other : k ≢ i). absurd (other_identifier keys i k d ok at.0 low other (named ∙ sym (equal_number _ _ at.1))))
    (cases_eq k i)

changed_at : (f g : KeyRow → KeyRow) (b : Bool) (row : KeyRow) → (b ≡ true → f row ≡ g row)
    → cond b (f row) row ≡ cond b (g row) row
changed_at f g true row same = same refl
changed_at f g false row same = refl

-- changes that agree at the key's own row
same_changed : (keys : List KeyRow) (key : ℕ) (held : KeyRow) (f g : KeyRow → KeyRow) → AreKeyRows keys
    → row_of keys key ≡ Some held → f held ≡ g held → changed keys key f ≡ changed keys key g
same_changed keys key held f g ok there same =
    same_at_each _ _ keys
    (λ k d low. changed_at f g (nat_eq (get_or keys k d).id key) (get_or keys k d)
    (λ test.
    let one : held ≡ get_or keys k d =
    same_Some _ _ (sym there ∙ one_key_at keys key k d (place_of keys key) ok low (equal_number _ _ test) refl) in
    subst (λ (r : KeyRow). f r ≡ g r) one same))

unchanged : (keys : List KeyRow) (key : ℕ) → changed keys key (λ row. row) ≡ keys
unchanged [] key = refl
unchanged (row ∷ rows) key = ap (λ (r : KeyRow). r ∷ changed rows key (λ row. row)) (either (nat_eq row.id key) row)
    ∙ ap (λ rs. row ∷ rs) (unchanged rows key)
  where
    either : (b : Bool) (r : KeyRow) → cond b r r ≡ r
    either true r = refl
    either false r = refl

-- what is not stored

same_floor : (b : Bool) (held : KeyRow) (key floor : ℕ) → nat_eq held.floor floor ≡ b
    → cond b None (Some (Marks key held.mark floor)) ≡ None → held.floor ≡ floor
same_floor true held key floor e h = equal_number _ _ e
same_floor false held key floor e h = absurd (cc)

floor_stays : (held : KeyRow) (floor : ℕ) → held.floor ≡ floor → (record held { floor = max held.floor floor }) ≡ held
floor_stays held floor e = ap (λ (n : ℕ). record held { floor = n }) (omega arith)

acceptance_unstored : (state : State) (spi key number floor : ℕ) → KeepsRules state
    → AllowsAccepted state spi key number floor → stored_as state (Accepted spi key number floor) ≡ None
    → AreAlike (applied state (Accepted spi key number floor)) state
acceptance_unstored state spi key number floor ok allowed none =
    let at = there (association_row state spi) _ allowed.row in
    let t = there (key_row state key) _ allowed.held in
    let held : KeyRow = t.row in
    let equal : held.floor ≡ floor =
    same_floor (nat_eq held.floor floor) held key floor refl
    (sym (ap (option_and_then (acceptance_stored key floor)) t.is) ∙ none) in
    let keys : changed state.keys key (λ row. record row { floor = max row.floor floor }) ≡ state.keys =
    same_changed state.keys key held (λ row. record row { floor = max row.floor floor }) (λ row. row) ok.keys.rules
    t.is (floor_stays held floor equal) ∙ unchanged state.keys key in
    ap (λ (ks : List KeyRow). record state {
      keys = ks;
      associations =
          map (restarted_row ks)
          (association_rows.changed state.associations spi
          (λ row. record row { window = accepted number row.window }));
    }) keys
    ∙ ap (λ (rs : List SaRow). record state { associations = rs })
    (accepted_unseen state.keys state.associations spi key number at.row held ok.associations at.is
    at.holds.0.receives at.holds.1 t.is)

some_stored : (change : Change) → Some change ≡ None → ⊥
some_stored change e = cc

pub unstored_alike : (state : State) (change : Change) → KeepsRules state → Allows state change
    → stored_as state change ≡ None → AreAlike (applied state change) state
unstored_alike state (Marks key mark floor) ok allowed none = absurd (some_stored _ none)
unstored_alike state (Load items) ok allowed none = absurd (some_stored _ none)
unstored_alike state (KeyStates ids to) ok allowed none = absurd (some_stored _ none)
unstored_alike state (Create new) ok allowed none = absurd (some_stored _ none)
unstored_alike state (Rekey spi key number) ok allowed none = absurd (some_stored _ none)
unstored_alike state (SaTo spi to) ok allowed none = absurd (some_stored _ none)
unstored_alike state (SetNumber spi number) ok allowed none = absurd (some_stored _ none)
unstored_alike state (SetWindow spi window) ok allowed none = absurd (some_stored _ none)
unstored_alike state (Accepted spi key number floor) ok allowed none =
    acceptance_unstored state spi key number floor ok allowed none
unstored_alike state Nothing ok allowed none = refl

-- what is stored

with_high_at : (rows : List SaRow) (keys : List KeyRow) (key floor : ℕ) (held : KeyRow) → row_of keys key ≡ Some held
    → map (restarted_row keys) (lowered rows key floor) ≡ map (restarted_row keys) rows
with_high_at rows keys key floor held there =
    map_map (restarted_row keys) _ rows
    ∙ same_at_each _ (restarted_row keys) rows
    (λ k d low. low_unseen (receives_with key (get_or rows k d)) (get_or rows k d)
    (λ test. receiving (get_or rows k d) (get_or rows k d).direction (get_or rows k d).key refl refl test))
  where
    receiving : (row : SaRow) (direction : Direction) (own : Option ℕ) → row.direction ≡ direction → row.key ≡ own
        → (is_receiving direction && is_key key own) ≡ true → restarted_row keys (with_floor row floor)
        ≡ restarted_row keys row
    receiving row Receive (Some k) e f test =
        unseen keys row key held (lowered_to floor row.window) e (f ∙ ap (λ n. Some n) (equal_number k key test)) there
        (begun_lowered held.floor floor row.window)
    receiving row Receive None e f test = absurd (false≢true test)
    receiving row Send own e f test = absurd (false≢true test)

    low_unseen : (b : Bool) (row : SaRow)
        → (b ≡ true → restarted_row keys (with_floor row floor) ≡ restarted_row keys row)
        → restarted_row keys (cond b (with_floor row floor) row) ≡ restarted_row keys row
    low_unseen true row same = same refl
    low_unseen false row same = refl

raised_floor : (held : KeyRow) (floor : ℕ) → held.floor ≤ floor
    → (record held { floor = max held.floor floor }) ≡ (record held { mark = held.mark; floor = floor })
raised_floor held floor less = ap (λ (n : ℕ). record held { floor = n }) (omega arith)

stored_marks : (b : Bool) (key mark floor : ℕ) (stored : Change)
    → cond b None (Some (Marks key mark floor)) ≡ Some stored → Marks key mark floor ≡ stored
stored_marks true key mark floor stored e = absurd (cc)
stored_marks false key mark floor stored e = same_Some _ _ e

acceptance_stores : (state : State) (spi key number floor : ℕ) (stored : Change) → KeepsRules state
    → AllowsAccepted state spi key number floor → stored_as state (Accepted spi key number floor) ≡ Some stored
    → StoresWell state (Accepted spi key number floor) stored
acceptance_stores state spi key number floor stored ok allowed some =
    let at = there (association_row state spi) _ allowed.row in
    let t = there (key_row state key) _ allowed.held in
    let held : KeyRow = t.row in
    let rules = held_rules state key held ok t.is in
    let named : held.id ≡ key = equal_number _ _ (found_passes _ state.keys held t.is) in
    let is : Marks key held.mark floor ≡ stored =
    stored_marks (nat_eq held.floor floor) key held.mark floor stored
    (sym (ap (option_and_then (acceptance_stored key floor)) t.is) ∙ some) in
    let new : List KeyRow = changed state.keys key (λ row. record row { mark = held.mark; floor = floor }) in
    let keys : changed state.keys key (λ row. record row { floor = max row.floor floor }) ≡ new =
    same_changed state.keys key held (λ row. record row { floor = max row.floor floor })
    (λ row. record row { mark = held.mark; floor = floor }) ok.keys.rules t.is
    (raised_floor held floor t.holds) in
    let here : row_of new key ≡ Some (record held { mark = held.mark; floor = floor }) =
    row_of_changed state.keys key key (λ (row : KeyRow). record row { mark = held.mark; floor = floor }) (λ _. refl)
    ∙ ap (option_map (λ (row : KeyRow).
    cond (nat_eq row.id key) (record row { mark = held.mark; floor = floor }) row)) t.is
    ∙ ap (λ (b : Bool). Some (cond b (record held { mark = held.mark; floor = floor }) held))
    (number_test _ _ named) in
    subst (StoresWell state (Accepted spi key number floor)) is
    (record {
      storable = tt;
      allowed = record {
        there = subst IsSome (sym t.is) refl;
        from_one = rules.mark_from_one;
        to_end = subst (λ k. held.mark ≤ end_of k) named rules.mark_to_end;
        below_end = allowed.below_end;
      };
      alike =
          ap (λ (ks : List KeyRow). record state {
            keys = ks;
            associations =
                map (restarted_row ks)
                (association_rows.changed state.associations spi
                (λ row. record row { window = accepted number row.window }));
          }) keys
          ∙ ap (λ (rs : List SaRow). record state { keys = new; associations = rs })
          (accepted_unseen new state.associations spi key number at.row
          (record held { mark = held.mark; floor = floor }) ok.associations at.is at.holds.0.receives at.holds.1
          here ∙ sym (with_high_at state.associations new key floor
          (record held { mark = held.mark; floor = floor }) here));
    })

itself : (state : State) (change stored : Change) → IsStorable change → Allows state change → Some change ≡ Some stored
    → StoresWell state change stored
itself state change stored storable allowed e =
    subst (StoresWell state change) (same_Some change stored e)
    (record { storable = storable; allowed = allowed; alike = refl })

pub stores_well : (state : State) (change stored : Change) → KeepsRules state → Allows state change
    → stored_as state change ≡ Some stored → StoresWell state change stored
stores_well state (Marks key mark floor) stored ok allowed some = itself state _ stored tt allowed some
stores_well state (Load items) stored ok allowed some = itself state _ stored tt allowed some
stores_well state (KeyStates ids to) stored ok allowed some = itself state _ stored tt allowed some
stores_well state (Create new) stored ok allowed some = itself state _ stored tt allowed some
stores_well state (Rekey spi key number) stored ok allowed some = itself state _ stored tt allowed some
stores_well state (SaTo spi to) stored ok allowed some = itself state _ stored tt allowed some
stores_well state (SetNumber spi number) stored ok allowed some = itself state _ stored tt allowed some
stores_well state (SetWindow spi window) stored ok allowed some = itself state _ stored tt allowed some
stores_well state (Accepted spi key number floor) stored ok allowed some =
    acceptance_stores state spi key number floor stored ok allowed some
stores_well state Nothing stored ok allowed some = absurd (cc)
