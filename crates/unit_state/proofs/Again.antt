-- A restart before a change makes no difference to what a restart after it leaves.
use Rattle.std.proofs.Common.{◌≡◌, ℕ, ◌+◌, ◌-◌, max, min, Bool, true, false, cond, not, nat_eq, nat_lt, List, [], ◌∷◌}
use Rattle.std.proofs.Common.{◌++◌, map, take, drop, Option, Some, None, sym, refl, ap, ◌∙◌}
use Rattle.std.specs.List.{insert, filter, position_or_len, take-map, drop-map}
use Rattle.std.specs.Option.{option_map, option_and_then, option_map_or, option_or}
use Rattle.std.proofs.lemmas.List.{map-append}
use Rattle.std.proofs.lemmas.List.Folds.{find-append}
use Rattle.sdls_base.proofs.Searches.{find-map}
use Rattle.sdls_base.specs.declared.entry.Change.{Change}
use Rattle.sdls_base.specs.declared.entry.Change.TheVariants.{Marks, Load, KeyStates, Create, Rekey, SaTo, SetNumber}
use Rattle.sdls_base.specs.declared.entry.Change.TheVariants.{SetWindow, Accepted, Nothing}
use Rattle.sdls_base.specs.declared.states.Direction.{Direction}
use Rattle.sdls_base.specs.declared.states.Direction.TheVariants.{Send, Receive}
use Rattle.sdls_base.specs.declared.states.KeyState.{KeyState}
use Rattle.sdls_base.specs.declared.states.SaState.{SaState}
use Rattle.sdls_base.specs.declared.states.SaState.TheVariants.{Unkeyed, Keyed, Operational}
use Rattle.replay_window.specs.declared.window.Window.{Window}
use Rattle.replay_window.specs.Window.{accepted, begun_at, lowered_to, with_field}
use Rattle.replay_window.proofs.Lowered.{lowered_high, begun_lowered}
use Rattle.key_book.specs.declared.key_row.KeyRow.{KeyRow}
use Rattle.key_book.specs.KeyBook.{row_of, changed}
use Rattle.key_book.specs.KeyRow as keys
use Rattle.key_book.specs.Moves.{moved}
use Rattle.key_book.proofs.Moved.{moved_row}
use Rattle.sa_book.specs.declared.sa_book.SaRow.{SaRow}
use Rattle.sa_book.specs.SaBook.{with_row}
use Rattle.sa_book.specs.SaBook as association_rows
use Rattle.sa_book.specs.SaRow.{new_row, with_key, without_key, following}
use Rattle.sa_book.specs.SaRefusal.{receives_with}
use Rattle.sa_book.specs.Numbers.{with_high, with_floor}
use Rattle.unit_state.specs.declared.state.State.{State}
use Rattle.unit_state.specs.Applied.{applied, numbered, in_state, direction_of, key_held}
use Rattle.unit_state.specs.Restart.{restarted_high, restarted_row, restarted, AreAlike}
use Rattle.unit_state.proofs.Held.{row_of_changed}
use Rattle.unit_state.proofs.KeyRules.{row_of_moved}
use Rattle.unit_state.proofs.StateLaws.{restarted_twice}

-- keys that are there are there again

abbrev pub Stay : List KeyRow → List KeyRow → Type 0
Stay old new = (key : ℕ) → row_of new key ≡ None → row_of old key ≡ None

none_mapped : (o p : Option KeyRow) (f : KeyRow → KeyRow) → p ≡ option_map f o → p ≡ None → o ≡ None
none_mapped None p f e none = refl
none_mapped (Some row) p f e none = absurd (cc)

none_first : (o p more : Option KeyRow) → p ≡ option_or o more → p ≡ None → o ≡ None
none_first None p more e none = refl
none_first (Some row) p more e none = absurd (cc)

stay_same : (rows : List KeyRow) → Stay rows rows
stay_same rows key none = none

stay_changed : (rows : List KeyRow) (id : ℕ) (f : KeyRow → KeyRow) → ((row : KeyRow) → (f row).id ≡ row.id)
    → Stay rows (changed rows id f)
stay_changed rows id f same key none =
    none_mapped _ _ (λ (row : KeyRow). cond (nat_eq row.id id) (f row) row) (row_of_changed rows id key f same) none

stay_moved : (rows : List KeyRow) (ids : List ℕ) (to : KeyState) → Stay rows (moved rows ids to)
stay_moved rows ids to key none = none_mapped _ _ (moved_row ids to) (row_of_moved rows ids to key) none

stay_loaded : (rows more : List KeyRow) → Stay rows (rows ++ more)
stay_loaded rows more key none = none_first _ _ _ (find-append _ rows more) none

stay_numbered : (rows : List KeyRow) (direction : Option Direction) (key : Option ℕ) (number : ℕ)
    → Stay rows (numbered rows direction key number)
stay_numbered rows (Some Send) (Some key) number =
    stay_changed rows key (λ (row : KeyRow). record row { mark = max row.mark number }) (λ _. refl)
stay_numbered rows (Some Receive) (Some key) number =
    stay_changed rows key (λ (row : KeyRow). record row { floor = max row.floor (number - 1) }) (λ _. refl)
stay_numbered rows None key number = stay_same rows
stay_numbered rows (Some direction) None number = stay_same rows

-- highest numbers

high_again : (old new : List KeyRow) → Stay old new → (direction : Direction) (key : Option ℕ) (f : ℕ → ℕ) (high : ℕ)
    → restarted_high new direction key (f (restarted_high old direction key high))
    ≡ restarted_high new direction key (f high)
high_again old new stay Receive (Some key) f high = by (row_of old key) (row_of new key) (stay key)
  where
    by : (o p : Option KeyRow) → (p ≡ None → o ≡ None)
        → option_map_or (λ (row : KeyRow). row.floor) p (f (option_map_or (λ (row : KeyRow). row.floor) o high))
        ≡ option_map_or (λ (row : KeyRow). row.floor) p (f high)
    by None p none = refl
    by (Some row) (Some more) none = refl
    by (Some row) None none = absurd (let e : Some row ≡ None = none refl in cc)
high_again old new stay Receive None f high = refl
high_again old new stay Send key f high = refl

row_again : (old new : List KeyRow) → Stay old new → (row : SaRow)
    → restarted_row new (restarted_row old row) ≡ restarted_row new row
row_again old new stay row =
    ap (λ (h : ℕ). record row { window = begun_at h row.window })
    (high_again old new stay row.direction row.key (λ h. h) row.window.high)

rows_again : (old new : List KeyRow) → Stay old new → (rows : List SaRow)
    → map (restarted_row new) (map (restarted_row old) rows) ≡ map (restarted_row new) rows
rows_again old new stay [] = refl
rows_again old new stay (row ∷ rows) =
    ap (λ (r : SaRow). r ∷ map (restarted_row new) (map (restarted_row old) rows)) (row_again old new stay row)
    ∙ ap (λ rs. restarted_row new row ∷ rs) (rows_again old new stay rows)

-- rows of which some change
some_again : (old new : List KeyRow) → Stay old new → (p : SaRow → Bool) (g : SaRow → SaRow) (rows : List SaRow)
    → ((row : SaRow) → p (restarted_row old row) ≡ p row)
    → ((row : SaRow) → restarted_row new (g (restarted_row old row)) ≡ restarted_row new (g row))
    → map (restarted_row new) (map (λ row. cond (p row) (g row) row) (map (restarted_row old) rows))
    ≡ map (restarted_row new) (map (λ row. cond (p row) (g row) row) rows)
some_again old new stay p g [] same again = refl
some_again old new stay p g (row ∷ rows) same again =
    ap (λ (r : SaRow).
    r ∷ map (restarted_row new) (map (λ row. cond (p row) (g row) row) (map (restarted_row old) rows)))
    (ap (λ b. restarted_row new (cond b (g (restarted_row old row)) (restarted_row old row))) (same row)
    ∙ either (p row))
    ∙ ap (λ rs. restarted_row new (cond (p row) (g row) row) ∷ rs) (some_again old new stay p g rows same again)
  where
    either : (b : Bool) → restarted_row new (cond b (g (restarted_row old row)) (restarted_row old row))
        ≡ restarted_row new (cond b (g row) row)
    either true = again row
    either false = row_again old new stay row

-- a window in which a number is the next, and then begun anew
abbrev begun_after : List KeyRow → Direction → Option ℕ → ℕ → Window → Window
begun_after keys direction key number window =
    begun_at (restarted_high keys direction key (following direction number window).high)
    (following direction number window)

following_again : (old new : List KeyRow) (direction : Direction) (own key : Option ℕ) (number : ℕ) (window : Window)
    → begun_after new direction key number (begun_at (restarted_high old direction own window.high) window)
    ≡ begun_after new direction key number window
following_again old new Receive own key number window = refl
following_again old new Send own key number window = refl

-- an association that is lowered to a floor
floor_left : (keys : List KeyRow) (floor : ℕ) (row : SaRow)
    → restarted_row keys (with_floor row floor)
    ≡ with_high row (restarted_high keys row.direction row.key (min row.window.high floor))
floor_left keys floor row =
    ap (λ (h : ℕ).
    record row { window = begun_at (restarted_high keys row.direction row.key h) (lowered_to floor row.window) })
    (lowered_high floor row.window)
    ∙ ap (λ (w : Window). record row { window = w })
    (begun_lowered (restarted_high keys row.direction row.key (min row.window.high floor)) floor row.window)

-- rows of which one is left out
left-map : {X Y : Type 0} (p : Y → Bool) (q : X → Bool) (g : X → Y) (xs : List X) → ((x : X) → p (g x) ≡ q x)
    → filter p (map g xs) ≡ map g (filter q xs)
left-map p q g [] same = refl
left-map p q g (x ∷ xs) same =
    ap (λ b. cond b (g x ∷ filter p (map g xs)) (filter p (map g xs))) (same x)
    ∙ ap (λ ys. cond (q x) (g x ∷ ys) ys) (left-map p q g xs same)
    ∙ outside (q x)
  where
    outside : (b : Bool) → cond b (g x ∷ map g (filter q xs)) (map g (filter q xs))
        ≡ map g (cond b (x ∷ filter q xs) (filter q xs))
    outside true = refl
    outside false = refl

without_again : (old : List KeyRow) (rows : List SaRow) (spi : ℕ)
    → map (restarted_row old) (association_rows.without (map (restarted_row old) rows) spi)
    ≡ map (restarted_row old) (association_rows.without rows spi)
without_again old rows spi =
    ap (map (restarted_row old)) (left-map _ (λ (row : SaRow). not (nat_eq row.spi spi)) (restarted_row old) rows
    (λ _. refl))
    ∙ rows_again old old (stay_same old) (association_rows.without rows spi)

-- a row more
more-map : {X Y : Type 0} (g : X → Y) (xs : List X) (i : ℕ) (x : X) → map g (insert xs i x) ≡ insert (map g xs) i (g x)
more-map g xs i x =
    map-append g (take i xs) (x ∷ drop i xs)
    ∙ ap (λ ys. ys ++ g x ∷ map g (drop i xs)) (sym (take-map g i xs))
    ∙ ap (λ ys. take i (map g xs) ++ g x ∷ ys) (sym (drop-map g i xs))

place-map : {X : Type 0} (p : X → Bool) (g : X → X) (xs : List X) → ((x : X) → p (g x) ≡ p x)
    → position_or_len p (map g xs) ≡ position_or_len p xs
place-map p g [] same = refl
place-map p g (x ∷ xs) same =
    ap (λ b. cond (not b) (1 + position_or_len p (map g xs)) 0) (same x)
    ∙ ap (λ n. cond (not (p x)) (1 + n) 0) (place-map p g xs same)

with_row_again : (old : List KeyRow) (rows : List SaRow) (row : SaRow)
    → map (restarted_row old) (with_row (map (restarted_row old) rows) row)
    ≡ map (restarted_row old) (with_row rows row)
with_row_again old rows row =
    let i : ℕ = position_or_len (λ (other : SaRow). nat_lt row.spi other.spi) rows in
    ap (λ i. map (restarted_row old) (insert (map (restarted_row old) rows) i row))
    (place-map (λ (other : SaRow). nat_lt row.spi other.spi) (restarted_row old) rows (λ _. refl))
    ∙ more-map (restarted_row old) (map (restarted_row old) rows) i row
    ∙ ap (λ rs. insert rs i (restarted_row old row)) (rows_again old old (stay_same old) rows)
    ∙ sym (more-map (restarted_row old) rows i row)

-- an association that takes a state
in_state_again : (old : List KeyRow) (rows : List SaRow) (spi : ℕ) (to : Option SaState)
    → map (restarted_row old) (in_state (map (restarted_row old) rows) spi to)
    ≡ map (restarted_row old) (in_state rows spi to)
in_state_again old rows spi None = without_again old rows spi
in_state_again old rows spi (Some Unkeyed) =
    some_again old old (stay_same old) (λ row. nat_eq row.spi spi) without_key rows (λ _. refl) (λ _. refl)
in_state_again old rows spi (Some Keyed) =
    some_again old old (stay_same old) (λ row. nat_eq row.spi spi) (λ (row : SaRow). record row { state = Keyed }) rows
    (λ _. refl)
    (λ row. row_again old old (stay_same old) (record row { state = Keyed }))
in_state_again old rows spi (Some Operational) =
    some_again old old (stay_same old) (λ row. nat_eq row.spi spi) (λ (row : SaRow). record row { state = Operational })
    rows (λ _. refl)
    (λ row. row_again old old (stay_same old) (record row { state = Operational }))

-- what of an association a restart leaves

direction_again : (state : State) (spi : ℕ) → direction_of (restarted state) spi ≡ direction_of state spi
direction_again state spi =
    ap (option_map (λ (row : SaRow). row.direction))
    (find-map (λ (row : SaRow). nat_eq row.spi spi) (restarted_row state.keys) state.associations (λ _. refl))
    ∙ by (association_rows.row_of state.associations spi)
  where
    by : (o : Option SaRow) → option_map (λ (row : SaRow). row.direction) (option_map (restarted_row state.keys) o)
        ≡ option_map (λ (row : SaRow). row.direction) o
    by None = refl
    by (Some row) = refl

key_again : (state : State) (spi : ℕ) → key_held (restarted state) spi ≡ key_held state spi
key_again state spi =
    ap (option_and_then (λ (row : SaRow). row.key))
    (find-map (λ (row : SaRow). nat_eq row.spi spi) (restarted_row state.keys) state.associations (λ _. refl))
    ∙ by (association_rows.row_of state.associations spi)
  where
    by : (o : Option SaRow) → option_and_then (λ (row : SaRow). row.key) (option_map (restarted_row state.keys) o)
        ≡ option_and_then (λ (row : SaRow). row.key) o
    by None = refl
    by (Some row) = refl

-- each change

again : (state : State) (change : Change) → restarted (applied (restarted state) change)
    ≡ restarted (applied state change)
again state (Marks key mark floor) =
    let new : List KeyRow = changed state.keys key (λ row. record row { mark = mark; floor = floor }) in
    let stay : Stay state.keys new =
    stay_changed state.keys key (λ (row : KeyRow). record row { mark = mark; floor = floor }) (λ _. refl) in
    ap (λ (rs : List SaRow). record state { keys = new; associations = rs })
    (some_again state.keys new stay (receives_with key) (λ (row : SaRow). with_floor row floor) state.associations
    (λ _. refl)
    (λ row. floor_left new floor (restarted_row state.keys row)
    ∙ ap (with_high row) (high_again state.keys new stay row.direction row.key (λ h. min h floor) row.window.high)
    ∙ sym (floor_left new floor row)))
again state (Load items) =
    ap (λ (rs : List SaRow). record state { keys = state.keys ++ map keys.new_row items; associations = rs })
    (rows_again state.keys _ (stay_loaded state.keys (map keys.new_row items)) state.associations)
again state (KeyStates ids to) =
    ap (λ (rs : List SaRow). record state { keys = moved state.keys ids to; associations = rs })
    (rows_again state.keys _ (stay_moved state.keys ids to) state.associations)
again state (Create new) =
    ap (λ (rs : List SaRow). record state { associations = rs })
    (with_row_again state.keys state.associations (new_row new))
again state (Rekey spi key number) =
    let new : List KeyRow = numbered state.keys (direction_of state spi) (Some key) number in
    ap (λ (d : Option Direction).
    restarted (record state {
      keys = numbered state.keys d (Some key) number;
      associations = association_rows.changed (map (restarted_row state.keys) state.associations) spi
          (with_key key number);
    })) (direction_again state spi)
    ∙ ap (λ (rs : List SaRow). record state { keys = new; associations = rs })
    (some_again state.keys new (stay_numbered state.keys (direction_of state spi) (Some key) number)
    (λ row. nat_eq row.spi spi) (with_key key number) state.associations (λ _. refl)
    (λ row. ap (λ (w : Window). record row { state = Keyed; key = Some key; window = w })
    (following_again state.keys new row.direction row.key (Some key) number row.window)))
again state (SaTo spi to) =
    ap (λ (rs : List SaRow). record state { associations = rs }) (in_state_again state.keys state.associations spi to)
again state (SetNumber spi number) =
    let new : List KeyRow = numbered state.keys (direction_of state spi) (key_held state spi) number in
    let next : SaRow → SaRow = λ row. record row { window = following row.direction number row.window } in
    ap (λ (d : Option Direction).
    restarted (record state {
      keys = numbered state.keys d (key_held (restarted state) spi) number;
      associations = association_rows.changed (map (restarted_row state.keys) state.associations) spi next;
    }))
    (direction_again state spi)
    ∙ ap (λ (k : Option ℕ).
    restarted (record state {
      keys = numbered state.keys (direction_of state spi) k number;
      associations = association_rows.changed (map (restarted_row state.keys) state.associations) spi next;
    }))
    (key_again state spi)
    ∙ ap (λ (rs : List SaRow). record state { keys = new; associations = rs })
    (some_again state.keys new (stay_numbered state.keys (direction_of state spi) (key_held state spi) number)
    (λ row. nat_eq row.spi spi) next state.associations (λ _. refl)
    (λ row. ap (λ (w : Window). record row { window = w })
    (following_again state.keys new row.direction row.key row.key number row.window)))
again state (SetWindow spi window) =
    ap (λ (rs : List SaRow). record state { associations = rs })
    (some_again state.keys state.keys (stay_same state.keys) (λ row. nat_eq row.spi spi)
    (λ (row : SaRow). record row { window = with_field window row.window }) state.associations (λ _. refl)
    (λ row. row_again state.keys state.keys (stay_same state.keys)
    (record row { window = with_field window row.window })))
again state (Accepted spi key number floor) =
    let new : List KeyRow = changed state.keys key (λ row. record row { floor = max row.floor floor }) in
    ap (λ (rs : List SaRow). record state { keys = new; associations = rs })
    (some_again state.keys new
    (stay_changed state.keys key (λ (row : KeyRow). record row { floor = max row.floor floor }) (λ _. refl))
    (λ row. nat_eq row.spi spi) (λ (row : SaRow). record row { window = accepted number row.window }) state.associations
    (λ _. refl)
    (λ row. ap (with_high row)
    (high_again state.keys new
    (stay_changed state.keys key (λ (row : KeyRow). record row { floor = max row.floor floor }) (λ _. refl))
    row.direction row.key (λ h. max h number) row.window.high)))
again state Nothing = restarted_twice state

pub applied_alike : (one other : State) (change : Change) → AreAlike one other
    → AreAlike (applied one change) (applied other change)
applied_alike one other change same =
    sym (again one change) ∙ ap (λ (s : State). restarted (applied s change)) same ∙ again other change
