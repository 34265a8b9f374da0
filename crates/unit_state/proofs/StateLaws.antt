-- Laws of states, one case for each change.
use Rattle.std.proofs.Common.{◌≡◌, ◌≢◌, ℕ, ◌-◌, ◌<◌, ◌≤◌, max, Bool, true, false, cond, nat_eq, List, [], ◌∷◌, ◌++◌}
use Rattle.std.proofs.Common.{length, get_or, map, Option, Some, None, IsSomeAnd, sym, refl, ap, ◌∙◌, subst, arith}
use Rattle.std.specs.Prelude.{IfSome}
use Rattle.std.specs.List.{find, position, position_or_len}
use Rattle.std.specs.Option.{option_map, option_map_or, option_or}
use Rattle.std.proofs.lemmas.Bool.Decides.{nat_tests}
use Rattle.std.proofs.lemmas.List.{length-map, length-append, get_or-map, get_or_append_left}
use Rattle.std.proofs.lemmas.List.Folds.{find-append}
use Rattle.std.proofs.lemmas.List.Sums.{position_or_len_is}
use Rattle.std.proofs.lemmas.List.Quantifiers.{position-Some}
use Rattle.sdls_base.proofs.Searches.{find-map}
use Rattle.sdls_base.specs.declared.entry.Change.{Change}
use Rattle.sdls_base.specs.declared.entry.Change.TheVariants.{Marks, Load, KeyStates, Create, Rekey, SaTo, SetNumber}
use Rattle.sdls_base.specs.declared.entry.Change.TheVariants.{SetWindow, Accepted, Nothing}
use Rattle.sdls_base.specs.declared.states.Direction.{Direction}
use Rattle.sdls_base.specs.declared.states.Direction.TheVariants.{Send, Receive}
use Rattle.sdls_base.specs.declared.states.KeyState.{KeyState}
use Rattle.sdls_base.specs.declared.states.KeyState.TheVariants.{PreActive, Active, Deactivated, Destroyed}
use Rattle.key_book.specs.declared.key_row.KeyRow.{KeyRow}
use Rattle.key_book.specs.KeyRow.{HasBytes, new_row, in_state}
use Rattle.key_book.specs.KeyBook.{IsKeyBook, row_of, place_of, changed}
use Rattle.key_book.proofs.Moved.{moved_row}
use Rattle.replay_window.specs.declared.window.Window.{Window}
use Rattle.replay_window.specs.Window.{accepted, begun_at}
use Rattle.replay_window.proofs.Lowered.{begun_lowered}
use Rattle.sa_book.specs.declared.sa_book.SaRow.{SaRow}
use Rattle.sa_book.specs.Numbers.{with_floor}
use Rattle.unit_state.specs.declared.state.State.{State}
use Rattle.unit_state.specs.Applied.{applied, numbered, direction_of, key_held}
use Rattle.sa_book.specs.SaBook.{covers}
use Rattle.sa_book.specs.SaRefusal.{receives_with}
use Rattle.unit_state.specs.Restart.{restarted_high, restarted_row, restarted, IsLight, still_key, still_association}
use Rattle.unit_state.specs.Restart.{still}
use Rattle.unit_state.specs.Laws.{RowRises, Rises, FallsOnlyTo, FallOnlyTo, IsNoMarks, KeepsPlaces, HaveOwnBytes}
use Rattle.unit_state.specs.Laws.{ServeAlike}
use Rattle.unit_state.proofs.Held.{row_of_changed}
use Rattle.unit_state.proofs.KeyRules.{equal_number, row_of_moved}

-- a restart of a restarted state

high_twice : (keys : List KeyRow) (direction : Direction) (key : Option ℕ) (high : ℕ)
    → restarted_high keys direction key (restarted_high keys direction key high)
    ≡ restarted_high keys direction key high
high_twice keys Receive (Some key) high = by (row_of keys key)
  where
    by : (o : Option KeyRow) → option_map_or (λ (row : KeyRow). row.floor) o
        (option_map_or (λ (row : KeyRow). row.floor) o high) ≡ option_map_or (λ (row : KeyRow). row.floor) o high
    by None = refl
    by (Some row) = refl
high_twice keys Receive None high = refl
high_twice keys Send key high = refl

row_twice : (keys : List KeyRow) (row : SaRow) → restarted_row keys (restarted_row keys row) ≡ restarted_row keys row
row_twice keys row =
    ap (λ (h : ℕ). record row { window = begun_at h row.window })
    (high_twice keys row.direction row.key row.window.high)

rows_twice : (keys : List KeyRow) (rows : List SaRow) → map (restarted_row keys) (map (restarted_row keys) rows)
    ≡ map (restarted_row keys) rows
rows_twice keys [] = refl
rows_twice keys (row ∷ rows) =
    ap (λ (r : SaRow). r ∷ map (restarted_row keys) (map (restarted_row keys) rows)) (row_twice keys row)
    ∙ ap (λ rs. restarted_row keys row ∷ rs) (rows_twice keys rows)

pub restarted_twice : (state : State) → restarted (restarted state) ≡ restarted state
restarted_twice state = ap (λ rows. record state { associations = rows }) (rows_twice state.keys state.associations)

-- numbers that do not fall

risen : (o p : Option KeyRow) (f : KeyRow → KeyRow) → p ≡ option_map f o → ((row : KeyRow) → RowRises row (f row))
    → IfSome o (λ held. IsSomeAnd p (RowRises held))
risen None p f e up = tt
risen (Some row) p f e up = subst (λ o. IsSomeAnd o (RowRises row)) (sym e) (up row)

risen_same : (o p : Option KeyRow) → p ≡ o → IfSome o (λ held. IsSomeAnd p (RowRises held))
risen_same None p e = tt
risen_same (Some row) p e =
    subst (λ o. IsSomeAnd o (RowRises row)) (sym e) (record { mark = omega arith; floor = omega arith })

risen_or : (o p : Option KeyRow) (more : Option KeyRow) → p ≡ option_or o more
    → IfSome o (λ held. IsSomeAnd p (RowRises held))
risen_or None p more e = tt
risen_or (Some row) p more e =
    subst (λ o. IsSomeAnd o (RowRises row)) (sym e) (record { mark = omega arith; floor = omega arith })

up_if : (f : KeyRow → KeyRow) (b : Bool) (row : KeyRow) → RowRises row (f row) → RowRises row (cond b (f row) row)
up_if f true row up = up
up_if f false row up = record { mark = omega arith; floor = omega arith }

changed_up : (keys : List KeyRow) (id key : ℕ) (f : KeyRow → KeyRow) → ((row : KeyRow) → (f row).id ≡ row.id)
    → ((row : KeyRow) → RowRises row (f row))
    → IfSome (row_of keys id) (λ held. IsSomeAnd (row_of (changed keys key f) id) (RowRises held))
changed_up keys id key f same up =
    risen _ _ (λ (row : KeyRow). cond (nat_eq row.id key) (f row) row) (row_of_changed keys key id f same)
    (λ row. up_if f (nat_eq row.id key) row (up row))

numbered_up : (keys : List KeyRow) (id : ℕ) (direction : Option Direction) (key : Option ℕ) (number : ℕ)
    → IfSome (row_of keys id) (λ held. IsSomeAnd (row_of (numbered keys direction key number) id) (RowRises held))
numbered_up keys id (Some Send) (Some key) number =
    changed_up keys id key (λ (row : KeyRow). record row { mark = max row.mark number }) (λ _. refl)
    (λ row. record { mark = omega arith; floor = omega arith })
numbered_up keys id (Some Receive) (Some key) number =
    changed_up keys id key (λ (row : KeyRow). record row { floor = max row.floor (number - 1) }) (λ _. refl)
    (λ row. record { mark = omega arith; floor = omega arith })
numbered_up keys id None key number = risen_same _ _ refl
numbered_up keys id (Some direction) None number = risen_same _ _ refl

pub rises : (state : State) (change : Change) → IsNoMarks change → Rises state (applied state change)
rises state (Marks key mark floor) other id = absurd other
rises state (Load items) other id = risen_or _ _ _ (find-append _ state.keys (map new_row items))
rises state (KeyStates ids to) other id =
    risen _ _ (moved_row ids to) (row_of_moved state.keys ids to id)
    (λ row. up_if (λ (row : KeyRow). in_state row to) _ row (record { mark = omega arith; floor = omega arith }))
rises state (Create new) other id = risen_same _ _ refl
rises state (Rekey spi key number) other id = numbered_up state.keys id (direction_of state spi) (Some key) number
rises state (SaTo spi to) other id = risen_same _ _ refl
rises state (SetNumber spi number) other id =
    numbered_up state.keys id (direction_of state spi) (key_held state spi) number
rises state (SetWindow spi window) other id = risen_same _ _ refl
rises state (Accepted spi key number floor) other id =
    changed_up state.keys id key (λ (row : KeyRow). record row { floor = max row.floor floor }) (λ _. refl)
    (λ row. record { mark = omega arith; floor = omega arith })
rises state Nothing other id = risen_same _ _ refl

-- numbers that fall

fallen : (o p : Option KeyRow) (R : KeyRow → KeyRow → Type 0) (f : KeyRow → KeyRow) → p ≡ option_map f o
    → ((row : KeyRow) → R row (f row)) → IfSome o (λ held. IsSomeAnd p (R held))
fallen None p R f e each = tt
fallen (Some row) p R f e each = subst (λ o. IsSomeAnd o (R row)) (sym e) (each row)

falls_if : (key mark floor : ℕ) (b : Bool) (row : KeyRow) → nat_eq row.id key ≡ b
    → FallsOnlyTo key mark floor row (cond b (record row { mark = mark; floor = floor }) row)
falls_if key mark floor true row test = record {
  mark = λ _. (equal_number row.id key test, refl);
  floor = λ _. (equal_number row.id key test, refl);
}
falls_if key mark floor false row test = record {
  mark = λ less. absurd (omega arith);
  floor = λ less. absurd (omega arith);
}

pub fall_only_to : (state : State) (key mark floor : ℕ)
    → FallOnlyTo state (applied state (Marks key mark floor)) key mark floor
fall_only_to state key mark floor id =
    let marked : KeyRow → KeyRow = λ row. record row { mark = mark; floor = floor } in
    fallen _ _ (FallsOnlyTo key mark floor) (λ (row : KeyRow). cond (nat_eq row.id key) (marked row) row)
    (row_of_changed state.keys key id marked (λ _. refl))
    (λ row. falls_if key mark floor (nat_eq row.id key) row refl)

-- octets

octets_differ : (a b : KeyState) (bytes digest more : List ℕ) → digest ≢ more → HasBytes a bytes digest
    → HasBytes b bytes more → bytes ≡ []
octets_differ Destroyed b bytes digest more other here there = here
octets_differ PreActive Destroyed bytes digest more other here there = there
octets_differ Active Destroyed bytes digest more other here there = there
octets_differ Deactivated Destroyed bytes digest more other here there = there
octets_differ PreActive PreActive bytes digest more other here there = absurd (other (here.1 ∙ sym there.1))
octets_differ PreActive Active bytes digest more other here there = absurd (other (here.1 ∙ sym there.1))
octets_differ PreActive Deactivated bytes digest more other here there = absurd (other (here.1 ∙ sym there.1))
octets_differ Active PreActive bytes digest more other here there = absurd (other (here.1 ∙ sym there.1))
octets_differ Active Active bytes digest more other here there = absurd (other (here.1 ∙ sym there.1))
octets_differ Active Deactivated bytes digest more other here there = absurd (other (here.1 ∙ sym there.1))
octets_differ Deactivated PreActive bytes digest more other here there = absurd (other (here.1 ∙ sym there.1))
octets_differ Deactivated Active bytes digest more other here there = absurd (other (here.1 ∙ sym there.1))
octets_differ Deactivated Deactivated bytes digest more other here there = absurd (other (here.1 ∙ sym there.1))

pub own_bytes : (rows : List KeyRow) → IsKeyBook rows → HaveOwnBytes rows
own_bytes rows ok i j d less low same =
    let a = get_or rows i d in
    let b = get_or rows j d in
    octets_differ a.state b.state a.bytes a.digest b.digest (ok.rules.digests i j d less low)
    (ok.rules.each i d (omega arith)).bytes
    (subst (λ bytes. HasBytes b.state bytes b.digest) (sym same) (ok.rules.each j d low).bytes)

-- places

some_row : KeyRow
some_row = record { id = 0; state = PreActive; bytes = []; digest = []; mark = 0; floor = 0 }

placed : (p : KeyRow → Bool) (rows : List KeyRow) (i : ℕ) → i < length rows → position_or_len p rows ≡ i
    → position p rows ≡ Some i
placed p rows i low e = grind (arith, nat_tests)

stays_placed : (p : KeyRow → Bool) (old new : List KeyRow) (i : ℕ) → position p old ≡ Some i → length old ≤ length new
    → ((k : ℕ) → k < length old → p (get_or new k some_row) ≡ p (get_or old k some_row)) → position p new ≡ Some i
stays_placed p old new i place more same =
    let at = position-Some p old i some_row place in
    let low : i < length old = at.0 in
    placed p new i (omega arith)
    (position_or_len_is p new i some_row (omega arith)
    (λ k less. same k (omega arith) ∙ at.2 k less)
    (λ _. same i low ∙ at.1))

place_map : (p : KeyRow → Bool) (f : KeyRow → KeyRow) (rows : List KeyRow) (i : ℕ)
    → ((row : KeyRow) → p (f row) ≡ p row) → position p rows ≡ Some i → position p (map f rows) ≡ Some i
place_map p f rows i same place =
    stays_placed p rows (map f rows) i place (omega (arith, length-map rows f))
    (λ k low. ap p (get_or-map f rows k some_row some_row low) ∙ same (get_or rows k some_row))

place_more : (p : KeyRow → Bool) (rows more : List KeyRow) (i : ℕ) → position p rows ≡ Some i
    → position p (rows ++ more) ≡ Some i
place_more p rows more i place =
    stays_placed p rows (rows ++ more) i place (omega (arith, length-append rows more))
    (λ k low. ap p (get_or_append_left rows more some_row k low))

named_same : (f : KeyRow → KeyRow) (b : Bool) (row : KeyRow) → (f row).id ≡ row.id → (cond b (f row) row).id ≡ row.id
named_same f true row same = same
named_same f false row same = refl

place_changed : (keys : List KeyRow) (key id i : ℕ) (f : KeyRow → KeyRow) → ((row : KeyRow) → (f row).id ≡ row.id)
    → place_of keys id ≡ Some i → place_of (changed keys key f) id ≡ Some i
place_changed keys key id i f same place =
    place_map (λ (row : KeyRow). nat_eq row.id id) (λ (row : KeyRow). cond (nat_eq row.id key) (f row) row) keys i
    (λ row. ap (λ n. nat_eq n id) (named_same f (nat_eq row.id key) row (same row))) place

place_numbered : (keys : List KeyRow) (id i : ℕ) (direction : Option Direction) (key : Option ℕ) (number : ℕ)
    → place_of keys id ≡ Some i → place_of (numbered keys direction key number) id ≡ Some i
place_numbered keys id i (Some Send) (Some key) number place =
    place_changed keys key id i (λ (row : KeyRow). record row { mark = max row.mark number }) (λ _. refl) place
place_numbered keys id i (Some Receive) (Some key) number place =
    place_changed keys key id i (λ (row : KeyRow). record row { floor = max row.floor (number - 1) }) (λ _. refl) place
place_numbered keys id i None key number place = place
place_numbered keys id i (Some direction) None number place = place

pub places_kept : (state : State) (change : Change) → KeepsPlaces state (applied state change)
places_kept state (Marks key mark floor) id i place =
    place_changed state.keys key id i (λ (row : KeyRow). record row { mark = mark; floor = floor }) (λ _. refl) place
places_kept state (Load items) id i place = place_more _ state.keys (map new_row items) i place
places_kept state (KeyStates ids to) id i place =
    place_map (λ (row : KeyRow). nat_eq row.id id) (moved_row ids to) state.keys i
    (λ row. ap (λ n. nat_eq n id) (named_same (λ (row : KeyRow). in_state row to) _ row refl)) place
places_kept state (Create new) id i place = place
places_kept state (Rekey spi key number) id i place =
    place_numbered state.keys id i (direction_of state spi) (Some key) number place
places_kept state (SaTo spi to) id i place = place
places_kept state (SetNumber spi number) id i place =
    place_numbered state.keys id i (direction_of state spi) (key_held state spi) number place
places_kept state (SetWindow spi window) id i place = place
places_kept state (Accepted spi key number floor) id i place =
    place_changed state.keys key id i (λ (row : KeyRow). record row { floor = max row.floor floor }) (λ _. refl) place
places_kept state Nothing id i place = place

-- changes that move numbers alone

map_same : {X Y : Type 0} (f : X → X) (g : X → Y) (xs : List X) → ((x : X) → g (f x) ≡ g x)
    → map g (map f xs) ≡ map g xs
map_same f g [] same = refl
map_same f g (x ∷ xs) same = ap (λ y. y ∷ map g (map f xs)) (same x) ∙ ap (λ ys. g x ∷ ys) (map_same f g xs same)

still_if : {X Y : Type 0} (f : X → X) (g : X → Y) (b : Bool) (x : X) → g (f x) ≡ g x → g (cond b (f x) x) ≡ g x
still_if f g true x same = same
still_if f g false x same = refl

still_keys : (keys : List KeyRow) (key : ℕ) (f : KeyRow → KeyRow) → ((row : KeyRow) → still_key (f row) ≡ still_key row)
    → map still_key (changed keys key f) ≡ map still_key keys
still_keys keys key f same =
    map_same (λ (row : KeyRow). cond (nat_eq row.id key) (f row) row) still_key keys
    (λ row. still_if f still_key (nat_eq row.id key) row (same row))

still_rows : (rows : List SaRow) (p : SaRow → Bool) (f : SaRow → SaRow)
    → ((row : SaRow) → still_association (f row) ≡ still_association row)
    → map still_association (map (λ row. cond (p row) (f row) row) rows) ≡ map still_association rows
still_rows rows p f same =
    map_same (λ (row : SaRow). cond (p row) (f row) row) still_association rows
    (λ row. still_if f still_association (p row) row (same row))

both_still : (state : State) (keys : List KeyRow) (rows : List SaRow) → map still_key keys ≡ map still_key state.keys
    → map still_association rows ≡ map still_association state.associations
    → still (record state { keys = keys; associations = rows }) ≡ still state
both_still state keys rows k r =
    ap (λ ks. record state { keys = ks; associations = map still_association rows }) k
    ∙ ap (λ rs. record state { keys = map still_key state.keys; associations = rs }) r

pub light_still : (state : State) (change : Change) → IsLight change → still (applied state change) ≡ still state
light_still state (Marks key mark floor) light =
    both_still state _ _
    (still_keys state.keys key (λ (row : KeyRow). record row { mark = mark; floor = floor }) (λ _. refl))
    (still_rows state.associations (receives_with key) (λ (row : SaRow). with_floor row floor)
    (λ row. ap (λ (w : Window). record row { window = w }) (begun_lowered 0 floor row.window)))
light_still state (Load items) light = absurd light
light_still state (KeyStates ids to) light = absurd light
light_still state (Create new) light = absurd light
light_still state (Rekey spi key number) light = absurd light
light_still state (SaTo spi to) light = absurd light
light_still state (SetNumber spi number) light = absurd light
light_still state (SetWindow spi window) light = absurd light
light_still state (Accepted spi key number floor) light =
    both_still state _ _
    (still_keys state.keys key (λ (row : KeyRow). record row { floor = max row.floor floor }) (λ _. refl))
    (still_rows state.associations (λ row. nat_eq row.spi spi)
    (λ (row : SaRow). record row { window = accepted number row.window }) (λ _. refl))
light_still state Nothing light = refl

-- what states that differ in numbers alone serve

find_still : {X : Type 0} (p : X → Bool) (g : X → X) (xs : List X) → ((x : X) → p (g x) ≡ p x)
    → option_map g (find p xs) ≡ find p (map g xs)
find_still p g xs same = sym (find-map p g xs same)

pub serves_alike : (one other : State) → still one ≡ still other → ServeAlike one other
serves_alike one other e =
    record {
      sender = λ channel.
          find_still (covers Send channel) still_association one.associations (λ _. refl)
          ∙ ap (λ (s : State). find (covers Send channel) s.associations) e
          ∙ sym (find_still (covers Send channel) still_association other.associations (λ _. refl));
      key = λ id.
          find_still (λ (row : KeyRow). nat_eq row.id id) still_key one.keys (λ _. refl)
          ∙ ap (λ (s : State). find (λ (row : KeyRow). nat_eq row.id id) s.keys) e
          ∙ sym (find_still (λ (row : KeyRow). nat_eq row.id id) still_key other.keys (λ _. refl));
    }
