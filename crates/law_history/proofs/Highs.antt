-- What windows keep of a number over every change: for numbers that are taken, and for numbers up to the highest.
use Rattle.std.proofs.Common.{◌≡◌, ◌≢◌, ℕ, ◌-◌, ◌<◌, ◌≤◌, Bool, true, false, cond, not, ◌&&◌, nat_eq, nat_le, nat_lt}
use Rattle.std.proofs.Common.{List, [], ◌∷◌, length, get_or, take, drop, Option, Some, None, IsSomeAnd, inl, inr}
use Rattle.std.proofs.Common.{⊎_elim, ◌⊎◌, refl, sym, ap, ◌∙◌, subst, arith}
use Rattle.std.specs.Prelude.{IfSome}
use Rattle.std.specs.List.{All, insert, position_or_len}
use Rattle.std.specs.Option.{option_map_or}
use Rattle.std.proofs.lemmas.Bool.{cases_eq, cases_lt}
use Rattle.std.proofs.lemmas.Bool.Decides.{nat_tests}
use Rattle.std.proofs.lemmas.List.Elements.{All-map, All-filter, All-append, All-take, All-drop, All-cons}
use Rattle.std.proofs.lemmas.Option.{same_Some}
use Rattle.sdls_base.specs.FirstFailing.{fails_if, first_told}
use Rattle.sdls_base.specs.KeyId.{class_of, end_of}
use Rattle.sdls_base.specs.Suite.{class_of_suite}
use Rattle.sdls_base.specs.declared.entry.Change.{Change}
use Rattle.sdls_base.specs.declared.entry.Change.TheVariants.{Marks, Load, KeyStates, Create, Rekey, SaTo, SetNumber}
use Rattle.sdls_base.specs.declared.entry.Change.TheVariants.{SetWindow, Accepted, Nothing}
use Rattle.sdls_base.specs.declared.states.Direction.{Direction}
use Rattle.sdls_base.specs.declared.states.Direction.TheVariants.{Send, Receive}
use Rattle.sdls_base.specs.declared.states.KeyState.{KeyState}
use Rattle.sdls_base.specs.declared.states.SaState.{SaState}
use Rattle.sdls_base.specs.declared.states.SaState.TheVariants.{Unkeyed, Keyed, Operational}
use Rattle.key_book.specs.declared.key_row.KeyRow.{KeyRow}
use Rattle.replay_window.specs.declared.window.Window.{Window}
use Rattle.replay_window.specs.Window.{accepted, begun_at, lowered_to, with_field}
use Rattle.sa_book.specs.declared.sa_book.SaRow.{SaRow}
use Rattle.sa_book.specs.declared.refusals.SaRefusal.{SaRefusal}
use Rattle.sa_book.specs.declared.refusals.SaRefusal.TheVariants.{PastEnd, BelowFloor, WrongSuite}
use Rattle.sa_book.specs.SaRow.{new_row, with_key, without_key, following}
use Rattle.sa_book.specs.SaBook.{IsSaBook, changed}
use Rattle.sa_book.specs.SaRefusal.{is_receiving, is_key, receives_with, receiver_with, unless_unkeyed, is_same_class}
use Rattle.sa_book.specs.SaRefusal.{unless_active, taken_key, number_refusal, number_refusal_of, key_refusal}
use Rattle.sa_book.specs.Numbers.{with_floor}
use Rattle.unit_state.specs.declared.state.State.{State}
use Rattle.unit_state.specs.State.{KeepsRules, key_row, association_row}
use Rattle.unit_state.specs.Applied.{applied, in_state}
use Rattle.unit_state.specs.Allows.{Allows, AllowsRekey, AllowsNumber, AllowsAccepted}
use Rattle.unit_state.specs.Taking.{least_with}
use Rattle.unit_state.specs.Laws.{IsNoMarks, FallsOnlyTo}
use Rattle.unit_state.proofs.Found.{found}
use Rattle.unit_state.proofs.KeyRules.{equal_number, number_test}
use Rattle.unit_state.proofs.RulesKept.{there}
use Rattle.unit_state.proofs.SaRules.{judged, one_row}
use Rattle.unit_state.proofs.StateLaws.{rises, fall_only_to}
use Rattle.run_promise.specs.Numbers.{floor_of}
use Rattle.law_history.proofs.Marks.{floor_is, floors_up, row_named}

-- A fact of a window and a number that holds once the number is accepted, or lies at or below a beginning, and that no
-- change takes away but a beginning below the number.
pub record IsKeptBy (P : Window → ℕ → Type 0) : Type 0 where
  pub up_to_high : (window : Window) (n : ℕ) → P window n → n ≤ window.high
  pub taking : (window : Window) (n : ℕ) → P (accepted n window) n
  pub accepting : (window : Window) (n m : ℕ) → P window m → P (accepted n window) m
  pub setting : (window : Window) (field m : ℕ) → P window m → P (with_field field window) m
  pub beginning : (window : Window) (high m : ℕ) → m ≤ high → P (begun_at high window) m
  pub lowering : (window : Window) (floor m : ℕ) → m ≤ floor → P window m → P (lowered_to floor window) m

-- where an association receives with the key, its window has the fact
abbrev pub Holds : (Window → ℕ → Type 0) → ℕ → ℕ → SaRow → Type 0
Holds P key number row = receives_with key row ≡ true → P row.window number

-- the number is no higher than the key's floor, and the fact holds of it where an association receives with the key
pub record Covers (P : Window → ℕ → Type 0) (state : State) (key number : ℕ) : Type 0 where
  pub floor : number ≤ floor_of state key
  pub windows : All (Holds P key number) state.associations

-- ---- rows

-- an association that receives with a key
pub record IsReceiver (key : ℕ) (row : SaRow) : Type 0 where
  pub direction : row.direction ≡ Receive
  pub own : row.key ≡ Some key

receiver_by : (row : SaRow) (key : ℕ) (direction : Direction) (own : Option ℕ) → row.direction ≡ direction
    → row.key ≡ own
    → (is_receiving direction && is_key key own) ≡ true → IsReceiver key row
receiver_by row key Receive (Some other) direction own test =
    record { direction = direction; own = own ∙ ap (λ (k : ℕ). Some k) (equal_number other key test) }
receiver_by row key Receive None direction own test = absurd cc
receiver_by row key Send own direction own_is test = absurd cc

pub receiver : (key : ℕ) (row : SaRow) → receives_with key row ≡ true → IsReceiver key row
receiver key row test = receiver_by row key row.direction row.key refl refl test

pub receives : (key : ℕ) (row : SaRow) → IsReceiver key row → receives_with key row ≡ true
receives key row is =
    ap (λ (direction : Direction). is_receiving direction && is_key key row.key) is.direction
    ∙ ap (λ (own : Option ℕ). is_key key own) is.own ∙ number_test key key refl

-- at most one association receives with a key
pub one_receiver : (rows : List SaRow) (key i k : ℕ) (d : SaRow) → IsSaBook rows → i < length rows → k < length rows
    → receives_with key (get_or rows i d) ≡ true → receives_with key (get_or rows k d) ≡ true → k ≡ i
one_receiver rows key i k d ok at_i at_k one other =
    let a = receiver key (get_or rows i d) one in
    let b = receiver key (get_or rows k d) other in
    ⊎_elim (λ (here : k ≡ i). here)
    (λ (apart : k ≢ i). ⊎_elim
    (λ (less : k < i). absurd ((ok.apart k i d less at_i).keys b.direction a.direction key b.own a.own))
    (λ (more : i < k). absurd ((ok.apart i k d more at_k).keys a.direction b.direction key a.own b.own))
    (let sides : (k < i) ⊎ (i < k) = ⊎_elim (λ x. inl x) (λ x. inr (omega arith)) (cases_lt k i) in sides))
    (cases_eq k i)

-- ---- numbers that are asked for

-- a number that no refusal forbids is the least lawful one at least
least_by : (key number least : ℕ) (a b : Bool) → nat_lt number least ≡ b
    → first_told (fails_if a (PastEnd (end_of key)) ∷ fails_if b (BelowFloor least) ∷ []) ≡ None → least ≤ number
least_by key number least true b test free = absurd cc
least_by key number least false true test free = absurd cc
least_by key number least false false test free = grind (arith, nat_tests)

number_least : (key number least : ℕ) → number_refusal key number least ≡ None → least ≤ number
number_least key number least free =
    least_by key number least (nat_le (end_of key) number) (nat_lt number least) refl free

last_free : (a b c d e : Option SaRefusal) → first_told (a ∷ b ∷ c ∷ d ∷ e ∷ []) ≡ None → e ≡ None
last_free None None None None None h = refl
last_free None None None None (Some r) h = absurd cc
last_free None None None (Some r) e h = absurd cc
last_free None None (Some r) d e h = absurd cc
last_free None (Some r) c d e h = absurd cc
last_free (Some r) b c d e h = absurd cc

second_free : (a b : Option SaRefusal) → first_told (a ∷ b ∷ []) ≡ None → b ≡ None
second_free None None h = refl
second_free None (Some r) h = absurd cc
second_free (Some r) b h = absurd cc

key_least : (rows : List SaRow) (row : SaRow) (key : ℕ) (state : KeyState) (number least : ℕ)
    → key_refusal rows row key state number least ≡ None
    → least ≤ number
key_least rows row key state number least free =
    number_least key number least
    (last_free (unless_unkeyed row.state)
    (fails_if (not (is_same_class (class_of key) (class_of_suite row.suite))) WrongSuite) (unless_active state)
    (taken_key row.direction (receiver_with rows key)) (number_refusal key number least) free)

-- ---- changes

module _ (P : Window → ℕ → Type 0) (keeps : IsKeptBy P) where
  one_up : (key number : ℕ) (f : SaRow → SaRow) (b : Bool) (row : SaRow) → Holds P key number row
      → (b ≡ true → Holds P key number (f row))
      → Holds P key number (cond b (f row) row)
  one_up key number f true row up made = made refl
  one_up key number f false row up made = up

  -- one association changed
  up_changed : (key number : ℕ) (rows : List SaRow) (spi : ℕ) (f : SaRow → SaRow) → All (Holds P key number) rows
      → ((k : ℕ) (d : SaRow) → k < length rows → nat_eq (get_or rows k d).spi spi ≡ true
      → Holds P key number (f (get_or rows k d)))
      → All (Holds P key number) (changed rows spi f)
  up_changed key number rows spi f up made =
      All-map (Holds P key number) (λ (row : SaRow). cond (nat_eq row.spi spi) (f row) row) rows
      (λ k d low. one_up key number f (nat_eq (get_or rows k d).spi spi) (get_or rows k d) (up k d low) (made k d low))

  -- the one with this index is this row
  up_row : (key number : ℕ) (state : State) (spi : ℕ) (f : SaRow → SaRow) (row : SaRow) → KeepsRules state
      → association_row state spi ≡ Some row
      → All (Holds P key number) state.associations → (Holds P key number row → Holds P key number (f row))
      → All (Holds P key number) (changed state.associations spi f)
  up_row key number state spi f row rules there up made =
      up_changed key number state.associations spi f up
      (λ k d low test.
      let one : row ≡ get_or state.associations k d =
      same_Some row _ (sym there ∙ one_row state.associations spi k d rules.associations low test) in
      subst (λ (r : SaRow). Holds P key number (f r)) one
      (made (found (Holds P key number) _ state.associations row there up)))

  -- a number above the key's floor follows those that are covered
  follows_by : (direction : Direction) (asked number : ℕ) (held : KeyRow) (row : SaRow) → number ≤ held.floor
      → least_with 1 direction held ≤ asked
      → direction ≡ Receive → P (following direction asked row.window) number
  follows_by Receive asked number held row low least receives =
      keeps.beginning row.window (asked - 1) number (omega arith)
  follows_by Send asked number held row low least receives = absurd cc

  -- ---- each change

  up_rekeyed : (state : State) (key number spi own asked : ℕ) → KeepsRules state → AllowsRekey state spi own asked
      → Covers P state key number → All (Holds P key number) (changed state.associations spi (with_key own asked))
  up_rekeyed state key number spi own asked rules allowed taken =
      let at = there (association_row state spi) _ allowed in
      let t = there (key_row state own) _ at.holds in
      let judge = judged state.associations spi
      (λ row. key_refusal state.associations row own t.row.state asked (least_with 1 at.row.direction t.row))
      t.holds in
      let least = key_least state.associations judge.row own t.row.state asked (least_with 1 at.row.direction t.row)
      judge.free in
      up_row key number state spi (with_key own asked) at.row rules at.is taken.windows
      (λ up test.
      let is = receiver key (with_key own asked at.row) test in
      let same : own ≡ key = same_Some own key is.own in
      let low : number ≤ t.row.floor =
      subst (λ (n : ℕ). number ≤ n) (floor_is state key t.row (ap (key_row state) (sym same) ∙ t.is)) taken.floor in
      follows_by at.row.direction asked number t.row at.row low least is.direction)

  up_numbered : (state : State) (key number spi asked : ℕ) → KeepsRules state → AllowsNumber state spi asked
      → Covers P state key number
      → All (Holds P key number) (changed state.associations spi
      (λ row. record row { window = following row.direction asked row.window }))
  up_numbered state key number spi asked rules allowed taken =
      let at = there (association_row state spi) _ allowed in
      let own = there at.row.key _ at.holds in
      let t = there (key_row state own.row) _ own.holds in
      let least_is : ℕ = least_with 1 at.row.direction t.row in
      let judge = judged state.associations spi _ t.holds in
      let here : judge.row ≡ at.row = same_Some _ _ (sym judge.there ∙ at.is) in
      let free : number_refusal own.row asked least_is ≡ None =
      ap (λ (o : Option ℕ). number_refusal_of o asked least_is) (sym own.is ∙ ap (λ (r : SaRow). r.key) (sym here))
      ∙ second_free _ _ judge.free in
      let least = number_least own.row asked least_is free in
      up_row key number state spi (λ row. record row { window = following row.direction asked row.window }) at.row rules
      at.is taken.windows
      (λ up test.
      let is = receiver key at.row test in
      let same : own.row ≡ key = same_Some own.row key (sym own.is ∙ is.own) in
      let low : number ≤ t.row.floor =
      subst (λ (n : ℕ). number ≤ n) (floor_is state key t.row (ap (key_row state) (sym same) ∙ t.is)) taken.floor in
      follows_by at.row.direction asked number t.row at.row low least is.direction)

  up_in_state : (key number : ℕ) (rows : List SaRow) (spi : ℕ) (to : Option SaState) → All (Holds P key number) rows
      → All (Holds P key number) (in_state rows spi to)
  up_in_state key number rows spi None up = All-filter _ (Holds P key number) rows up
  up_in_state key number rows spi (Some Unkeyed) up =
      up_changed key number rows spi without_key up
      (λ k d low test now. absurd (none_received key (get_or rows k d) now))
    where
      none_received : (key : ℕ) (row : SaRow) → receives_with key (without_key row) ≡ true → ⊥
      none_received key row test = let is = receiver key (without_key row) test in let own : None ≡ Some key =
          is.own in cc
  up_in_state key number rows spi (Some Keyed) up =
      up_changed key number rows spi (λ row. record row { state = Keyed }) up (λ k d low test now. up k d low now)
  up_in_state key number rows spi (Some Operational) up =
      up_changed key number rows spi (λ row. record row { state = Operational }) up (λ k d low test now. up k d low now)

  up_inserted : (key number : ℕ) (rows : List SaRow) (row : SaRow) (n : ℕ) → Holds P key number row
      → All (Holds P key number) rows
      → All (Holds P key number) (insert rows n row)
  up_inserted key number rows row n own up =
      All-append (Holds P key number) (take n rows) (row ∷ drop n rows) (All-take (Holds P key number) n rows up)
      (All-cons (Holds P key number) row (drop n rows) own (All-drop (Holds P key number) n rows up))

  up_accepted : (state : State) (key number spi own n floor : ℕ) → KeepsRules state
      → AllowsAccepted state spi own n floor
      → All (Holds P key number) state.associations
      → All (Holds P key number) (changed state.associations spi (λ row. record row { window = accepted n row.window }))
  up_accepted state key number spi own n floor rules allowed up =
      let at = there (association_row state spi) _ allowed.row in
      up_row key number state spi (λ row. record row { window = accepted n row.window }) at.row rules at.is up
      (λ before test. keeps.accepting at.row.window n number (before test))

  windows_stay : (state : State) (change : Change) (key number : ℕ) → KeepsRules state → Allows state change
      → IsNoMarks change
      → Covers P state key number → All (Holds P key number) (applied state change).associations
  windows_stay state (Marks own mark floor) key number rules allowed unmarked taken = absurd unmarked
  windows_stay state (Load items) key number rules allowed unmarked taken = taken.windows
  windows_stay state (KeyStates ids to) key number rules allowed unmarked taken = taken.windows
  windows_stay state (Create new) key number rules allowed unmarked taken =
      up_inserted key number state.associations (new_row new)
      (position_or_len (λ (other : SaRow). nat_lt new.spi other.spi) state.associations)
      (λ test. absurd (let is = receiver key (new_row new) test in let own : None ≡ Some key = is.own in cc))
      taken.windows
  windows_stay state (Rekey spi own asked) key number rules allowed unmarked taken =
      up_rekeyed state key number spi own asked rules allowed taken
  windows_stay state (SaTo spi to) key number rules allowed unmarked taken =
      up_in_state key number state.associations spi to taken.windows
  windows_stay state (SetNumber spi asked) key number rules allowed unmarked taken =
      up_numbered state key number spi asked rules allowed taken
  windows_stay state (SetWindow spi window) key number rules allowed unmarked taken =
      up_changed key number state.associations spi (λ row. record row { window = with_field window row.window })
      taken.windows
      (λ k d low test now. keeps.setting (get_or state.associations k d).window window number
      (taken.windows k d low now))
  windows_stay state (Accepted spi own n floor) key number rules allowed unmarked taken =
      up_accepted state key number spi own n floor rules allowed taken.windows
  windows_stay state Nothing key number rules allowed unmarked taken = taken.windows

  -- a change but that of marks leaves taken what is
  pub taken_unmarked : (state : State) (change : Change) (key number : ℕ) → KeepsRules state → Allows state change
      → IsNoMarks change
      → Covers P state key number → Covers P (applied state change) key number
  taken_unmarked state change key number rules allowed unmarked taken = record {
    floor = (let up = floors_up state (applied state change) key (rises state change unmarked) in let before =
        taken.floor in omega arith);
    windows = windows_stay state change key number rules allowed unmarked taken;
  }

  -- ---- marks

  low_row : (own key number floor : ℕ) (b : Bool) (row : SaRow) → receives_with own row ≡ b → Holds P key number row
      → (own ≡ key → number ≤ floor)
      → Holds P key number (cond b (with_floor row floor) row)
  low_row own key number floor false row is up low = up
  low_row own key number floor true row is up low = λ test.
      let same : own ≡ key = same_Some own key (sym (receiver own row is).own ∙ (receiver key row test).own) in
      keeps.lowering row.window floor number (low same) (up test)

  floor_by : (own key number mark floor : ℕ) (o p : Option KeyRow)
      → number ≤ option_map_or (λ (row : KeyRow). row.floor) o 0
      → ((held : KeyRow) → o ≡ Some held → held.id ≡ key) → (own ≡ key → number ≤ floor)
      → IfSome o (λ held. IsSomeAnd p (FallsOnlyTo own mark floor held))
      → number ≤ option_map_or (λ (row : KeyRow). row.floor) p 0
  floor_by own key number mark floor None p up named low falls = omega arith
  floor_by own key number mark floor (Some held) None up named low falls = absurd falls
  floor_by own key number mark floor (Some held) (Some new) up named low falls =
      ⊎_elim
      (λ (fell : new.floor < held.floor).
      let to = falls.floor fell in
      let under : number ≤ floor = low (sym to.0 ∙ named held refl) in
      let is : new.floor ≡ floor = to.1 in
      omega arith)
      (λ (stayed : held.floor ≤ new.floor). omega arith)
      (cases_lt new.floor held.floor)

  -- marks that are set leave taken what is, where their floor is not below it
  pub taken_marked : (state : State) (own mark floor key number : ℕ) → Covers P state key number
      → (own ≡ key → number ≤ floor)
      → Covers P (applied state (Marks own mark floor)) key number
  taken_marked state own mark floor key number taken low = record {
    floor = floor_by own key number mark floor (key_row state key) (key_row (applied state (Marks own mark floor)) key)
        taken.floor
        (λ held is. row_named state key held is) low (fall_only_to state own mark floor key);
    windows = All-map (Holds P key number) (λ (row : SaRow). cond (receives_with own row) (with_floor row floor) row)
        state.associations
        (λ k d within. low_row own key number floor (receives_with own (get_or state.associations k d))
        (get_or state.associations k d) refl
        (taken.windows k d within) low);
  }
