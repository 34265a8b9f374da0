-- What each change of a row leaves of the rules.
use Rattle.std.proofs.Common.{◌≡◌, ℕ, ◌+◌, ◌<◌, ◌≤◌, ◌^◌, ◌↔◌, lit≤, max, Bool, true, false, not, ◌&&◌, nat_eq, nat_le}
use Rattle.std.proofs.Common.{List, [], ◌∷◌, length, get_or, set, Option, Some, None, IsNone, is_some, sym, refl, ap}
use Rattle.std.proofs.Common.{◌∙◌, subst, arith}
use Rattle.std.specs.List.{list_any, Contains}
use Rattle.std.specs.Option.{option_map, SomeIff}
use Rattle.std.proofs.lemmas.Bool.{false≢true}
use Rattle.std.proofs.lemmas.Option.{same_Some}
use Rattle.std.proofs.lemmas.List.Folds.{list_any_at}
use Rattle.std.proofs.lemmas.Bool.Decides.{nat_tests}
use Rattle.sdls_base.specs.KeyId.{class_of, end_of, end_of_class}
use Rattle.sdls_base.specs.Suite.{class_of_suite}
use Rattle.sdls_base.specs.declared.entry.NewSa.{NewSa}
use Rattle.sdls_base.specs.declared.key_id.KeyClass.{KeyClass}
use Rattle.sdls_base.specs.declared.key_id.KeyClass.TheVariants.{Master, Gcm, Cmac}
use Rattle.sdls_base.specs.declared.states.Direction.{Direction}
use Rattle.sdls_base.specs.declared.states.Direction.TheVariants.{Send, Receive}
use Rattle.sdls_base.specs.declared.TheConstants.{MOST_ASSOCIATIONS}
use Rattle.sdls_base.specs.declared.states.KeyState.{KeyState}
use Rattle.sdls_base.specs.Bounds.{AreChannels, IsWidth}
use Rattle.sdls_base.specs.FirstFailing.{fails_if, first_told}
use Rattle.sdls_base.specs.declared.states.SaState.{SaState}
use Rattle.sdls_base.specs.declared.states.SaState.TheVariants.{Unkeyed, Keyed, Operational}
use Rattle.replay_window.specs.declared.TheConstants.{MOST_BACK}
use Rattle.replay_window.specs.declared.window.Window.{Window}
use Rattle.replay_window.specs.WindowField.{IsWindowField}
use Rattle.replay_window.specs.Window.{accepted, begun_at, with_field}
use Rattle.sa_book.specs.declared.sa_book.SaRow.{SaRow}
use Rattle.sa_book.specs.declared.refusals.SaRefusal.{SaRefusal}
use Rattle.sa_book.specs.declared.refusals.SaRefusal.TheVariants.{SpiTaken, UnknownChannel, TableFull, WrongSuite}
use Rattle.sa_book.specs.SaRow.{IsSaRow, HasHigh, following, with_key, without_key, new_row, MayAccept}
use Rattle.sa_book.specs.SaBook.{IsSaBook, row_of, place_of, covers, is_operational, is_same_direction, with_row}
use Rattle.sa_book.specs.SaRefusal.{unless_unkeyed, unless_keyed, unless_operational, unless_active, if_unkeyed}
use Rattle.sa_book.specs.SaRefusal.{is_same_class, is_receiving, is_key, taken_key, receives_with, receiver_with}
use Rattle.sa_book.specs.SaRefusal.{number_refusal, number_refusal_of, key_refusal, rival_of, taken_channel}
use Rattle.sa_book.specs.SaRefusal.{create_refusal, first_unknown}
use Rattle.sdls_base.proofs.Searches.{find_none, is_some-find}
use Rattle.sa_book.proofs.HighRules.{FitsWindow}
use Rattle.sa_book.proofs.Rows.{IsSaBook-set, IsSaBook-insert, rules_at}

-- what no refusal says

none_both : (r : Option SaRefusal) (rs : List (Option SaRefusal)) → first_told (r ∷ rs) ≡ None
    → (r ≡ None) × (first_told rs ≡ None)
none_both None rs h = (refl, h)
none_both (Some r) rs h = absurd (cc)

not_refused : (b : Bool) (refusal : SaRefusal) → fails_if b refusal ≡ None → b ≡ false
not_refused true refusal h = absurd (cc)
not_refused false refusal h = refl

is_operational_state : (state : SaState) → unless_operational state ≡ None → state ≡ Operational
is_operational_state Operational h = refl
is_operational_state Keyed h = absurd (cc)
is_operational_state Unkeyed h = absurd (cc)

is_keyed_state : (state : SaState) → unless_keyed state ≡ None → state ≡ Keyed
is_keyed_state Keyed h = refl
is_keyed_state Operational h = absurd (cc)
is_keyed_state Unkeyed h = absurd (cc)

has_no_key : (state : SaState) → if_unkeyed state ≡ None → state ≡ Unkeyed → ⊥
has_no_key Unkeyed h e = absurd (cc)
has_no_key Keyed h e = absurd (cc)
has_no_key Operational h e = absurd (cc)

-- the rules that a change of the state to another with a key leaves
keyless_kept : (old new : SaState) (key : Option ℕ) → (old ≡ Unkeyed → ⊥) → (new ≡ Unkeyed → ⊥)
    → (old ≡ Unkeyed ↔ IsNone key) → (new ≡ Unkeyed ↔ IsNone key)
keyless_kept old new key had has keyless = (λ u. absurd (has u), λ none. absurd (had (keyless.1 none)))

with_state : (row : SaRow) (state : SaState) → IsSaRow row → (row.state ≡ Unkeyed → ⊥) → (state ≡ Unkeyed → ⊥)
    → IsSaRow (record row { state = state })
with_state row state ok had has =
    record {
      keyless = keyless_kept row.state state row.key had has ok.keyless;
      suite = ok.suite;
      high = ok.high;
      width = ok.width;
      back = ok.back;
      channels = ok.channels;
    }

pub IsSaBook-stop : (rows : List SaRow) (i : ℕ) (row : SaRow) → IsSaBook rows → i < length rows
    → row ≡ get_or rows i row → unless_operational row.state ≡ None
    → IsSaBook (set rows i (record row { state = Keyed }))
IsSaBook-stop rows i row ok within read free =
    let state : row.state ≡ Operational = is_operational_state row.state free in
    IsSaBook-set rows i row (record row { state = Keyed }) ok within read
    (with_state row Keyed (rules_at rows i row ok within read) (λ u. cc) (λ u. cc))
    refl
    (λ k d low not_i agree. record { channels = λ s. absurd (cc); keys = agree.keys })

-- starting

and_three : (a b c : Bool) → a ≡ true → b ≡ true → c ≡ true → (a && b && c) ≡ true
and_three true true true p q r = refl
and_three false b c p q r = absurd (false≢true p)
and_three true false c p q r = absurd (false≢true q)
and_three true true false p q r = absurd (false≢true r)

operational_test : (state : SaState) → state ≡ Operational → is_operational state ≡ true
operational_test state h = ap is_operational h

same_direction : (d e : Direction) → d ≡ e → is_same_direction e d ≡ true
same_direction Send Send h = refl
same_direction Receive Receive h = refl
same_direction Send Receive h = absurd (cc)
same_direction Receive Send h = absurd (cc)

equal_number : (a b : ℕ) → a ≡ b → nat_eq a b ≡ true
equal_number a b h = grind (arith, nat_tests)

found_among : (xs : List ℕ) (x : ℕ) → Contains xs x → list_any (λ own. nat_eq own x) xs ≡ true
found_among xs x c = list_any_at (λ own. nat_eq own x) xs c.0 x c.1 (equal_number _ _ c.2)

rival_test : (row other : SaRow) (channel : ℕ) → other.state ≡ Operational → row.direction ≡ other.direction
    → Contains row.channels channel → Contains other.channels channel
    → list_any (λ channel. covers row.direction channel other) row.channels ≡ true
rival_test row other channel state same own others =
    let here : (c : ℕ) → c ≡ channel → covers row.direction c other ≡ true =
    λ c e. subst (λ n. covers row.direction n other ≡ true) (sym e)
    (and_three _ _ _ (operational_test other.state state) (same_direction row.direction other.direction same)
    (found_among other.channels channel others)) in
    list_any_at (λ c. covers row.direction c other) row.channels own.0 channel own.1 (here _ own.2)

no_rival : (o : Option SaRow) → taken_channel o ≡ None → o ≡ None
no_rival None h = refl
no_rival (Some r) h = absurd (cc)

pub IsSaBook-start : (rows : List SaRow) (i : ℕ) (row : SaRow) → IsSaBook rows → i < length rows
    → row ≡ get_or rows i row → first_told (unless_keyed row.state ∷ taken_channel (rival_of rows row) ∷ []) ≡ None
    → IsSaBook (set rows i (record row { state = Operational }))
IsSaBook-start rows i row ok within read free =
    let parts = none_both (unless_keyed row.state) (taken_channel (rival_of rows row) ∷ []) free in
    let state : row.state ≡ Keyed = is_keyed_state row.state parts.0 in
    let alone = find_none (λ (other : SaRow). list_any (λ channel. covers row.direction channel other) row.channels)
    rows
    (no_rival (rival_of rows row) (none_both (taken_channel (rival_of rows row)) [] parts.1).0) in
    IsSaBook-set rows i row (record row { state = Operational }) ok within read
    (with_state row Operational (rules_at rows i row ok within read) (λ u. cc) (λ u. cc))
    refl
    (λ k d low not_i agree. record {
      channels = λ s so same channel own others.
          false≢true (sym (alone k d low) ∙ rival_test row (get_or rows k d) channel so same own others);
      keys = agree.keys;
    })

-- taking the key away

no_high : (direction : Direction) → HasHigh direction None 0
no_high Receive = refl
no_high Send = refl

pub IsSaBook-expire : (rows : List SaRow) (i : ℕ) (row : SaRow) → IsSaBook rows → i < length rows
    → row ≡ get_or rows i row → IsSaBook (set rows i (without_key row))
IsSaBook-expire rows i row ok within read =
    let rules = rules_at rows i row ok within read in
    IsSaBook-set rows i row (without_key row) ok within read
    (record {
      keyless = (λ u. refl, λ none. refl);
      suite = tt;
      high = no_high row.direction;
      width = rules.width;
      back = rules.back;
      channels = rules.channels;
    })
    refl
    (λ k d low not_i agree. record { channels = λ s. absurd (cc); keys = λ _ _ key none. absurd (cc) })

-- taking a key

class_same : (a b : KeyClass) → is_same_class a b ≡ true → a ≡ b
class_same Master Master h = refl
class_same Gcm Gcm h = refl
class_same Cmac Cmac h = refl
class_same _ _ h = absurd (false≢true h)

not_false : (b : Bool) → not b ≡ false → b ≡ true
not_false true h = refl
not_false false h = absurd (false≢true (sym h))

below_of : (a b : ℕ) → nat_le b a ≡ false → a < b
below_of a b h = grind (arith, nat_tests)

-- three of five refusals that do not apply
key_parts : (a b c d e : Option SaRefusal) → first_told (a ∷ b ∷ c ∷ d ∷ e ∷ []) ≡ None
    → (b ≡ None) × (d ≡ None) × (e ≡ None)
key_parts None None None None None h = (refl, refl, refl)
key_parts None None None None (Some r) h = absurd (cc)
key_parts None None None (Some r) e h = absurd (cc)
key_parts None None (Some r) d e h = absurd (cc)
key_parts None (Some r) c d e h = absurd (cc)
key_parts (Some r) b c d e h = absurd (cc)

create_parts : (a b c : Option SaRefusal) → first_told (a ∷ b ∷ c ∷ []) ≡ None → (a ≡ None) × (c ≡ None)
create_parts None None None h = (refl, refl)
create_parts None None (Some r) h = absurd (cc)
create_parts None (Some r) c h = absurd (cc)
create_parts (Some r) b c h = absurd (cc)

pub number_below : (key number floor : ℕ) → number_refusal key number floor ≡ None → number < end_of key
number_below key number floor free = below_of number (end_of key) (not_refused _ _ (none_both _ _ free).0)

high_after : (direction : Direction) (old : Option ℕ) (key number : ℕ) (window : Window)
    → HasHigh direction old window.high → number < end_of key
    → HasHigh direction (Some key) (following direction number window).high
high_after Receive old key number window h below = omega arith
high_after Send old key number window h below = h

width_after : (direction : Direction) (number : ℕ) (window : Window) → IsWidth window.width
    → IsWidth (following direction number window).width
width_after Receive number window h = h
width_after Send number window h = h

back_after : (direction : Direction) (number : ℕ) (window : Window) → window.back ≤ MOST_BACK
    → (following direction number window).back ≤ MOST_BACK
back_after Receive number window h = h
back_after Send number window h = h

receives_test : (row : SaRow) (key : ℕ) → row.direction ≡ Receive → row.key ≡ Some key → receives_with key row ≡ true
receives_test row key direction holds =
    ap (λ (d : Direction). is_receiving d && is_key key row.key) direction
    ∙ ap (λ (o : Option ℕ). true && is_key key o) holds
    ∙ ap (λ b. true && b) (equal_number key key refl)

not_taken : (direction : Direction) (holder : Option SaRow) → direction ≡ Receive → taken_key direction holder ≡ None
    → holder ≡ None
not_taken Receive None e h = refl
not_taken Receive (Some r) e h = absurd (cc)
not_taken Send holder e h = absurd (cc)

pub IsSaBook-rekey : (rows : List SaRow) (i : ℕ) (row : SaRow) (key : ℕ) (state : KeyState) (number floor : ℕ)
    → IsSaBook rows → i < length rows → row ≡ get_or rows i row → key_refusal rows row key state number floor ≡ None
    → IsSaBook (set rows i (with_key key number row))
IsSaBook-rekey rows i row key state number floor ok within read free =
    let rules = rules_at rows i row ok within read in
    let parts =
    key_parts (unless_unkeyed row.state)
    (fails_if (not (is_same_class (class_of key) (class_of_suite row.suite))) WrongSuite) (unless_active state)
    (taken_key row.direction (receiver_with rows key)) (number_refusal key number floor) free in
    let below : number < end_of key = number_below key number floor parts.2 in
    IsSaBook-set rows i row (with_key key number row) ok within read
    (record {
      keyless = (λ u. absurd (cc), λ none. absurd (false≢true (sym none)));
      suite = class_same (class_of key) (class_of_suite row.suite) (not_false _ (not_refused _ WrongSuite parts.0));
      high = high_after row.direction row.key key number row.window rules.high below;
      width = width_after row.direction number row.window rules.width;
      back = back_after row.direction number row.window rules.back;
      channels = rules.channels;
    })
    refl
    (λ k d low not_i agree. record {
      channels = λ s. absurd (cc);
      keys = λ receives others own mine theirs.
          let same : key ≡ own = same_Some key own mine in
          let alone =
          find_none (receives_with key) rows (not_taken row.direction (receiver_with rows key) receives parts.1) k d
          low in
          false≢true (sym alone ∙ receives_test (get_or rows k d) key others (theirs ∙ ap (λ n. Some n) (sym same)));
    })

-- numbers and windows

with_window : (rows : List SaRow) (i : ℕ) (row : SaRow) (window : Window) → IsSaBook rows → i < length rows
    → row ≡ get_or rows i row → FitsWindow row window → IsSaBook (set rows i (record row { window = window }))
with_window rows i row window ok within read fits =
    let rules = rules_at rows i row ok within read in
    IsSaBook-set rows i row (record row { window = window }) ok within read
    (record {
      keyless = rules.keyless;
      suite = rules.suite;
      high = fits.high;
      width = fits.width;
      back = fits.back;
      channels = rules.channels;
    })
    refl
    (λ k d low not_i agree. record { channels = agree.channels; keys = agree.keys })

pub IsSaBook-begin : (rows : List SaRow) (i : ℕ) (row : SaRow) (high : ℕ) → IsSaBook rows → i < length rows
    → row ≡ get_or rows i row → HasHigh row.direction row.key high
    → IsSaBook (set rows i (record row { window = begun_at high row.window }))
IsSaBook-begin rows i row high ok within read has =
    let rules = rules_at rows i row ok within read in
    with_window rows i row (begun_at high row.window) ok within read
    (record { high = has; width = rules.width; back = rules.back })

high_set : (direction : Direction) (key : Option ℕ) (number floor : ℕ) (window : Window)
    → HasHigh direction key window.high → (IsNone key → ⊥) → number_refusal_of key number floor ≡ None
    → HasHigh direction key (following direction number window).high
high_set Send key number floor window h keyed free = h
high_set Receive None number floor window h keyed free = absurd (keyed refl)
high_set Receive (Some key) number floor window h keyed free = let below = number_below key number floor free in
    omega arith

pub IsSaBook-set_number : (rows : List SaRow) (i : ℕ) (row : SaRow) (number floor : ℕ) → IsSaBook rows → i < length rows
    → row ≡ get_or rows i row → first_told (if_unkeyed row.state ∷ number_refusal_of row.key number floor ∷ []) ≡ None
    → IsSaBook (set rows i (record row { window = following row.direction number row.window }))
IsSaBook-set_number rows i row number floor ok within read free =
    let rules = rules_at rows i row ok within read in
    let parts = none_both _ _ free in
    with_window rows i row (following row.direction number row.window) ok within read
    (record {
      high = high_set row.direction row.key number floor row.window rules.high
          (λ none. has_no_key row.state parts.0 (rules.keyless.1 none)) (none_both _ _ parts.1).0;
      width = width_after row.direction number row.window rules.width;
      back = back_after row.direction number row.window rules.back;
    })

pub IsSaBook-set_window : (rows : List SaRow) (i : ℕ) (row : SaRow) (field : ℕ) → IsSaBook rows → i < length rows
    → row ≡ get_or rows i row → IsWindowField field
    → IsSaBook (set rows i (record row { window = with_field field row.window }))
IsSaBook-set_window rows i row field ok within read bounds =
    with_window rows i row (with_field field row.window) ok within read
    (record { high = (rules_at rows i row ok within read).high; width = bounds.width; back = bounds.back })

high_accepted : (direction : Direction) (held : Option ℕ) (key number high : ℕ) → direction ≡ Receive → held ≡ Some key
    → number < end_of key → HasHigh direction held high
    → HasHigh direction held (max high number)
high_accepted Receive (Some own) key number high d h below has =
    let low : number < end_of own = subst (λ n. number < end_of n) (sym (same_Some own key h)) below in omega arith
high_accepted Receive None key number high d h below has = absurd (cc)
high_accepted Send held key number high d h below has = absurd (cc)

pub IsSaBook-accept : (rows : List SaRow) (i : ℕ) (row : SaRow) (number : ℕ) → IsSaBook rows → i < length rows
    → row ≡ get_or rows i row → MayAccept row number
    → IsSaBook (set rows i (record row { window = accepted number row.window }))
IsSaBook-accept rows i row number ok within read may =
    let rules = rules_at rows i row ok within read in
    with_window rows i row (accepted number row.window) ok within read
    (record {
      high = high_accepted row.direction row.key may.key number row.window.high may.receives may.holds
          may.fresh.below_end rules.high;
      width = rules.width;
      back = rules.back;
    })

class_end : (class : KeyClass) → end_of_class class ≤ 2 ^ 48
class_end Master = lit≤ tt
class_end Gcm = lit≤ tt
class_end Cmac = lit≤ tt

high_small : (direction : Direction) (key : Option ℕ) (high : ℕ) → HasHigh direction key high → high < 2 ^ 48
high_small Receive (Some key) high h = let far = class_end (class_of key) in omega arith
high_small Receive None high h = omega arith
high_small Send key high h = omega arith

-- the number after the highest is one of 64 bits
pub next_fits : (rows : List SaRow) (i : ℕ) (row : SaRow) → IsSaBook rows → i < length rows → row ≡ get_or rows i row
    → row.window.high + 1 < 2 ^ 64
next_fits rows i row ok within read =
    let small = high_small row.direction row.key row.window.high (rules_at rows i row ok within read).high in
    omega arith

-- creation

none_some : {X : Type 0} (o : Option X) → is_some o ≡ false → o ≡ None
none_some None h = refl
none_some (Some x) h = absurd (false≢true (sym h))

pub IsSaBook-create : (rows : List SaRow) (new : NewSa) (known : List ℕ) → IsSaBook rows → IsWindowField new.window
    → AreChannels new.channels → create_refusal rows new known ≡ None → IsSaBook (with_row rows (new_row new))
IsSaBook-create rows new known ok bounds channels free =
    let parts = create_parts (fails_if (is_some (row_of rows new.spi)) SpiTaken)
    (option_map UnknownChannel (first_unknown new.channels known))
    (fails_if (nat_le MOST_ASSOCIATIONS (length rows)) TableFull) free in
    let alone = find_none (λ (row : SaRow). nat_eq row.spi new.spi) rows
    (none_some (row_of rows new.spi) (not_refused _ SpiTaken parts.0)) in
    let room : length rows < MOST_ASSOCIATIONS = below_of _ _ (not_refused _ TableFull parts.1) in
    IsSaBook-insert rows (new_row new) ok (omega arith)
    (record {
      keyless = (λ u. refl, λ none. refl);
      suite = tt;
      high = no_high new.direction;
      width = bounds.width;
      back = bounds.back;
      channels = channels;
    })
    (λ k d low same. false≢true (sym (alone k d low) ∙ equal_number _ _ same))
    (λ other. record { channels = λ s. absurd (cc); keys = λ _ _ key none. absurd (cc) })

-- judging a creation

create-taken : (rows : List SaRow) (new : NewSa) (known : List ℕ) (b : Bool) → is_some (place_of rows new.spi) ≡ b
    → create_refusal rows new known
    ≡ first_told (fails_if b SpiTaken ∷ option_map UnknownChannel (first_unknown new.channels known)
    ∷ fails_if (nat_le MOST_ASSOCIATIONS (length rows)) TableFull ∷ [])
create-taken rows new known b h =
    ap (λ t. first_told (fails_if t SpiTaken ∷ option_map UnknownChannel (first_unknown new.channels known)
    ∷ fails_if (nat_le MOST_ASSOCIATIONS (length rows)) TableFull ∷ []))
    (is_some-find (λ (row : SaRow). nat_eq row.spi new.spi) rows ∙ h)

pub create_refusal-taken : (rows : List SaRow) (new : NewSa) (known : List ℕ) → is_some (place_of rows new.spi) ≡ true
    → create_refusal rows new known ≡ Some SpiTaken
create_refusal-taken rows new known h = create-taken rows new known true h

pub create_refusal-unknown : (rows : List SaRow) (new : NewSa) (known : List ℕ) (channel : ℕ)
    → is_some (place_of rows new.spi) ≡ false → first_unknown new.channels known ≡ Some channel
    → create_refusal rows new known ≡ Some (UnknownChannel channel)
create_refusal-unknown rows new known channel free unknown =
    create-taken rows new known false free
    ∙ ap (λ (o : Option ℕ).
    first_told (option_map UnknownChannel o ∷ fails_if (nat_le MOST_ASSOCIATIONS (length rows)) TableFull ∷ []))
    unknown

create-known : (rows : List SaRow) (new : NewSa) (known : List ℕ) (b : Bool) → is_some (place_of rows new.spi) ≡ false
    → first_unknown new.channels known ≡ None → nat_le MOST_ASSOCIATIONS (length rows) ≡ b
    → create_refusal rows new known ≡ first_told (fails_if b TableFull ∷ [])
create-known rows new known b free all_known h =
    create-taken rows new known false free
    ∙ ap (λ (o : Option ℕ).
    first_told (option_map UnknownChannel o ∷ fails_if (nat_le MOST_ASSOCIATIONS (length rows)) TableFull ∷ []))
    all_known
    ∙ ap (λ t. first_told (fails_if t TableFull ∷ [])) h

at_most : (a b : ℕ) → a ≤ b → nat_le a b ≡ true
at_most a b h = grind (arith, nat_tests)

not_most : (a b : ℕ) → b < a → nat_le a b ≡ false
not_most a b h = grind (arith, nat_tests)

pub create_refusal-full : (rows : List SaRow) (new : NewSa) (known : List ℕ) → is_some (place_of rows new.spi) ≡ false
    → first_unknown new.channels known ≡ None → MOST_ASSOCIATIONS ≤ length rows
    → create_refusal rows new known ≡ Some TableFull
create_refusal-full rows new known free all_known full =
    create-known rows new known true free all_known (at_most _ _ full)

pub create_refusal-none : (rows : List SaRow) (new : NewSa) (known : List ℕ) → is_some (place_of rows new.spi) ≡ false
    → first_unknown new.channels known ≡ None → length rows < MOST_ASSOCIATIONS → create_refusal rows new known ≡ None
create_refusal-none rows new known free all_known room =
    create-known rows new known false free all_known (not_most _ _ room)

-- a channel's number makes the channel
pub named_channel : (made : Option ℕ) (n : ℕ) → SomeIff made (n ≤ 63) n → n ≤ 63 → made ≡ Some n
named_channel None n made low = absurd (made low)
named_channel (Some m) n made low = ap (λ k. Some k) made.1
