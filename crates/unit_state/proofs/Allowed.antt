-- What books refuse does not depend on the highest numbers of associations.
use Rattle.std.proofs.Common.{◌≡◌, ℕ, not, nat_le, nat_eq, List, [], ◌∷◌, length, map, Option, Some, None, is_some}
use Rattle.std.proofs.Common.{IsSome, IsSomeAnd, sym, refl, ap, ◌∙◌, subst}
use Rattle.std.specs.List.{Any, list_any, cons_option}
use Rattle.std.specs.Option.{option_map}
use Rattle.std.proofs.lemmas.List.{length-map}
use Rattle.std.proofs.lemmas.Option.{same_Some}
use Rattle.sdls_base.proofs.Searches.{find-map}
use Rattle.sdls_base.specs.FirstFailing.{fails_if, first_told}
use Rattle.sdls_base.specs.KeyId.{class_of}
use Rattle.sdls_base.specs.declared.TheConstants.{MOST_ASSOCIATIONS}
use Rattle.sdls_base.specs.declared.entry.NewSa.{NewSa}
use Rattle.sdls_base.specs.declared.entry.Change.{Change}
use Rattle.sdls_base.specs.declared.entry.Change.TheVariants.{Marks, Load, KeyStates, Create, Rekey, SaTo, SetNumber}
use Rattle.sdls_base.specs.declared.entry.Change.TheVariants.{SetWindow, Accepted, Nothing}
use Rattle.sdls_base.specs.declared.states.Direction.{Direction}
use Rattle.sdls_base.specs.declared.states.Direction.TheVariants.{Send, Receive}
use Rattle.sdls_base.specs.declared.states.KeyState.{KeyState}
use Rattle.sdls_base.specs.declared.states.SaState.{SaState}
use Rattle.sdls_base.specs.declared.states.SaState.TheVariants.{Unkeyed, Keyed, Operational}
use Rattle.key_book.specs.declared.key_row.KeyRow.{KeyRow}
use Rattle.key_book.specs.KeyBook as key_rows
use Rattle.key_book.specs.KeyRefusal.{load_refusal}
use Rattle.key_book.specs.Moves.{moves_refusal}
use Rattle.sa_book.specs.declared.sa_book.SaRow.{SaRow}
use Rattle.sa_book.specs.declared.refusals.SaRefusal.{SaRefusal}
use Rattle.sa_book.specs.declared.refusals.SaRefusal.TheVariants.{SpiTaken, TableFull, UnknownChannel, WrongSuite}
use Rattle.sa_book.specs.SaBook.{row_of, covers, in_use}
use Rattle.sa_book.specs.SaRefusal.{on_row, first_unknown, create_refusal, unless_unkeyed, unless_keyed}
use Rattle.sa_book.specs.SaRefusal.{unless_operational, unless_active, is_same_class, receives_with, receiver_with}
use Rattle.sa_book.specs.SaRefusal.{taken_key, number_refusal, key_refusal, rekey_refusal, rival_of, taken_channel}
use Rattle.sa_book.specs.SaRefusal.{start_refusal, set_number_refusal, set_window_refusal}
use Rattle.sdls_base.specs.Suite.{class_of_suite}
use Rattle.unit_state.specs.declared.state.State.{State}
use Rattle.unit_state.specs.State.{key_row}
use Rattle.unit_state.specs.Allows.{Allows, IsActiveMaster, state_refusal, AllowsRekey, AllowsNumber}
use Rattle.unit_state.specs.Taking.{least_with}
use Rattle.unit_state.specs.Restart.{restarted_row, AreAlike, IsStorable, still_association}

-- the associations with highest numbers at 0
abbrev still : List SaRow → List SaRow
still rows = map still_association rows

row_still : (rows : List SaRow) (spi : ℕ) → row_of (still rows) spi ≡ option_map still_association (row_of rows spi)
row_still rows spi = find-map (λ (row : SaRow). nat_eq row.spi spi) still_association rows (λ _. refl)

some_still : {X : Type 0} (f : X → X) (o : Option X) → is_some (option_map f o) ≡ is_some o
some_still f None = refl
some_still f (Some x) = refl

-- a refusal that looks at a row, but not at its highest number
on_row_still : (rows : List SaRow) (spi : ℕ) (f g : SaRow → Option SaRefusal)
    → ((row : SaRow) → f (still_association row) ≡ g row) → on_row (row_of (still rows) spi) f
    ≡ on_row (row_of rows spi) g
on_row_still rows spi f g same = ap (λ o. on_row o f) (row_still rows spi) ∙ by (row_of rows spi)
  where
    by : (o : Option SaRow) → on_row (option_map still_association o) f ≡ on_row o g
    by None = refl
    by (Some row) = same row

create_still : (rows : List SaRow) (new : NewSa) (known : List ℕ)
    → create_refusal (still rows) new known ≡ create_refusal rows new known
create_still rows new known =
    ap (λ b. first_told (fails_if b SpiTaken ∷ option_map UnknownChannel (first_unknown new.channels known)
    ∷ fails_if (nat_le MOST_ASSOCIATIONS (length (still rows))) TableFull ∷ []))
    (ap is_some (row_still rows new.spi) ∙ some_still still_association (row_of rows new.spi))
    ∙ ap (λ n.
    first_told (fails_if (is_some (row_of rows new.spi)) SpiTaken ∷ option_map UnknownChannel
    (first_unknown new.channels known) ∷ fails_if (nat_le MOST_ASSOCIATIONS n) TableFull ∷ []))
    (length-map rows still_association)

taken_key_still : (rows : List SaRow) (direction : Direction) (key : ℕ)
    → taken_key direction (receiver_with (still rows) key) ≡ taken_key direction (receiver_with rows key)
taken_key_still rows direction key =
    ap (taken_key direction) (find-map (receives_with key) still_association rows (λ _. refl))
    ∙ by direction (receiver_with rows key)
  where
    by : (direction : Direction) (o : Option SaRow) → taken_key direction (option_map still_association o)
        ≡ taken_key direction o
    by Send o = refl
    by Receive None = refl
    by Receive (Some row) = refl

key_still : (rows : List SaRow) (row : SaRow) (key : ℕ) (state : KeyState) (number floor : ℕ)
    → key_refusal (still rows) (still_association row) key state number floor
    ≡ key_refusal rows row key state number floor
key_still rows row key state number floor =
    ap (λ o. first_told
    (unless_unkeyed row.state ∷ fails_if (not (is_same_class (class_of key) (class_of_suite row.suite))) WrongSuite
    ∷ unless_active state ∷ o ∷ number_refusal key number floor ∷ [])) (taken_key_still rows row.direction key)

rekey_still : (rows : List SaRow) (spi key : ℕ) (state : KeyState) (number floor : ℕ)
    → rekey_refusal (still rows) spi key state number floor ≡ rekey_refusal rows spi key state number floor
rekey_still rows spi key state number floor =
    on_row_still rows spi (λ row. key_refusal (still rows) row key state number floor)
    (λ row. key_refusal rows row key state number floor) (λ row. key_still rows row key state number floor)

taken_channel_still : (rows : List SaRow) (row : SaRow) → taken_channel (rival_of (still rows) (still_association row))
    ≡ taken_channel (rival_of rows row)
taken_channel_still rows row =
    ap taken_channel
    (find-map (λ (other : SaRow). list_any (λ channel. covers row.direction channel other) row.channels)
    still_association rows (λ _. refl)) ∙ by (rival_of rows row)
  where
    by : (o : Option SaRow) → taken_channel (option_map still_association o) ≡ taken_channel o
    by None = refl
    by (Some other) = refl

start_still : (rows : List SaRow) (spi : ℕ) → start_refusal (still rows) spi ≡ start_refusal rows spi
start_still rows spi =
    on_row_still rows spi _ (λ row. first_told (unless_keyed row.state ∷ taken_channel (rival_of rows row) ∷ []))
    (λ row. ap (λ o. first_told (unless_keyed row.state ∷ o ∷ [])) (taken_channel_still rows row))

state_still : (rows : List SaRow) (spi : ℕ) (to : Option SaState)
    → state_refusal (still rows) spi to ≡ state_refusal rows spi to
state_still rows spi None = on_row_still rows spi _ (λ row. unless_unkeyed row.state) (λ _. refl)
state_still rows spi (Some Unkeyed) = on_row_still rows spi _ (λ row. unless_keyed row.state) (λ _. refl)
state_still rows spi (Some Keyed) = on_row_still rows spi _ (λ row. unless_operational row.state) (λ _. refl)
state_still rows spi (Some Operational) = start_still rows spi

number_still : (rows : List SaRow) (spi number floor : ℕ) → set_number_refusal (still rows) spi number floor
    ≡ set_number_refusal rows spi number floor
number_still rows spi number floor = on_row_still rows spi _ _ (λ _. refl)

window_still : (rows : List SaRow) (spi : ℕ) → set_window_refusal (still rows) spi ≡ set_window_refusal rows spi
window_still rows spi = on_row_still rows spi _ _ (λ _. refl)

in_use_still : (rows : List SaRow) → in_use (still rows) ≡ in_use rows
in_use_still [] = refl
in_use_still (row ∷ rows) = ap (cons_option (option_map (λ key. (key, row.spi)) row.key)) (in_use_still rows)

-- states that a restart makes the same: their associations differ in highest numbers alone

still_restarted : (keys : List KeyRow) (rows : List SaRow) → still (map (restarted_row keys) rows) ≡ still rows
still_restarted keys [] = refl
still_restarted keys (row ∷ rows) = ap (λ rs. still_association row ∷ rs) (still_restarted keys rows)

still_alike : (one other : State) → AreAlike one other → still one.associations ≡ still other.associations
still_alike one other same =
    sym (still_restarted one.keys one.associations)
    ∙ ap (λ (s : State). still s.associations) same
    ∙ still_restarted other.keys other.associations

-- what does not look at highest numbers is the same
same_said : {X : Type 0} (f : List SaRow → X) → ((rows : List SaRow) → f (still rows) ≡ f rows)
    → (rows more : List SaRow) → still rows ≡ still more → f more ≡ f rows
same_said f said rows more e = sym (said more) ∙ ap f (sym e) ∙ said rows

some_row : (o p : Option SaRow) (P Q : SaRow → Type 0) → option_map still_association o ≡ option_map still_association p
    → ((row other : SaRow) → still_association row ≡ still_association other → P row → Q other) → IsSomeAnd o P
    → IsSomeAnd p Q
some_row None p P Q e agree holds = absurd holds
some_row (Some row) None P Q e agree holds = absurd (cc)
some_row (Some row) (Some other) P Q e agree holds = agree row other (same_Some _ _ e) holds

found_row : (rows more : List SaRow) (spi : ℕ) → still rows ≡ still more
    → option_map still_association (row_of rows spi) ≡ option_map still_association (row_of more spi)
found_row rows more spi e = sym (row_still rows spi) ∙ ap (λ rs. row_of rs spi) e ∙ row_still more spi

some_still_holds : {X : Type 0} (o : Option X) (P Q : X → Type 0) → ((x : X) → P x → Q x) → IsSomeAnd o P
    → IsSomeAnd o Q
some_still_holds None P Q each holds = holds
some_still_holds (Some x) P Q each holds = each x holds

rekey_alike : (one other : State) (spi key number : ℕ) → one.keys ≡ other.keys
    → still one.associations ≡ still other.associations → AllowsRekey one spi key number
    → AllowsRekey other spi key number
rekey_alike one other spi key number keys rows allowed =
    some_row _ _
    (λ row. IsSomeAnd (key_row one key) (Takes one.associations row))
    (λ row. IsSomeAnd (key_row other key) (Takes other.associations row))
    (found_row one.associations other.associations spi rows)
    (λ row more e holds. subst (λ ks. IsSomeAnd (key_rows.row_of ks key) (Takes other.associations more)) keys
    (some_still_holds (key_row one key) (Takes one.associations row) (Takes other.associations more) (takes row more e)
    holds))
    allowed
  where
    Takes : List SaRow → SaRow → KeyRow → Type 0
    Takes rows row held = rekey_refusal rows spi key held.state number (least_with 1 row.direction held) ≡ None

    takes : (row more : SaRow) → still_association row ≡ still_association more → (held : KeyRow)
        → Takes one.associations row held → Takes other.associations more held
    takes row more e held free =
        ap (λ (r : SaRow). rekey_refusal other.associations spi key held.state number (least_with 1 r.direction held))
        (sym e)
        ∙ same_said (λ rs. rekey_refusal rs spi key held.state number (least_with 1 row.direction held))
        (λ rs. rekey_still rs spi key held.state number (least_with 1 row.direction held)) one.associations
        other.associations rows
        ∙ free

number_alike : (one other : State) (spi number : ℕ) → one.keys ≡ other.keys
    → still one.associations ≡ still other.associations → AllowsNumber one spi number → AllowsNumber other spi number
number_alike one other spi number keys rows allowed =
    some_row _ _
    (λ row. IsSomeAnd row.key (Keyed one.keys one.associations row))
    (λ row. IsSomeAnd row.key (Keyed other.keys other.associations row))
    (found_row one.associations other.associations spi rows)
    (λ row more e holds. subst (λ o. IsSomeAnd o (Keyed other.keys other.associations more))
    (ap (λ (r : SaRow). r.key) e)
    (some_still_holds row.key (Keyed one.keys one.associations row) (Keyed other.keys other.associations more)
    (keyed row more e) holds))
    allowed
  where
    Takes : List SaRow → SaRow → KeyRow → Type 0
    Takes rows row held = set_number_refusal rows spi number (least_with 1 row.direction held) ≡ None

    Keyed : List KeyRow → List SaRow → SaRow → ℕ → Type 0
    Keyed keys rows row key = IsSomeAnd (key_rows.row_of keys key) (Takes rows row)

    takes : (row more : SaRow) → still_association row ≡ still_association more → (held : KeyRow)
        → Takes one.associations row held → Takes other.associations more held
    takes row more e held free =
        ap (λ (r : SaRow). set_number_refusal other.associations spi number (least_with 1 r.direction held)) (sym e)
        ∙ same_said (λ rs. set_number_refusal rs spi number (least_with 1 row.direction held))
        (λ rs. number_still rs spi number (least_with 1 row.direction held)) one.associations other.associations
        rows
        ∙ free

    keyed : (row more : SaRow) → still_association row ≡ still_association more → (key : ℕ)
        → Keyed one.keys one.associations row key → Keyed other.keys other.associations more key
    keyed row more e key holds =
        subst (λ ks. IsSomeAnd (key_rows.row_of ks key) (Takes other.associations more)) keys
        (some_still_holds (key_rows.row_of one.keys key) (Takes one.associations row) (Takes other.associations more)
        (takes row more e) holds)

allowed_still : (one other : State) (change : Change) → IsStorable change → one.keys ≡ other.keys
    → one.channels ≡ other.channels → still one.associations ≡ still other.associations → Allows one change
    → Allows other change
allowed_still one other (Marks key mark floor) storable keys channels rows allowed = record {
  there = subst (λ ks. IsSome (key_rows.row_of ks key)) keys allowed.there;
  from_one = allowed.from_one;
  to_end = allowed.to_end;
  below_end = allowed.below_end;
}
allowed_still one other (Load items) storable keys channels rows allowed = record {
  master = subst (λ ks. Any IsActiveMaster ks) keys allowed.master;
  count = allowed.count;
  each = allowed.each;
  book = ap (λ ks. load_refusal ks items) (sym keys) ∙ allowed.book;
}
allowed_still one other (KeyStates ids to) storable keys channels rows allowed = record {
  count = allowed.count;
  book =
      ap (λ ks. moves_refusal ks ids to (in_use other.associations)) (sym keys)
      ∙ ap (moves_refusal one.keys ids to) (same_said in_use in_use_still one.associations other.associations rows)
      ∙ allowed.book;
}
allowed_still one other (Create new) storable keys channels rows allowed = record {
  window = allowed.window;
  channels = allowed.channels;
  numbers = allowed.numbers;
  book =
      ap (create_refusal other.associations new) (sym channels)
      ∙ same_said (λ rs. create_refusal rs new one.channels) (λ rs. create_still rs new one.channels) one.associations
      other.associations rows
      ∙ allowed.book;
}
allowed_still one other (Rekey spi key number) storable keys channels rows allowed =
    rekey_alike one other spi key number keys rows allowed
allowed_still one other (SaTo spi to) storable keys channels rows allowed =
    same_said (λ rs. state_refusal rs spi to) (λ rs. state_still rs spi to) one.associations other.associations rows
    ∙ allowed
allowed_still one other (SetNumber spi number) storable keys channels rows allowed =
    number_alike one other spi number keys rows allowed
allowed_still one other (SetWindow spi window) storable keys channels rows allowed = record {
  bounds = allowed.bounds;
  book =
      same_said (λ rs. set_window_refusal rs spi) (λ rs. window_still rs spi) one.associations other.associations rows
      ∙ allowed.book;
}
allowed_still one other (Accepted spi key number floor) storable keys channels rows allowed = absurd storable
allowed_still one other Nothing storable keys channels rows allowed = absurd storable

pub allowed_alike : (one other : State) (change : Change) → IsStorable change → AreAlike one other → Allows one change
    → Allows other change
allowed_alike one other change storable same allowed =
    allowed_still one other change storable (ap (λ (s : State). s.keys) same) (ap (λ (s : State). s.channels) same)
    (still_alike one other same) allowed
