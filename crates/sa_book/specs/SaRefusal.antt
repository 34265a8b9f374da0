-- Which refusal comes first (CCSDS 355.1-B-1, SA management; order profile).
use Rattle.std.specs.Prelude.{◌≡◌, ℕ, ◌⊎◌, Bool, true, false, not, ◌&&◌, ◌==◌, nat_lt, nat_le, List, [], ◌∷◌, length}
use Rattle.std.specs.Prelude.{Option, Some, None, is_some}
use Rattle.std.specs.List.{find, list_any}
use Rattle.std.specs.Option.{option_map, option_map_or}
use Rattle.sdls_base.specs.FirstFailing.{fails_if, first_told}
use Rattle.sdls_base.specs.KeyId.{class_of, end_of}
use Rattle.sdls_base.specs.Suite.{class_of_suite}
use Rattle.sdls_base.specs.declared.TheConstants.{MOST_ASSOCIATIONS}
use Rattle.sdls_base.specs.declared.entry.NewSa.{NewSa}
use Rattle.sdls_base.specs.declared.key_id.KeyClass.{KeyClass}
use Rattle.sdls_base.specs.declared.key_id.KeyClass.TheVariants as classes
use Rattle.sdls_base.specs.declared.states.Direction.{Direction}
use Rattle.sdls_base.specs.declared.states.Direction.TheVariants.{Send, Receive}
use Rattle.sdls_base.specs.declared.states.KeyState.{KeyState}
use Rattle.sdls_base.specs.declared.states.KeyState.TheVariants as key_states
use Rattle.sdls_base.specs.declared.states.SaState.{SaState}
use Rattle.sdls_base.specs.declared.states.SaState.TheVariants.{Unkeyed, Keyed, Operational}
use Rattle.sa_book.specs.declared.sa_book.SaRow.{SaRow}
use Rattle.sa_book.specs.declared.refusals.SaRefusal.{SaRefusal}
use Rattle.sa_book.specs.declared.refusals.SaRefusal.TheVariants.{UnknownSpi, SpiTaken, WrongState, ChannelTaken}
use Rattle.sa_book.specs.declared.refusals.SaRefusal.TheVariants.{KeyNotActive, BelowFloor, TableFull, WrongSuite}
use Rattle.sa_book.specs.declared.refusals.SaRefusal.TheVariants.{PastEnd, UnknownChannel, KeyTaken, NoMemory}
use Rattle.sa_book.specs.SaBook.{row_of, covers}

-- a refusal is lack of memory, or the first that applies
abbrev pub IsSaRefusal : SaRefusal → Option SaRefusal → Type 0
IsSaRefusal refusal first = (refusal ≡ NoMemory) ⊎ (first ≡ Some refusal)

-- an association that is not there, and else its refusal
abbrev pub on_row : Option SaRow → (SaRow → Option SaRefusal) → Option SaRefusal
on_row row refusal = option_map_or refusal row (Some UnknownSpi)

-- another state than the one that the call goes from
abbrev pub unless_unkeyed : SaState → Option SaRefusal
unless_unkeyed Unkeyed = None
unless_unkeyed Keyed = Some (WrongState Keyed)
unless_unkeyed Operational = Some (WrongState Operational)

abbrev pub unless_keyed : SaState → Option SaRefusal
unless_keyed Unkeyed = Some (WrongState Unkeyed)
unless_keyed Keyed = None
unless_keyed Operational = Some (WrongState Operational)

abbrev pub unless_operational : SaState → Option SaRefusal
unless_operational Unkeyed = Some (WrongState Unkeyed)
unless_operational Keyed = Some (WrongState Keyed)
unless_operational Operational = None

abbrev pub if_unkeyed : SaState → Option SaRefusal
if_unkeyed Unkeyed = Some (WrongState Unkeyed)
if_unkeyed Keyed = None
if_unkeyed Operational = None

-- creation

-- the first channel that the unit lacks
abbrev pub first_unknown : List ℕ → List ℕ → Option ℕ
first_unknown channels known = find (λ channel. not (list_any (λ other. other == channel) known)) channels

abbrev pub create_refusal : List SaRow → NewSa → List ℕ → Option SaRefusal
create_refusal rows new known = first_told
    (fails_if (is_some (row_of rows new.spi)) SpiTaken
    ∷ option_map UnknownChannel (first_unknown new.channels known)
    ∷ fails_if (nat_le MOST_ASSOCIATIONS (length rows)) TableFull
    ∷ [])

-- rekeying

abbrev pub is_same_class : KeyClass → KeyClass → Bool
is_same_class classes.Master classes.Master = true
is_same_class classes.Gcm classes.Gcm = true
is_same_class classes.Cmac classes.Cmac = true
is_same_class _ _ = false

abbrev pub unless_active : KeyState → Option SaRefusal
unless_active key_states.PreActive = Some (KeyNotActive key_states.PreActive)
unless_active key_states.Active = None
unless_active key_states.Deactivated = Some (KeyNotActive key_states.Deactivated)
unless_active key_states.Destroyed = Some (KeyNotActive key_states.Destroyed)

abbrev pub is_receiving : Direction → Bool
is_receiving Receive = true
is_receiving Send = false

abbrev pub is_key : ℕ → Option ℕ → Bool
is_key key None = false
is_key key (Some own) = own == key

-- whether an association receives with a key
abbrev pub receives_with : ℕ → SaRow → Bool
receives_with key row = is_receiving row.direction && is_key key row.key

-- the receiving association that holds a key
abbrev pub receiver_with : List SaRow → ℕ → Option SaRow
receiver_with rows key = find (receives_with key) rows

-- a key that a receiving association holds is no other one's
abbrev pub held_by : Option SaRow → Option SaRefusal
held_by holder = option_map (λ other. KeyTaken other.spi) holder

abbrev pub taken_key : Direction → Option SaRow → Option SaRefusal
taken_key Receive holder = held_by holder
taken_key Send holder = None

-- a number that the key does not reach, or that is below the least lawful one
abbrev pub number_refusal : ℕ → ℕ → ℕ → Option SaRefusal
number_refusal key number floor = first_told
    (fails_if (nat_le (end_of key) number) (PastEnd (end_of key))
    ∷ fails_if (nat_lt number floor) (BelowFloor floor)
    ∷ [])

-- a row that is to take a key in a state
abbrev pub key_refusal : List SaRow → SaRow → ℕ → KeyState → ℕ → ℕ → Option SaRefusal
key_refusal rows row key state number floor = first_told
    (unless_unkeyed row.state
    ∷ fails_if (not (is_same_class (class_of key) (class_of_suite row.suite))) WrongSuite
    ∷ unless_active state
    ∷ taken_key row.direction (receiver_with rows key)
    ∷ number_refusal key number floor
    ∷ [])

abbrev pub rekey_refusal : List SaRow → ℕ → ℕ → KeyState → ℕ → ℕ → Option SaRefusal
rekey_refusal rows spi key state number floor =
    on_row (row_of rows spi) (λ row. key_refusal rows row key state number floor)

-- starting

-- the operational association of lowest index and the same direction that covers a channel of this one
abbrev pub rival_of : List SaRow → SaRow → Option SaRow
rival_of rows row = find (λ other. list_any (λ channel. covers row.direction channel other) row.channels) rows

abbrev pub taken_channel : Option SaRow → Option SaRefusal
taken_channel rival = option_map (λ other. ChannelTaken other.spi) rival

abbrev pub start_refusal : List SaRow → ℕ → Option SaRefusal
start_refusal rows spi = on_row (row_of rows spi) (λ row. first_told
    (unless_keyed row.state ∷ taken_channel (rival_of rows row) ∷ []))

-- back, one state at a time

abbrev pub stop_refusal : List SaRow → ℕ → Option SaRefusal
stop_refusal rows spi = on_row (row_of rows spi) (λ row. unless_operational row.state)

abbrev pub expire_refusal : List SaRow → ℕ → Option SaRefusal
expire_refusal rows spi = on_row (row_of rows spi) (λ row. unless_keyed row.state)

abbrev pub delete_refusal : List SaRow → ℕ → Option SaRefusal
delete_refusal rows spi = on_row (row_of rows spi) (λ row. unless_unkeyed row.state)

-- numbers and windows

abbrev pub number_refusal_of : Option ℕ → ℕ → ℕ → Option SaRefusal
number_refusal_of held number floor = option_map_or (λ key. number_refusal key number floor) held None

abbrev pub set_number_refusal : List SaRow → ℕ → ℕ → ℕ → Option SaRefusal
set_number_refusal rows spi number floor = on_row (row_of rows spi) (λ row. first_told
    (if_unkeyed row.state ∷ number_refusal_of row.key number floor ∷ []))

abbrev pub set_window_refusal : List SaRow → ℕ → Option SaRefusal
set_window_refusal rows spi = on_row (row_of rows spi) (λ row. None)

abbrev pub read_number_refusal : List SaRow → ℕ → Option SaRefusal
read_number_refusal rows spi = on_row (row_of rows spi) (λ row. if_unkeyed row.state)
