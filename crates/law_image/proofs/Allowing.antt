-- Whether a state allows a change that has a record, for `refused_exactly`.
use Rattle.std.proofs.Common.{◌≡◌, inl, inr, ℕ, ◌≤◌, ◌^◌, List, length, refl}
use Rattle.sdls_base.specs.declared.TheConstants.{MOST_KEYS_AT_ONCE}
use Rattle.sdls_base.specs.Bounds.{IsKeyCount, IsKeyLength}
use Rattle.sdls_base.specs.KeyId.{class_of, end_of}
use Rattle.sdls_base.specs.declared.key_id.KeyClass.{KeyClass}
use Rattle.sdls_base.specs.declared.key_id.KeyClass.TheVariants.{Master, Gcm, Cmac}
use Rattle.sdls_base.specs.declared.key_id.KeyItem.{KeyItem}
use Rattle.sdls_base.specs.declared.states.KeyState.{KeyState}
use Rattle.sdls_base.specs.declared.states.KeyState.TheVariants.{PreActive, Active, Deactivated, Destroyed}
use Rattle.sdls_base.specs.declared.entry.Change.{Change}
use Rattle.sdls_base.specs.declared.entry.Change.TheVariants.{Marks, Load, KeyStates, Create, Rekey, SaTo, SetNumber}
use Rattle.sdls_base.specs.declared.entry.Change.TheVariants.{SetWindow, Accepted, Nothing}
use Rattle.sdls_base.specs.declared.entry.NewSa.{NewSa}
use Rattle.key_book.specs.declared.key_row.KeyRow.{KeyRow}
use Rattle.sa_book.specs.declared.sa_book.SaRow.{SaRow}
use Rattle.key_book.specs.KeyRefusal.{load_refusal}
use Rattle.key_book.specs.Moves.{moves_refusal}
use Rattle.sa_book.specs.SaBook.{in_use}
use Rattle.sa_book.specs.SaRefusal.{create_refusal, rekey_refusal, set_number_refusal, set_window_refusal}
use Rattle.unit_state.specs.State.{key_row, association_row}
use Rattle.unit_state.specs.declared.state.State.{State}
use Rattle.unit_state.specs.Allows.{Allows, AllowsMarks, AllowsLoad, AllowsStates, AllowsCreate, AllowsRekey}
use Rattle.unit_state.specs.Allows.{AllowsNumber, AllowsWindow, IsActiveMaster, IsSessionKey}
use Rattle.unit_state.specs.Taking.{least_with}
use Rattle.book_record.specs.Record.{HasRecord, HasTypes, IsKey, IsSpi}
use Rattle.law_image.proofs.Deciding.{Decided, decided_and, decided_three, decided_four, decided_as, decided_not}
use Rattle.law_image.proofs.Deciding.{decided_lt, decided_le, decided_none, decided_some, decided_some_and, decided_all}
use Rattle.law_image.proofs.Deciding.{decided_any, decided_channels, decided_field, decided_key_length}

master : (class : KeyClass) → Decided (class ≡ Master)
master Master = inl refl
master Gcm = inr (λ is. cc)
master Cmac = inr (λ is. cc)

pre_active : (state : KeyState) → Decided (state ≡ PreActive)
pre_active PreActive = inl refl
pre_active Active = inr (λ is. cc)
pre_active Deactivated = inr (λ is. cc)
pre_active Destroyed = inr (λ is. cc)

key_count : (n : ℕ) → Decided (IsKeyCount n)
key_count n = decided_as (decided_and (decided_le 1 n) (decided_le n MOST_KEYS_AT_ONCE))
    (λ both. record { least = both.0; most = both.1 }) (λ is. (is.least, is.most))

session_key : (item : KeyItem) → Decided (IsSessionKey item)
session_key item =
    decided_as (decided_and (decided_not (master (class_of item.id))) (decided_key_length (length item.bytes)))
    (λ both. record { class = both.0; length = both.1 }) (λ is. (is.class, is.length))

active : (state : KeyState) → Decided (state ≡ Active)
active PreActive = inr (λ is. cc)
active Active = inl refl
active Deactivated = inr (λ is. cc)
active Destroyed = inr (λ is. cc)

active_master : (row : KeyRow) → Decided (IsActiveMaster row)
active_master row = decided_as (decided_and (master (class_of row.id)) (active row.state))
    (λ both. record { class = both.0; state = both.1 }) (λ is. (is.class, is.state))

module _ (state : State) where
  marks : (key mark floor : ℕ) → Decided (AllowsMarks state key mark floor)
  marks key mark floor = decided_as
      (decided_four (decided_some (key_row state key)) (decided_le 1 mark) (decided_le mark (end_of key))
      (decided_lt floor (end_of key)))
      (λ all. record { there = all.0; from_one = all.1; to_end = all.2; below_end = all.3 })
      (λ is. (is.there, is.from_one, is.to_end, is.below_end))

  load : (items : List KeyItem) → Decided (AllowsLoad state items)
  load items = decided_as
      (decided_four (decided_any IsActiveMaster active_master state.keys) (key_count (length items))
      (decided_all IsSessionKey session_key items)
      (decided_none (load_refusal state.keys items)))
      (λ all. record { master = all.0; count = all.1; each = all.2; book = all.3 })
      (λ is. (is.master, is.count, is.each, is.book))

  states : (ids : List ℕ) (to : KeyState) → Decided (AllowsStates state ids to)
  states ids to = decided_as
      (decided_and (key_count (length ids))
      (decided_none (moves_refusal state.keys ids to (in_use state.associations))))
      (λ all. record { count = all.0; book = all.1 }) (λ is. (is.count, is.book))

  create : (new : NewSa) → Decided (AllowsCreate state new)
  create new = decided_as
      (decided_four (decided_field new.window) (decided_channels new.channels)
      (decided_all (λ channel. channel ≤ 63) (λ channel. decided_le channel 63) new.channels)
      (decided_none (create_refusal state.associations new state.channels)))
      (λ all. record { window = all.0; channels = all.1; numbers = all.2; book = all.3 })
      (λ is. (is.window, is.channels, is.numbers, is.book))

  window_is : (spi window : ℕ) → Decided (AllowsWindow state spi window)
  window_is spi window = decided_as
      (decided_and (decided_field window) (decided_none (set_window_refusal state.associations spi)))
      (λ both. record { bounds = both.0; book = both.1 }) (λ is. (is.bounds, is.book))

  rekey : (spi key number : ℕ) → Decided (AllowsRekey state spi key number)
  rekey spi key number = decided_some_and _
      (λ (row : SaRow). decided_some_and _ (λ (held : KeyRow).
      decided_none (rekey_refusal state.associations spi key held.state number (least_with 1 row.direction held)))
      (key_row state key))
      (association_row state spi)

  number_is : (spi number : ℕ) → Decided (AllowsNumber state spi number)
  number_is spi number = decided_some_and _
      (λ (row : SaRow). decided_some_and _ (λ (key : ℕ). decided_some_and _ (λ (held : KeyRow).
      decided_none (set_number_refusal state.associations spi number (least_with 1 row.direction held)))
      (key_row state key)) row.key)
      (association_row state spi)

  -- whether it allows a change that is stored
  allowed : (change : Change) → Decided (HasTypes change) → Decided (HasTypes change × Allows state change)
  unfolding HasTypes
  allowed (Marks key mark floor) types = decided_and types (marks key mark floor)
  allowed (Load items) types = decided_and types (load items)
  allowed (KeyStates ids to) types = decided_and types (states ids to)
  allowed (Create new) types = decided_and types (create new)
  allowed (Rekey spi key number) types = decided_and types (rekey spi key number)
  allowed (SaTo spi to) types = decided_and types (decided_none _)
  allowed (SetNumber spi number) types = decided_and types (number_is spi number)
  allowed (SetWindow spi window) types = decided_and types (window_is spi window)
  allowed (Accepted spi key number floor) types = inr (λ both. both.0)
  allowed Nothing types = inr (λ both. both.0)

key : (n : ℕ) → Decided (IsKey n)
key n = decided_and (decided_lt 0 n) (decided_lt n (2 ^ 16))

spi_is : (n : ℕ) → Decided (IsSpi n)
spi_is n = decided_and (decided_lt 0 n) (decided_lt n 65535)

pub has_types : (change : Change) → Decided (HasTypes change)
unfolding HasTypes
has_types (Marks id mark floor) = decided_three (key id) (decided_lt mark (2 ^ 64)) (decided_lt floor (2 ^ 64))
has_types (Load items) = decided_all (λ item. IsKey item.id) (λ item. key item.id) items
has_types (KeyStates ids to) = decided_all IsKey key ids
has_types (Create new) = decided_and (spi_is new.spi) (decided_lt new.window (2 ^ 64))
has_types (Rekey spi id number) = decided_three (spi_is spi) (key id) (decided_lt number (2 ^ 64))
has_types (SaTo spi to) = spi_is spi
has_types (SetNumber spi number) = decided_and (spi_is spi) (decided_lt number (2 ^ 64))
has_types (SetWindow spi window) = decided_and (spi_is spi) (decided_lt window (2 ^ 64))
has_types (Accepted spi id number floor) = inr (λ is. is)
has_types Nothing = inr (λ is. is)

pub has_record : (change : Change) → Decided (HasRecord change)
unfolding HasRecord
has_record (Marks id mark floor) = inl tt
has_record (Load items) = decided_and (key_count (length items))
    (decided_all (λ item. IsKeyLength (length item.bytes)) (λ item. decided_key_length (length item.bytes)) items)
has_record (KeyStates ids to) = decided_and (decided_not (pre_active to)) (key_count (length ids))
has_record (Create new) = decided_channels new.channels
has_record (Rekey spi id number) = inl tt
has_record (SaTo spi to) = inl tt
has_record (SetNumber spi number) = inl tt
has_record (SetWindow spi window) = inl tt
has_record (Accepted spi id number floor) = inr (λ is. is)
has_record Nothing = inr (λ is. is)

-- whether a state allows a change whose values are of their types
pub allowed_with : (state : State) (change : Change) → Decided (HasTypes change × Allows state change)
allowed_with state change = allowed state change (has_types change)
