-- The changes that a state allows: those that a command, a frame or a reserve may make there (profile).
use Rattle.std.specs.Prelude.{◌≡◌, ◌≢◌, ⊤, ℕ, ◌<◌, ◌≤◌, List, length, Option, Some, None, IsSome, IsSomeAnd, All}
use Rattle.std.specs.List.{Any}
use Rattle.sdls_base.specs.Bounds.{AreChannels, IsKeyCount, IsKeyLength}
use Rattle.sdls_base.specs.KeyId.{class_of, end_of}
use Rattle.sdls_base.specs.declared.key_id.KeyClass.TheVariants.{Master}
use Rattle.sdls_base.specs.declared.key_id.KeyItem.{KeyItem}
use Rattle.sdls_base.specs.declared.entry.Change.{Change}
use Rattle.sdls_base.specs.declared.entry.Change.TheVariants.{Marks, Load, KeyStates, Create, Rekey, SaTo, SetNumber}
use Rattle.sdls_base.specs.declared.entry.Change.TheVariants.{SetWindow, Accepted, Nothing}
use Rattle.sdls_base.specs.declared.entry.NewSa.{NewSa}
use Rattle.sdls_base.specs.declared.states.KeyState.{KeyState}
use Rattle.sdls_base.specs.declared.states.KeyState.TheVariants.{Active}
use Rattle.sdls_base.specs.declared.states.SaState.{SaState}
use Rattle.sdls_base.specs.declared.states.SaState.TheVariants.{Unkeyed, Keyed, Operational}
use Rattle.key_book.specs.declared.key_row.KeyRow.{KeyRow}
use Rattle.key_book.specs.KeyRefusal.{load_refusal}
use Rattle.key_book.specs.Moves.{moves_refusal}
use Rattle.replay_window.specs.WindowField.{IsWindowField}
use Rattle.sa_book.specs.declared.refusals.SaRefusal.{SaRefusal}
use Rattle.sa_book.specs.declared.sa_book.SaRow.{SaRow}
use Rattle.sa_book.specs.SaRow.{MayAccept}
use Rattle.sa_book.specs.SaBook.{in_use}
use Rattle.sa_book.specs.SaRefusal.{create_refusal, start_refusal, stop_refusal, expire_refusal, delete_refusal}
use Rattle.sa_book.specs.SaRefusal.{set_number_refusal, set_window_refusal}
use Rattle.unit_state.specs.declared.state.State.{State}
use Rattle.unit_state.specs.State.{key_row, association_row}
use Rattle.unit_state.specs.Taking.{least_with, taking_refusal}

-- A mark and a floor lie in their bounds; they may move down.
pub record AllowsMarks (state : State) (key mark floor : ℕ) : Type 0 where
  pub there : IsSome (key_row state key)
  pub from_one : 1 ≤ mark
  pub to_end : mark ≤ end_of key
  pub below_end : floor < end_of key

-- a session key of 16 or 32 octets
pub record IsSessionKey (item : KeyItem) : Type 0 where
  pub class : class_of item.id ≢ Master
  pub length : IsKeyLength (length item.bytes)

-- a key under which others may come
pub record IsActiveMaster (row : KeyRow) : Type 0 where
  pub class : class_of row.id ≡ Master
  pub state : row.state ≡ Active

-- one to eight session keys that the key book takes, while a master key is active
pub record AllowsLoad (state : State) (items : List KeyItem) : Type 0 where
  pub master : Any IsActiveMaster state.keys
  pub count : IsKeyCount (length items)
  pub each : All IsSessionKey items
  pub book : load_refusal state.keys items ≡ None

-- one to eight keys that take the state, each after the earlier ones
pub record AllowsStates (state : State) (ids : List ℕ) (to : KeyState) : Type 0 where
  pub count : IsKeyCount (length ids)
  pub book : moves_refusal state.keys ids to (in_use state.associations) ≡ None

-- an association that the book takes, with its window and channels in their bounds
pub record AllowsCreate (state : State) (new : NewSa) : Type 0 where
  pub window : IsWindowField new.window
  pub channels : AreChannels new.channels
  pub numbers : All (λ channel. channel ≤ 63) new.channels
  pub book : create_refusal state.associations new state.channels ≡ None

-- The association takes the key as it stands, with the number. Whatever word was seen of a sending one, it was at least
-- 1.
abbrev pub AllowsRekey : State → ℕ → ℕ → ℕ → Type 0
AllowsRekey state spi key number = IsSomeAnd (association_row state spi)
    (λ row. IsSomeAnd (key_row state key) (λ held. taking_refusal state spi key number 1 row held ≡ None))

-- the association takes the state, or may be deleted
abbrev pub state_refusal : List SaRow → ℕ → Option SaState → Option SaRefusal
state_refusal rows spi None = delete_refusal rows spi
state_refusal rows spi (Some Unkeyed) = expire_refusal rows spi
state_refusal rows spi (Some Keyed) = stop_refusal rows spi
state_refusal rows spi (Some Operational) = start_refusal rows spi

-- the association has a key, and takes the number with it
abbrev pub AllowsNumber : State → ℕ → ℕ → Type 0
AllowsNumber state spi number = IsSomeAnd (association_row state spi) (λ row. IsSomeAnd row.key
    (λ key. IsSomeAnd (key_row state key)
    (λ held. set_number_refusal state.associations spi number (least_with 1 row.direction held) ≡ None)))

-- a window field in its bounds
pub record AllowsWindow (state : State) (spi window : ℕ) : Type 0 where
  pub bounds : IsWindowField window
  pub book : set_window_refusal state.associations spi ≡ None

-- The association may accept the number with the key; the floor is at least the number and the key's floor.
pub record AllowsAccepted (state : State) (spi key number floor : ℕ) : Type 0 where
  pub row : IsSomeAnd (association_row state spi) (λ row. MayAccept row number × (row.key ≡ Some key))
  pub held : IsSomeAnd (key_row state key) (λ held. held.floor ≤ floor)
  pub covered : number ≤ floor
  pub below_end : floor < end_of key

-- the state allows the change
abbrev pub Allows : State → Change → Type 0
Allows state (Marks key mark floor) = AllowsMarks state key mark floor
Allows state (Load items) = AllowsLoad state items
Allows state (KeyStates ids to) = AllowsStates state ids to
Allows state (Create new) = AllowsCreate state new
Allows state (Rekey spi key number) = AllowsRekey state spi key number
Allows state (SaTo spi to) = state_refusal state.associations spi to ≡ None
Allows state (SetNumber spi number) = AllowsNumber state spi number
Allows state (SetWindow spi window) = AllowsWindow state spi window
Allows state (Accepted spi key number floor) = AllowsAccepted state spi key number floor
Allows state Nothing = ⊤
