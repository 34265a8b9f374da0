-- What a restart leaves of a state, and what of a change is stored (profile).
use Rattle.std.specs.Prelude.{◌≡◌, ⊤, ℕ, ◌==◌, Bool, true, false, if◌then◌else◌, List, map, Option, Some, None}
use Rattle.std.specs.Option.{option_map_or, option_and_then}
use Rattle.sdls_base.specs.declared.entry.Change.{Change}
use Rattle.sdls_base.specs.declared.entry.Change.TheVariants.{Marks, Load, KeyStates, Create, Rekey, SaTo, SetNumber}
use Rattle.sdls_base.specs.declared.entry.Change.TheVariants.{SetWindow, Accepted, Nothing}
use Rattle.sdls_base.specs.declared.states.Direction.{Direction}
use Rattle.sdls_base.specs.declared.states.Direction.TheVariants.{Send, Receive}
use Rattle.key_book.specs.declared.key_row.KeyRow.{KeyRow}
use Rattle.key_book.specs.KeyBook.{row_of}
use Rattle.replay_window.specs.Window.{begun_at}
use Rattle.sa_book.specs.declared.sa_book.SaRow.{SaRow}
use Rattle.unit_state.specs.declared.state.State.{State}
use Rattle.unit_state.specs.State.{key_row}

-- the highest number of an association after a restart: where it receives with a key, the key's floor
abbrev pub restarted_high : List KeyRow → Direction → Option ℕ → ℕ → ℕ
restarted_high keys Receive (Some key) high = option_map_or (λ row. row.floor) (row_of keys key) high
restarted_high keys Receive None high = high
restarted_high keys Send key high = high

-- every window begins there
abbrev pub restarted_row : List KeyRow → SaRow → SaRow
restarted_row keys row = record row {
  window = begun_at (restarted_high keys row.direction row.key row.window.high) row.window;
}

-- what a restart leaves of a state
abbrev pub restarted : State → State
restarted state = record state { associations = map (restarted_row state.keys) state.associations }

-- two states of which a restart leaves the same
abbrev pub AreAlike : State → State → Type 0
AreAlike one other = restarted one ≡ restarted other

-- an acceptance that raises the floor is stored as the key's mark and the new floor, and no other is stored
abbrev pub acceptance_stored : ℕ → ℕ → KeyRow → Option Change
acceptance_stored key floor row = if row.floor == floor then None else Some (Marks key row.mark floor)

-- the change that is stored for a change; none where nothing is stored
abbrev pub stored_as : State → Change → Option Change
stored_as state (Marks key mark floor) = Some (Marks key mark floor)
stored_as state (Load items) = Some (Load items)
stored_as state (KeyStates ids to) = Some (KeyStates ids to)
stored_as state (Create new) = Some (Create new)
stored_as state (Rekey spi key number) = Some (Rekey spi key number)
stored_as state (SaTo spi to) = Some (SaTo spi to)
stored_as state (SetNumber spi number) = Some (SetNumber spi number)
stored_as state (SetWindow spi window) = Some (SetWindow spi window)
stored_as state (Accepted spi key number floor) = option_and_then (acceptance_stored key floor) (key_row state key)
stored_as state Nothing = None

-- a change of which there are records
abbrev pub IsStorable : Change → Type 0
IsStorable (Marks key mark floor) = ⊤
IsStorable (Load items) = ⊤
IsStorable (KeyStates ids to) = ⊤
IsStorable (Create new) = ⊤
IsStorable (Rekey spi key number) = ⊤
IsStorable (SaTo spi to) = ⊤
IsStorable (SetNumber spi number) = ⊤
IsStorable (SetWindow spi window) = ⊤
IsStorable (Accepted spi key number floor) = ⊥
IsStorable Nothing = ⊥

-- a change that moves numbers alone, and takes no memory
abbrev pub IsLight : Change → Type 0
IsLight (Marks key mark floor) = ⊤
IsLight (Load items) = ⊥
IsLight (KeyStates ids to) = ⊥
IsLight (Create new) = ⊥
IsLight (Rekey spi key number) = ⊥
IsLight (SaTo spi to) = ⊥
IsLight (SetNumber spi number) = ⊥
IsLight (SetWindow spi window) = ⊥
IsLight (Accepted spi key number floor) = ⊤
IsLight Nothing = ⊤

-- whether the change counts for the epoch
abbrev pub counts : Change → Bool
counts (Marks key mark floor) = false
counts (Load items) = true
counts (KeyStates ids to) = true
counts (Create new) = true
counts (Rekey spi key number) = true
counts (SaTo spi to) = true
counts (SetNumber spi number) = true
counts (SetWindow spi window) = true
counts (Accepted spi key number floor) = false
counts Nothing = false

-- States that differ in marks, floors and accepted numbers alone: with marks and floors at 0, and each window begun at
-- 0,
-- they are the same.
abbrev pub still_key : KeyRow → KeyRow
still_key row = record row { mark = 0; floor = 0 }

abbrev pub still_association : SaRow → SaRow
still_association row = record row { window = begun_at 0 row.window }

abbrev pub still : State → State
still state = record state {
  keys = map still_key state.keys;
  associations = map still_association state.associations;
}
