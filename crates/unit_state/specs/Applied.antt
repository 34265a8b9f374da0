-- What each change makes of a state (CCSDS 355.1-B-1, key and SA management; numbers profile).
use Rattle.std.specs.Prelude.{ℕ, ◌-◌, max, List, ◌++◌, map, Option, Some, None}
use Rattle.std.specs.Option.{option_map, option_and_then}
use Rattle.sdls_base.specs.declared.entry.Change.{Change}
use Rattle.sdls_base.specs.declared.entry.Change.TheVariants.{Marks, Load, KeyStates, Create, Rekey, SaTo, SetNumber}
use Rattle.sdls_base.specs.declared.entry.Change.TheVariants.{SetWindow, Accepted, Nothing}
use Rattle.sdls_base.specs.declared.states.Direction.{Direction}
use Rattle.sdls_base.specs.declared.states.Direction.TheVariants.{Send, Receive}
use Rattle.sdls_base.specs.declared.states.SaState.{SaState}
use Rattle.sdls_base.specs.declared.states.SaState.TheVariants.{Unkeyed, Keyed, Operational}
use Rattle.key_book.specs.declared.key_row.KeyRow.{KeyRow}
use Rattle.key_book.specs.KeyBook as key_rows
use Rattle.key_book.specs.KeyRow as keys
use Rattle.key_book.specs.Moves.{moved}
use Rattle.replay_window.specs.Window.{accepted, with_field}
use Rattle.sa_book.specs.declared.sa_book.SaRow.{SaRow}
use Rattle.sa_book.specs.SaBook.{changed, without, with_row}
use Rattle.sa_book.specs.Numbers.{lowered}
use Rattle.sa_book.specs.SaRow.{new_row, with_key, without_key, following}
use Rattle.unit_state.specs.declared.state.State.{State}
use Rattle.unit_state.specs.State.{association_row}

-- The keys when a number is the next of an association: a mark rises to the number, and a floor to the one before it. A
-- state allows a receiving association no number up to the floor, so that the floor is then the number before.
abbrev pub numbered : List KeyRow → Option Direction → Option ℕ → ℕ → List KeyRow
numbered rows (Some Send) (Some key) number =
    key_rows.changed rows key (λ row. record row { mark = max row.mark number })
numbered rows (Some Receive) (Some key) number =
    key_rows.changed rows key (λ row. record row { floor = max row.floor (number - 1) })
numbered rows None key number = rows
numbered rows (Some direction) None number = rows

-- the direction of an association, and the key that it holds
abbrev pub direction_of : State → ℕ → Option Direction
direction_of state spi = option_map (λ row. row.direction) (association_row state spi)

abbrev pub key_held : State → ℕ → Option ℕ
key_held state spi = option_and_then (λ row. row.key) (association_row state spi)

-- the associations when one took a state, or was deleted
abbrev pub in_state : List SaRow → ℕ → Option SaState → List SaRow
in_state rows spi None = without rows spi
in_state rows spi (Some Unkeyed) = changed rows spi without_key
in_state rows spi (Some Keyed) = changed rows spi (λ row. record row { state = Keyed })
in_state rows spi (Some Operational) = changed rows spi (λ row. record row { state = Operational })

-- the state after a change
abbrev pub applied : State → Change → State
applied state (Marks key mark floor) = record state {
  keys = key_rows.changed state.keys key (λ row. record row { mark = mark; floor = floor });
  associations = lowered state.associations key floor;
}
applied state (Load items) = record state { keys = state.keys ++ map keys.new_row items }
applied state (KeyStates ids to) = record state { keys = moved state.keys ids to }
applied state (Create new) = record state { associations = with_row state.associations (new_row new) }
applied state (Rekey spi key number) = record state {
  keys = numbered state.keys (direction_of state spi) (Some key) number;
  associations = changed state.associations spi (with_key key number);
}
applied state (SaTo spi to) = record state { associations = in_state state.associations spi to }
applied state (SetNumber spi number) = record state {
  keys = numbered state.keys (direction_of state spi) (key_held state spi) number;
  associations =
      changed state.associations spi (λ row. record row { window = following row.direction number row.window });
}
applied state (SetWindow spi window) = record state {
  associations = changed state.associations spi (λ row. record row { window = with_field window row.window });
}
applied state (Accepted spi key number floor) = record state {
  keys = key_rows.changed state.keys key (λ row. record row { floor = max row.floor floor });
  associations = changed state.associations spi (λ row. record row { window = accepted number row.window });
}
applied state Nothing = state
