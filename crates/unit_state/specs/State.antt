-- A unit's state and its rules (CCSDS 355.1-B-1, key and SA management; numbers profile).
use Rattle.std.specs.Prelude.{◌≡◌, ℕ, ◌≤◌, List, Option, All, IfSome, IsSomeAnd}
use Rattle.sdls_base.specs.declared.states.KeyState.TheVariants.{Active}
use Rattle.key_book.specs.declared.key_row.KeyRow.{KeyRow}
use Rattle.key_book.specs.KeyBook.{IsKeyBook}
use Rattle.key_book.specs.KeyBook as key_rows
use Rattle.sa_book.specs.declared.sa_book.SaRow.{SaRow}
use Rattle.sa_book.specs.SaBook.{IsSaBook}
use Rattle.sa_book.specs.SaBook as association_rows
use Rattle.unit_state.specs.declared.state.State.{State}

-- the row of a key
abbrev pub key_row : State → ℕ → Option KeyRow
key_row state id = key_rows.row_of state.keys id

-- the row of an association
abbrev pub association_row : State → ℕ → Option SaRow
association_row state spi = association_rows.row_of state.associations spi

-- A key that an association holds is active, and no number above its floor was accepted with it.
pub record MayHold (row : SaRow) (held : KeyRow) : Type 0 where
  pub active : held.state ≡ Active
  pub floor : row.window.high ≤ held.floor

-- an association that holds a key holds one of these
abbrev pub HasKey : List KeyRow → SaRow → Type 0
HasKey keys row = IfSome row.key (λ key. IsSomeAnd (key_rows.row_of keys key) (MayHold row))

-- The rules of a state: those of each book, and of the keys that associations hold.
pub record KeepsRules (state : State) : Type 0 where
  pub keys : IsKeyBook state.keys
  pub associations : IsSaBook state.associations
  pub held : All (HasKey state.keys) state.associations
