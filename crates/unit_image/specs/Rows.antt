-- A state made of rows (profile).
use Rattle.std.specs.Prelude.{◌≡◌, ⊤, ℕ, List, Result, Ok, Err}
use Rattle.key_book.specs.declared.key_row.KeyRow.{KeyRow}
use Rattle.sa_book.specs.declared.sa_book.SaRow.{SaRow}
use Rattle.unit_state.specs.declared.state.State.{State}
use Rattle.unit_image.specs.declared.rows.RowsFault.{RowsFault}
use Rattle.unit_image.specs.declared.rows.RowsFault.TheVariants.{Unfit, NoMemory}

-- a fault of rows has this cause; lack of memory needs none
abbrev pub HasRowsCause : RowsFault → Type 0 → Type 0
HasRowsCause Unfit Broken = Broken
HasRowsCause NoMemory Broken = ⊤

-- What is made of rows is a value that keeps its rules, and this one; they are unfit only if it would not.
abbrev pub MakesOf : {X : Type 0} → Result X RowsFault → (X → Type 0) → X → Type 0
MakesOf (Ok x) Keeps value = (x ≡ value) × Keeps value
MakesOf (Err fault) Keeps value = HasRowsCause fault (¬ Keeps value)

-- the state of these rows, in this order
abbrev pub state_of : List KeyRow → List SaRow → List ℕ → List ℕ → State
state_of keys associations channels device = record {
  keys = keys;
  associations = associations;
  channels = channels;
  device = device;
}
