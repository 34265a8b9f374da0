-- The windows of associations, begun anew at a number (profile).
use Rattle.std.specs.Prelude.{ℕ, if◌then◌else◌, List, map}
use Rattle.replay_window.specs.Window.{begun_at, lowered_to}
use Rattle.sa_book.specs.declared.sa_book.SaRow.{SaRow}
use Rattle.sa_book.specs.SaRefusal.{receives_with}

-- an association whose window begins at a number
abbrev pub with_high : SaRow → ℕ → SaRow
with_high row high = record row { window = begun_at high row.window }

-- an association whose window begins at a floor where its highest number was above it
abbrev pub with_floor : SaRow → ℕ → SaRow
with_floor row floor = record row { window = lowered_to floor row.window }

-- none is above a floor
abbrev pub lowered : List SaRow → ℕ → ℕ → List SaRow
lowered rows key floor = map (λ row. if receives_with key row then with_floor row floor else row) rows
