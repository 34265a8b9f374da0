-- A security association (CCSDS 355.0-B-2, Security Associations; bounds and numbers profile).
use Rattle.std.specs.Prelude.{◌≡◌, ℕ, ◌-◌, ◌<◌, ◌≤◌, ◌↔◌, Option, Some, None, IfSome, IsNone}
use Rattle.sdls_base.specs.Bounds.{AreChannels, IsWidth}
use Rattle.sdls_base.specs.KeyId.{class_of, end_of}
use Rattle.sdls_base.specs.Suite.{class_of_suite}
use Rattle.sdls_base.specs.declared.entry.NewSa.{NewSa}
use Rattle.sdls_base.specs.declared.states.Direction.{Direction}
use Rattle.sdls_base.specs.declared.states.Direction.TheVariants.{Send, Receive}
use Rattle.sdls_base.specs.declared.states.SaState.TheVariants.{Unkeyed, Keyed, Operational}
use Rattle.replay_window.specs.declared.window.Window.{Window}
use Rattle.replay_window.specs.declared.TheConstants.{MOST_BACK}
use Rattle.replay_window.specs.Window.{IsFresh, begun_at, new_window}
use Rattle.sa_book.specs.declared.sa_book.SaRow.{SaRow}

-- The highest number accepted: below the key's end where the association receives and has a key, and else 0.
abbrev pub HasHigh : Direction → Option ℕ → ℕ → Type 0
HasHigh Receive (Some key) high = high < end_of key
HasHigh Receive None high = high ≡ 0
HasHigh Send key high = high ≡ 0

-- the rules of one association
pub record IsSaRow (row : SaRow) : Type 0 where
  pub keyless : (row.state ≡ Unkeyed) ↔ IsNone row.key
  pub suite : IfSome row.key (λ key. class_of key ≡ class_of_suite row.suite)
  pub high : HasHigh row.direction row.key row.window.high
  pub width : IsWidth row.window.width
  pub back : row.window.back ≤ MOST_BACK
  pub channels : AreChannels row.channels

-- the row of an association just created
abbrev pub new_row : NewSa → SaRow
new_row new = record {
  spi = new.spi;
  direction = new.direction;
  suite = new.suite;
  state = Unkeyed;
  key = None;
  channels = new.channels;
  window = new_window 0 new.window;
}

-- the window when a number is the next to accept; a sending association keeps its window
abbrev pub following : Direction → ℕ → Window → Window
following Receive number window = begun_at (number - 1) window
following Send number window = window

-- a row that took a key, with the next number
abbrev pub with_key : ℕ → ℕ → SaRow → SaRow
with_key key number row = record row {
  state = Keyed;
  key = Some key;
  window = following row.direction number row.window;
}

-- a row whose key was taken away
abbrev pub without_key : SaRow → SaRow
without_key row = record row { state = Unkeyed; key = None; window = begun_at 0 row.window }

-- an operational receiving association may accept the number under its key
pub record MayAccept (row : SaRow) (number : ℕ) : Type 0 where
  pub operational : row.state ≡ Operational
  pub receives : row.direction ≡ Receive
  pub key : ℕ
  pub holds : row.key ≡ Some key
  pub fresh : IsFresh row.window number (end_of key)
