-- The anti-replay window (CCSDS 355.0-B-2, anti-replay sequence number; widths, back window and ends profile).
use Rattle.std.specs.Prelude.{ℕ, ◌+◌, ◌-◌, ◌<◌, ◌≤◌, ◌⊎◌, max, nat_lt, if◌then◌else◌, List, Contains}
use Rattle.std.specs.FinSet as set
use Rattle.replay_window.specs.declared.window.Window.{Window}
use Rattle.replay_window.specs.WindowField.{back_of, width_of, window_field}

-- ---- the check of a number

-- n lies above the highest number, and not beyond the width
pub record IsAhead (window : Window) (n : ℕ) : Type 0 where
  pub above : window.high < n
  pub within : n ≤ window.high + window.width

-- n lies at or below the highest number, in the back window and above the base, and is none of the numbers
pub record IsLate (window : Window) (numbers : List ℕ) (n : ℕ) : Type 0 where
  pub above_base : window.base < n
  pub up_to_high : n ≤ window.high
  pub near : window.high - n < window.back
  pub untaken : ¬ Contains numbers n

-- n may be accepted after these numbers, under a key whose numbers end below end
pub record IsFreshAfter (window : Window) (numbers : List ℕ) (n end : ℕ) : Type 0 where
  pub below_end : n < end
  pub place : IsAhead window n ⊎ IsLate window numbers n

-- n may be accepted next
abbrev pub IsFresh : Window → ℕ → ℕ → Type 0
IsFresh window n end = IsFreshAfter window (set.items window.taken) n end

-- ---- the changes of a window

-- with a number that is accepted: those of the last 64 are kept
abbrev pub accepted : ℕ → Window → Window
accepted n window = record window {
  high = max window.high n;
  taken = set.retain (set.insert window.taken n) (λ m. nat_lt (max window.high n - m) 64);
}

-- begun anew at a number: what was accepted is forgotten
abbrev pub begun_at : ℕ → Window → Window
begun_at high window = record window { high = high; base = high; taken = set.empty }

-- begun anew at a floor where the highest number is above it
abbrev pub lowered_to : ℕ → Window → Window
lowered_to floor window = if nat_lt floor window.high then begun_at floor window else window

-- with another window field: what was accepted stays
abbrev pub with_field : ℕ → Window → Window
with_field field window = record window { width = width_of field; back = back_of field }

-- a window that begins at a number
abbrev pub new_window : ℕ → ℕ → Window
new_window high field = record {
  high = high;
  width = width_of field;
  base = high;
  back = back_of field;
  taken = set.empty;
}

-- the window field of a window
abbrev pub field_of : Window → ℕ
field_of window = window_field window.back window.width
