-- A window field, as messages, records and rows carry it: 8 octets, of which the first is the back window, and the
-- other seven the width (profile). A width alone is a field with no back window.
use Rattle.std.specs.Prelude.{ℕ, ◌+◌, ◌*◌, ◌/◌, ◌%◌, ◌^◌, ◌≤◌}
use Rattle.sdls_base.specs.Bounds.{IsWidth}
use Rattle.replay_window.specs.declared.TheConstants.{MOST_BACK}

-- the first octet
abbrev pub back_of : ℕ → ℕ
back_of field = field / 2 ^ 56

-- the other seven
abbrev pub width_of : ℕ → ℕ
width_of field = field % 2 ^ 56

-- the field of a back window and a width
abbrev pub window_field : ℕ → ℕ → ℕ
window_field back width = back * 2 ^ 56 + width

-- back window and width lie in their bounds
pub record IsWindowField (field : ℕ) : Type 0 where
  pub back : back_of field ≤ MOST_BACK
  pub width : IsWidth (width_of field)
