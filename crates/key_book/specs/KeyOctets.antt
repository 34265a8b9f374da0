-- How the octets of a key lie in their room.
use Rattle.std.specs.Prelude.{◌≡◌, ℕ, ◌-◌, ◌≤◌, List, ◌++◌, length, replicate, take}
use Rattle.key_book.specs.declared.key_row.TheConstants.{MOST_OCTETS}

-- octets at the front of the room, and zeros behind them
abbrev pub padded : List ℕ → List ℕ
padded octets = octets ++ replicate (MOST_OCTETS - length octets) 0

-- the first octets of a room are used, and the others are zeros
pub record IsPadded (room : List ℕ) (used : ℕ) : Type 0 where
  pub within : used ≤ MOST_OCTETS
  pub seen : length (take used room) ≡ used
  pub zeros : padded (take used room) ≡ room
