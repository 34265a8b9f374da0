-- The bounds of what an association and a key carry (profile; key lengths FIPS 197, of which 24 octets are left out).
use Rattle.std.specs.Prelude.{◌≡◌, ℕ, ◌≤◌, ◌⊎◌, List, length}
use Rattle.std.specs.List.Sorted.{IsStrictlyIncreasing}
use Rattle.sdls_base.specs.declared.TheConstants.{MOST_CHANNELS, MOST_KEYS_AT_ONCE, MOST_WINDOW}

-- one to eight channels, strictly ascending
pub record AreChannels (channels : List ℕ) : Type 0 where
  pub one : 1 ≤ length channels
  pub most : length channels ≤ MOST_CHANNELS
  pub ascending : IsStrictlyIncreasing channels

-- a command or a record names one to eight keys
pub record IsKeyCount (count : ℕ) : Type 0 where
  pub least : 1 ≤ count
  pub most : count ≤ MOST_KEYS_AT_ONCE

-- an anti-replay window has such a width
pub record IsWidth (width : ℕ) : Type 0 where
  pub least : 1 ≤ width
  pub most : width ≤ MOST_WINDOW

-- a key has 128 or 256 bits
abbrev pub IsKeyLength : ℕ → Type 0
IsKeyLength n = (n ≡ 16) ⊎ (n ≡ 32)
