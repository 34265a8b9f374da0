-- What one taking from a source does (profile).
use Rattle.std.specs.Prelude.{◌≡◌, ℕ, ◌<◌, ◌≤◌, ◌↔◌, List, [], ◌++◌, length, take, drop}

-- at most the front of the piece was filled
pub record FillsFront (old new : List ℕ) (count : ℕ) : Type 0 where
  pub within : count ≤ length old
  pub behind : drop count new ≡ drop count old

-- so many octets went from the front of what was left to the front of the piece; none exactly where
-- nothing was left, for a piece that is not empty
pub record Takes (left_old left_new piece : List ℕ) (count : ℕ) : Type 0 where
  pub moved : left_old ≡ take count piece ++ left_new
  pub end : 0 < length piece → (count ≡ 0) ↔ (left_old ≡ [])
