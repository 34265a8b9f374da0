-- What was taken from a source in one run (profile).
use Rattle.std.specs.Prelude.{◌≡◌, ℕ, ◌<◌, ◌≤◌, Bool, IsTrue, List, [], ◌++◌, length, take}

-- the front of the buffer, so many octets, is what was taken; fewer than it has room for where the input has ended
pub record Collects (left_old left_new buffer : List ℕ) (count : ℕ) : Type 0 where
  pub within : count ≤ length buffer
  pub moved : left_old ≡ take count buffer ++ left_new
  pub ended : count < length buffer → left_new ≡ []

-- some octets were taken from the front of what was left, and no more than so many
pub record TakesAtMost (most : ℕ) (left_old left_new : List ℕ) : Type 0 where
  pub taken : List ℕ
  pub moved : left_old ≡ taken ++ left_new
  pub few : length taken ≤ most

-- the same after a fault: fewer than so many
pub record TakesFewer (told : Bool) (most : ℕ) (left_old left_new : List ℕ) : Type 0 where
  pub taken : List ℕ
  pub moved : IsTrue told → left_old ≡ taken ++ left_new
  pub few : length taken < most
