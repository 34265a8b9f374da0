-- The first slot of a row that is closed, or whose gate is another octet (profile).
use Rattle.std.specs.Prelude.{◌≡◌, ◌≢◌, ℕ, ◌<◌, ◌≤◌}
use Rattle.disk_journal.specs.declared.layout.TheConstants.{OPEN}

-- the slots before this one are open, and it is not, if it is one of them
pub record IsFirstClosed (gate : ℕ → ℕ) (slots index : ℕ) : Type 0 where
  pub within : index ≤ slots
  pub before : (i : ℕ) → i < index → gate i ≡ OPEN
  pub closed : index < slots → gate index ≢ OPEN

-- The slots from the first on have this gate up to the index. The slot of the index, if it is before the end, has not.
pub record IsFirstOther (gate : ℕ → ℕ) (octet first end index : ℕ) : Type 0 where
  pub within : index ≤ end
  pub reached : index < end → first ≤ index
  pub before : (i : ℕ) → first ≤ i → i < index → gate i ≡ octet
  pub other : index < end → gate index ≢ octet
