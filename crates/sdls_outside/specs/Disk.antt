-- What a disk and a sink hold, and what a crash may leave of the image (profile).
use Rattle.std.specs.Prelude.{◌≡◌, ℕ, ◌+◌, ◌<◌, ◌≤◌, ◌⊎◌, ⊤, List, [], ◌∷◌, length, slice_index}

-- the image as it reads; as the last sync left it; the ranges (first octet, how many) that were
-- written since, the newest first; and the octets sunk so far
pub record Disk : Type 0 where
  pub image : List ℕ
  pub synced : List ℕ
  pub ranges : List (ℕ × ℕ)
  pub sunk : List ℕ

-- octet i lies in none of the ranges
abbrev pub Outside : List (ℕ × ℕ) → ℕ → Type 0
Outside [] i = ⊤
Outside (range ∷ ranges) i = ((i < range.0) ⊎ (range.0 + range.1 ≤ i)) × Outside ranges i

-- A crash may leave this image: of what was synced, only the ranges written since may have changed,
-- to any octets, and the length is any from the synced one to the one that reads.
pub record Leaves (disk : Disk) (image : List ℕ) : Type 0 where
  pub no_shorter : length disk.synced ≤ length image
  pub no_longer : length image ≤ length disk.image
  pub outside : (i : ℕ) → i < length disk.synced → Outside disk.ranges i
      → slice_index image i ≡ slice_index disk.synced i

-- nothing was written since the last sync
abbrev pub IsSynced : Disk → Type 0
IsSynced disk = (disk.ranges ≡ []) × (disk.synced ≡ disk.image)
