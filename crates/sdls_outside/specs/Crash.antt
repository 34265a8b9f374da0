-- What a site in memory leaves at a crash that a test asks for (profile).
use Rattle.std.specs.Prelude.{◌≡◌, ℕ, ◌+◌, ◌<◌, ◌≤◌, ◌-◌, ◌⊎◌, ◌&&◌, Bool, nat_le, nat_lt, List, [], ◌∷◌, length}
use Rattle.std.specs.Prelude.{slice_index}
use Rattle.sdls_outside.specs.Disk.{Disk, Outside}
use Rattle.sdls_outside.specs.Moments.{Trace}
use Rattle.sdls_outside.specs.declared.mem_site.Crash.{Crash}
use Rattle.sdls_outside.specs.declared.mem_site.Crash.TheVariants.{Kept, Lost, Filled}

-- octet i lies in one of the ranges
abbrev pub Inside : List (ℕ × ℕ) → ℕ → Type 0
Inside [] i = ⊥
Inside (range ∷ ranges) i = ((range.0 ≤ i) × (i < range.0 + range.1)) ⊎ Inside ranges i

-- whether a range holds octet i
abbrev pub covers : ℕ → ℕ × ℕ → Bool
covers i range = nat_le range.0 i && nat_lt (i - range.0) range.1

-- the image as it reads, with this octet everywhere in the ranges written since the last sync
pub record IsFilled (octet : ℕ) (disk : Disk) (image : List ℕ) : Type 0 where
  pub same_length : length image ≡ length disk.image
  pub inside : (i : ℕ) → i < length image → Inside disk.ranges i → slice_index image i ≡ octet
  pub outside : (i : ℕ) → Outside disk.ranges i → slice_index image i ≡ slice_index disk.image i

-- the image after a crash of this kind: as it reads, as the last sync left it, or filled
abbrev pub LeftBy : Crash → Disk → List ℕ → Type 0
LeftBy Kept disk image = image ≡ disk.image
LeftBy Lost disk image = image ≡ disk.synced
LeftBy (Filled octet) disk image = IsFilled octet disk image

-- this image, all of it synced, nothing sunk, and nothing before it
abbrev pub fresh : List ℕ → Trace
fresh image = record { now = record { image = image; synced = image; ranges = []; sunk = [] }; past = [] }
