-- What a crash at some moment may leave, inside a call or between two (profile).
use Rattle.std.specs.Prelude.{◌≡◌, ℕ, ◌≤◌, ◌⊎◌, List, [], ◌∷◌, ◌++◌, length, take, drop}
use Rattle.sdls_outside.specs.Disk.{Disk, Leaves}

-- what stands now, and what stood before each call that changed something, the oldest first
pub record Trace : Type 0 where
  pub now : Disk
  pub past : List Disk

-- how many calls have changed something: a clock that never falls
abbrev pub clock : Trace → ℕ
clock trace = length trace.past

-- the octets sunk at a moment of a call: those from before it, and a front of those it adds
pub record Between (old new sunk : List ℕ) : Type 0 where
  pub least : length old ≤ length sunk
  pub prefix : sunk ≡ take (length sunk) new

-- what was sunk once the call after these was done
abbrev pub sunk_next : List Disk → Disk → List ℕ
sunk_next [] now = now.sunk
sunk_next (disk ∷ past) now = disk.sunk

-- A crash during one of the calls from these on, or now, may leave this image and these sunk octets.
-- During a call it leaves what the disk before the call may leave; what the call itself wrote is a
-- written range of the disk after it.
abbrev pub Moments : List Disk → Disk → List ℕ → List ℕ → Type 0
Moments [] now image sunk = Leaves now image × (sunk ≡ now.sunk)
Moments (disk ∷ past) now image sunk =
    (Leaves disk image × Between disk.sunk (sunk_next past now) sunk) ⊎ Moments past now image sunk

-- a crash at some moment since this time may leave this image and these sunk octets
abbrev pub MomentSince : ℕ → Trace → List ℕ → List ℕ → Type 0
MomentSince time trace image sunk = Moments (drop time trace.past) trace.now image sunk

-- At each moment since the old trace, P holds of the image and the sunk octets; a moment of a longer
-- run is one of the old trace, or P holds of it.
pub record EachMoment (old new : Trace) (P : List ℕ → List ℕ → Type 0) : Type 0 where
  pub later : clock old ≤ clock new
  pub each : (image sunk : List ℕ) → MomentSince (clock old) new image sunk → P image sunk
  pub before : (time : ℕ) (image sunk : List ℕ) → time ≤ clock old
      → MomentSince time new image sunk → MomentSince time old image sunk ⊎ P image sunk

-- the new trace is the old one, or goes on from it: what stood then is followed by what stood since
abbrev pub Continues : Trace → Trace → Type 0
Continues old new = (new ≡ old) ⊎ ((since : List Disk) × (new.past ≡ old.past ++ old.now ∷ since))
