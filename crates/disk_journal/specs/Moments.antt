-- What a crash at a moment of a call may leave of an image (profile).
use Rattle.std.specs.Prelude.{◌≡◌, ℕ, ◌+◌, ◌<◌, ◌≤◌, ◌⊎◌, List, length, slice_index}
use Rattle.sdls_outside.specs.Moments.{Trace, EachMoment}
use Rattle.sdls_outside.specs.Site.{Synced}

-- new is old, but for what stands in a range of octets
pub record AllBut (at count : ℕ) (old new : List ℕ) : Type 0 where
  pub same_length : length new ≡ length old
  pub outside : (i : ℕ) → (i < at) ⊎ (at + count ≤ i) → slice_index new i ≡ slice_index old i

-- at each moment P holds of the image, and nothing is sunk
pub record EachImage (old new : Trace) (P : List ℕ → Type 0) : Type 0 where
  pub moments : EachMoment old new (λ image sunk. P image × (sunk ≡ old.now.sunk))
  pub sunk : new.now.sunk ≡ old.now.sunk

-- nothing was written: the trace is what it was, or a sync later
abbrev pub OnlySyncs : Trace → Trace → Type 0
OnlySyncs old new = (new ≡ old) ⊎ Synced old new
