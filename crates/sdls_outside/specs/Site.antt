-- What each call on a site does to its trace (profile).
use Rattle.std.specs.Prelude.{◌≡◌, ℕ, ◌+◌, ◌≤◌, ◌⊎◌, List, [], ◌∷◌, ◌++◌, length, take, drop, max, Result, Ok, Err}
use Rattle.std.specs.Prelude.{MatchResult}
use Rattle.sdls_outside.specs.Disk.{IsSynced}
use Rattle.sdls_outside.specs.Moments.{Trace, Between}

-- the image with these octets at this place, over what was there and past its end
abbrev pub overwritten : List ℕ → ℕ → List ℕ → List ℕ
overwritten image at octets = take at image ++ octets ++ drop (at + length octets) image

-- only a range of so many octets may have changed, and the image may have grown up to the range's end
pub record Torn (at count : ℕ) (old new : List ℕ) : Type 0 where
  pub before : take at new ≡ take at old
  pub after : drop (at + count) new ≡ drop (at + count) old
  pub no_shorter : length old ≤ length new
  pub no_longer : length new ≤ max (length old) (at + count)

-- one more call that changed something
abbrev pub Passes : Trace → Trace → Type 0
Passes old new = new.past ≡ old.past ++ old.now ∷ []

-- some of a write reached the image, and its range is marked as written
pub record Wrote (at count : ℕ) (old new : Trace) : Type 0 where
  pub passes : Passes old new
  pub synced : new.now.synced ≡ old.now.synced
  pub ranges : new.now.ranges ≡ (at, count) ∷ old.now.ranges
  pub sunk : new.now.sunk ≡ old.now.sunk
  pub torn : Torn at count old.now.image new.now.image

-- Ok: the octets are written. Failed: nothing changed, or the range holds any octets.
abbrev pub Writes : {T E : Type 0} → ℕ → List ℕ → Result T E → Trace → Trace → Type 0
Writes at octets result old new = MatchResult result
    (λ _. Wrote at (length octets) old new × (new.now.image ≡ overwritten old.now.image at octets))
    (λ _. (new ≡ old) ⊎ Wrote at (length octets) old new)

-- everything written is on the disk
pub record Synced (old new : Trace) : Type 0 where
  pub passes : Passes old new
  pub image : new.now.image ≡ old.now.image
  pub sunk : new.now.sunk ≡ old.now.sunk
  pub is_synced : IsSynced new.now

-- Ok: nothing written is pending. Failed: nothing changed.
abbrev pub Syncs : {T E : Type 0} → Result T E → Trace → Trace → Type 0
Syncs result old new = MatchResult result (λ _. Synced old new) (λ _. new ≡ old)

-- a front of these octets was sunk, and the image is untouched
pub record Sank (octets : List ℕ) (old new : Trace) : Type 0 where
  pub passes : Passes old new
  pub image : new.now.image ≡ old.now.image
  pub synced : new.now.synced ≡ old.now.synced
  pub ranges : new.now.ranges ≡ old.now.ranges
  pub sunk : Between old.now.sunk (old.now.sunk ++ octets) new.now.sunk

-- Ok: all the octets are sunk. Failed: nothing changed, or a front of them is sunk.
abbrev pub Puts : {T E : Type 0} → List ℕ → Result T E → Trace → Trace → Type 0
Puts octets result old new = MatchResult result
    (λ _. Sank octets old new × (new.now.sunk ≡ old.now.sunk ++ octets))
    (λ _. (new ≡ old) ⊎ Sank octets old new)

-- how often a put has failed, once a put has ended so
abbrev pub after_put : {T E : Type 0} → Result T E → ℕ → ℕ
after_put (Ok value) count = count
after_put (Err error) count = count + 1
