-- Octets taken of a source (profile).
use Rattle.std.specs.Prelude.{◌≡◌, ℕ, ◌+◌, ◌<◌, ◌≤◌, Bool, IsTrue, List, [], ◌++◌, length, Result, MatchResult}
use Rattle.sdls_outside.specs.Faults.{Rose}
use Rattle.record_io.specs.Input.{MOST_OCTETS}
use Rattle.record_io.specs.Steps.{still_counted}
use Rattle.pair_audit.specs.declared.walk.AuditStop.{AuditStop}
use Rattle.pair_audit.specs.declared.walk.AuditStop.TheVariants.{SourceFault, NoMemory}

-- Behind so many octets of an input these were taken, at most so many; fewer only if none are left that count.
pub record Taking (told : Bool) (taken most : ℕ) (octets left_old left_new : List ℕ) : Type 0 where
  pub moved : IsTrue told → left_old ≡ octets ++ left_new
  pub within : length octets ≤ most
  pub counted : taken + length octets ≤ MOST_OCTETS
  pub ended : length octets < most → IsTrue told → still_counted (taken + length octets) left_new ≡ []

-- the source failed, and its count of faults rose; out of memory it stood
abbrev pub StopsBy : ℕ → ℕ → AuditStop → Type 0
StopsBy before now SourceFault = Rose before now
StopsBy before now NoMemory = now ≡ before

-- the source's count of faults stood, or the audit stopped by a fault of it
abbrev pub HasStopCause : {T : Type 0} → ℕ → ℕ → Result T AuditStop → Type 0
HasStopCause before now result = MatchResult result (λ _. now ≡ before) (StopsBy before now)
