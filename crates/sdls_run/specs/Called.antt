-- Calls of the program one after the other, and the life of the unit that they are (profile).
use Rattle.std.specs.Prelude.{◌≡◌, ◌⊎◌, ℕ, IsTrue, List, [], ◌∷◌, ◌++◌, length, take}
use Rattle.sdls_outside.specs.Disk.{Leaves}
use Rattle.sdls_outside.specs.Moments.{clock, MomentSince}
use Rattle.unit_plan.specs.PlanLines.{PlanLines}
use Rattle.unit_state.specs.declared.state.State.{State}
use Rattle.run_promise.specs.Account.{Account, end_octets}
use Rattle.run_promise.specs.Call.{CallSeen, ShowsAtEntry, image_at_entry, sunk_since}
use Rattle.run_promise.specs.Life.{IsLife, left_by, LifeRun, OnceInLife, EndsAndLives, KeepsLivesReading, no_account}
use Rattle.run_promise.specs.Life.{run_of}

-- A call that ended, by itself or by a crash: the octets sunk by then, its account and the octets of its End, and what
-- of its answers and End was sunk since its entry.
pub record PastCall : Type 0 where
  pub call : CallSeen
  pub sunk : List ℕ
  pub account : Account
  pub ends : List ℕ
  pub put : List ℕ

-- the word was `run`: what the clause `run` of the top call says, and what the call itself did
pub record IsRunCall (last : PastCall) : Type 0 where
  pub promised : EndsAndLives last.call
  pub account_is : last.account ≡ promised.ends.account
  pub ends_are : last.ends ≡ end_octets last.call promised.ends.account.named
  pub put_is : last.put ≡ sunk_since last.call last.sunk

-- the words were others: what the clause `other_lives` says; there are no answers
pub record IsOtherCall (last : PastCall) : Type 0 where
  pub promised : KeepsLivesReading last.call
  pub account_is : last.account ≡ no_account last.call
  pub ends_are : last.ends ≡ []
  pub put_is : last.put ≡ []

-- After these calls, the last one first, a crash may leave this image, if the unit began with the first image. Each
-- call
-- was entered with an image that those before it may leave. So is each that a crash at its entry may leave. It ended at
-- one of its moments, at which a crash may leave the image.
abbrev pub MayLeave : List ℕ → List PastCall → List ℕ → Type 0
MayLeave first [] image = image ≡ first
MayLeave first (last ∷ before) image = (IsRunCall last ⊎ IsOtherCall last)
    × IsTrue last.call.told
    × MayLeave first before (image_at_entry last.call)
    × ((other : List ℕ) → Leaves last.call.site.trace.now other → MayLeave first before other)
    × MomentSince (clock last.call.site.trace) last.call.site_after.trace image last.sunk

-- The moment is before any answer: a crash at the entry may leave its image too, and nothing was put but of End.
pub record IsBeforeAnswers (last : PastCall) (image : List ℕ) : Type 0 where
  pub leaves : Leaves last.call.site.trace.now image
  pub only_end : last.put ≡ take (length last.put) last.ends

-- the run of a life that the call is
abbrev pub as_run : PastCall → PlanLines → State → List ℕ → LifeRun
as_run last plan state image = run_of last.call last.account plan state last.ends image last.put

-- The calls are these runs, in their order. One that ended before any answer is none: it left what those before it may
-- leave.
abbrev pub AreRuns : List PastCall → List ℕ → List LifeRun → Type 0
AreRuns [] image runs = runs ≡ []
AreRuns (last ∷ before) image runs = (IsBeforeAnswers last image × AreRuns before image runs)
    ⊎ ((earlier : List LifeRun) × (plan : PlanLines) × (state : State) × ShowsAtEntry last.call plan state
    × (runs ≡ earlier ++ as_run last plan state image ∷ [])
    × AreRuns before (image_at_entry last.call) earlier)

-- The calls are a life that left the image: no two uses, and no two acceptances, of all its answers are of one key and
-- number.
pub record AreLife (first : List ℕ) (calls : List PastCall) (image : List ℕ) : Type 0 where
  pub runs : List LifeRun
  pub are_runs : AreRuns calls image runs
  pub life : IsLife first runs
  pub left : left_by first runs ≡ image
  pub once : OnceInLife runs
