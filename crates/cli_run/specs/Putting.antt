-- What putting answers does (profile).
use Rattle.std.specs.Prelude.{◌≡◌, ◌⊎◌, ◌≤◌, Bool, IsTrue, List, ◌++◌, length, Result, MatchResult, OnErr, ℕ}
use Rattle.sdls_base.specs.declared.TheConstants.{MOST_KEYS}
use Rattle.sdls_outside.specs.Faults.{Rose}
use Rattle.sdls_outside.specs.Moments.{Between}
use Rattle.sdls_outside.specs.Site.{after_put}
use Rattle.unit_plan.specs.PlanLines.{PlanLines}
use Rattle.counter_table.specs.declared.view.View.{View}
use Rattle.counter_table.specs.declared.counters.Counters.{Counters}
use Rattle.counter_table.specs.declared.counters.Worker.{Worker}
use Rattle.counter_table.specs.Whole.{IsWhole}
use Rattle.counter_table.specs.Worker.{view}
use Rattle.counter_table.specs.Numbers.{ALL_SHARES}
use Rattle.shared_unit.specs.Turn.{IsReady}
use Rattle.run_promise.specs.Call.{Begin}
use Rattle.law_workers.specs.Views.{log_of}
use Rattle.law_workers.specs.Began.{BeganWith}
use Rattle.law_runs.specs.Doing.{PutsPieces, SettlesWork, octets_put}

-- One worker of the unit, with all shares, which did all that was done.
pub record IsAlone {B : Type 0} (counters : Counters B) (plan : PlanLines) (worker : Worker B) : Type 0 where
  pub ready : IsReady counters plan worker
  pub shares : (view worker).numbers.shares ≡ ALL_SHARES
  pub whole : IsWhole MOST_KEYS (view worker)

-- Ok: the octets were added to those put. Err: a front of them.
abbrev pub Adds : {T E : Type 0} → List ℕ → Result T E → List ℕ → List ℕ → Type 0
Adds octets result old new = MatchResult result (λ _. new ≡ old ++ octets) (λ _. Between old (old ++ octets) new)

-- The octets were taken over behind those of a piece that is to be put. Ok: what is put, and the piece behind it, have
-- grown by them. Err: a front was put.
abbrev pub TakesOver : {T E : Type 0} → List ℕ → Result T E → List ℕ → List ℕ → List ℕ → List ℕ → Type 0
TakesOver octets result piece_old piece_new old new = MatchResult result
    (λ _. (length old ≤ length new) × (new ++ piece_new ≡ (old ++ piece_old) ++ octets))
    (λ _. Between old (old ++ (piece_old ++ octets)) new)

-- the first put settled what the worker had done before, of the entries that it knew to stand
abbrev pub SettlesAll : Begin → View → View → Type 0
SettlesAll begin v w = SettlesWork begin v w v.turn.known.standing w.turn.known.standing

-- nothing was put, or the first put settled
abbrev pub Begun : Begin → View → View → Type 0
Begun begin v w = (log_of w ≡ log_of v) ⊎ SettlesAll begin v w

-- of each run that began with what the worker knows of the opening
abbrev pub OfRun : Bool → View → (Begin → Type 0) → Type 0
OfRun told v P = (begin : Begin) → BeganWith told begin v.turn.known.opening → P begin

-- What every putting leaves: the opening and the numbers stand, one more put failed where the answer is a fault, and
-- the site's count then had risen.
pub record PutLeaves {T E : Type 0} (told : Bool) (result : Result T E) (v w : View) : Type 0 where
  pub opening : w.turn.known.opening ≡ v.turn.known.opening
  pub counted : w.turn.known.put_faults ≡ after_put result v.turn.known.put_faults
  pub rose : OnErr result (Rose w.turn.known.opening.faults w.turn.known.faults)
  pub puts : OfRun told v (λ begin. PutsPieces begin v w)
  pub numbers : w.numbers ≡ v.numbers

-- The octets were put, or a front of them.
pub record PutsOctets {T E : Type 0} (told : Bool) (octets : List ℕ) (result : Result T E) (v w : View) : Type 0 where
  pub leaves : PutLeaves told result v w
  pub adds : IsTrue told → Adds octets result (octets_put v) (octets_put w)
  pub settles : OfRun told v (λ begin. SettlesAll begin v w)

-- The octets were taken over into the piece, or put with it.
pub record TakesOctets {T E : Type 0} (told : Bool) (octets : List ℕ) (result : Result T E)
    (piece_old piece_new : List ℕ) (v w : View) : Type 0 where
  pub leaves : PutLeaves told result v w
  pub takes : IsTrue told → TakesOver octets result piece_old piece_new (octets_put v) (octets_put w)
  pub begun : OfRun told v (λ begin. Begun begin v w)
  pub settles : OnErr result (OfRun told v (λ begin. SettlesAll begin v w))

-- Since the first view the octets were put, or stand in the piece.
pub record TakesSoFar (told : Bool) (octets piece : List ℕ) (v w : View) : Type 0 where
  pub opening : w.turn.known.opening ≡ v.turn.known.opening
  pub counted : w.turn.known.put_faults ≡ v.turn.known.put_faults
  pub puts : OfRun told v (λ begin. PutsPieces begin v w)
  pub numbers : w.numbers ≡ v.numbers
  pub takes : IsTrue told → (length (octets_put v) ≤ length (octets_put w))
      × (octets_put w ++ piece ≡ octets_put v ++ octets)
  pub begun : OfRun told v (λ begin. Begun begin v w)
