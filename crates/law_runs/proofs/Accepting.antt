-- No two answers of a run accept one number under one key, none accepts a number up to the floor at the start, and one
-- below a number that an entry before accepted is less than 64 below.
use Rattle.std.proofs.Common.{◌≡◌, ℕ, ◌<◌, ◌≤◌, List, ◌-◌, arith}
use Rattle.std.specs.List.{All, AllPairs, slice_index_or}
use Rattle.record_io.specs.Places.{Place, records_of}
use Rattle.unit_state.specs.Restart.{restarted}
use Rattle.run_promise.specs.Numbers.{floor_of}
use Rattle.run_promise.specs.History.{IsLegalHistory, TurnIn}
use Rattle.run_promise.specs.Answers.{Accepts}
use Rattle.run_promise.specs.Fits.{Course, Fits}
use Rattle.law_history.proofs.Along.{accepted_above, accepted_late, of_places}
use Rattle.law_history.proofs.Codes.{accepting_opening, accepts_at, answers_once}
use Rattle.run_promise.specs.Deed.{Deed, Differ}
use Rattle.run_promise.specs.Sound.{IsNearBehind}

module _ (near : ℕ → ℕ → Type 0) (course : Course) (places : List Place)
    (history : IsLegalHistory course.begin.plan course.begin.start places course.entries) where
  pub accepts_differ : (deeds : List Deed) → AllPairs (λ (d e : Deed). d.task.index < e.task.index) deeds
      → All (λ (d : Deed). Fits near course d.task d.answer) deeds → AllPairs (Differ Accepts) deeds
  accepts_differ deeds up fit i j x lt within key number one other =
      answers_once near course places (slice_index_or deeds i x).task (slice_index_or deeds j x).task
      (slice_index_or deeds i x).answer (slice_index_or deeds j x).answer key number history
      (λ same. let l = up i j x lt within in omega arith) (fit i x (omega arith)) (fit j x within) one other

  pub accepts_near : (deeds : List Deed) → All (λ (d : Deed). Fits near course d.task d.answer) deeds
      → All (IsNearBehind course.entries) deeds
  accepts_near deeds fit = λ i x low place key high number accepts before higher.
      let a : Deed = slice_index_or deeds i x in
      let opening = accepting_opening near course a.task a.answer key number (fit i x low) accepts in
      accepted_late course.begin.plan course.begin.start (records_of places) (TurnIn places) course.entries
      (of_places course.begin.plan course.begin.start places course.entries history) place (a.answer.position - 1) key
      high number before
      higher (accepts_at course a.task a.answer key number opening accepts)

  pub accepts_above : restarted course.begin.start ≡ course.begin.start → (d : Deed) → Fits near course d.task d.answer
      → (key number : ℕ)
      → Accepts d.answer key number → floor_of course.begin.start key < number
  accepts_above left d fit key number accepts =
      accepted_above course.begin.plan course.begin.start (records_of places) (TurnIn places) course.entries
      (of_places course.begin.plan course.begin.start places course.entries history) left (d.answer.position - 1) key
      number
      (accepts_at course d.task d.answer key number
      (accepting_opening near course d.task d.answer key number fit accepts) accepts)
