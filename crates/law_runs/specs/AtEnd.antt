-- What is known of a run at its end, when its book was closed and its keys were released (profile).
use Rattle.std.specs.Prelude.{◌≡◌, ℕ, ◌+◌, ◌<◌, ◌≤◌, List, [], ◌++◌, length}
use Rattle.std.specs.List.{AllPairs, All}
use Rattle.sdls_base.specs.declared.TheConstants.{MOST_KEYS}
use Rattle.sdls_base.specs.declared.entry.Entry.{Entry}
use Rattle.sdls_outside.specs.Faults.{Rose}
use Rattle.counter_table.specs.declared.view.View.{View}
use Rattle.counter_table.specs.Whole.{RowStands, IsWhole}
use Rattle.record_io.specs.Places.{Place, records_of}
use Rattle.unit_plan.specs.PlanRules.{IsPlan}
use Rattle.unit_state.specs.State.{KeepsRules}
use Rattle.unit_state.specs.Restart.{restarted}
use Rattle.run_promise.specs.History.{drawers, TurnIn}
use Rattle.run_promise.specs.Fits.{Course}
use Rattle.run_promise.specs.Call.{Begin}
use Rattle.law_workers.specs.Views.{log_of, entries_in}
use Rattle.law_workers.specs.Work.{indexed}
use Rattle.run_promise.specs.Deed.{Deed}
use Rattle.law_workers.specs.Deeds.{Does, course_in}
use Rattle.law_workers.specs.Order.{Lined}
use Rattle.law_workers.specs.Opened.{IsJustOpened}
use Rattle.law_runs.specs.Release.{AreReleases}
use Rattle.run_promise.specs.Sound.{IsCoveredBy}

-- From the opening to the end one worker did it all, with the records of these places and these answers. The words are
-- those that the closed counters told, and the releases went by them; once the site had failed there were none.
pub record EndsRun (begin : Begin) (first now : View) (places : List Place) (deeds : List Deed) (words : ℕ → ℕ)
    (releases : List Entry) (faults : ℕ) : Type 0 where
  pub rows : begin.rows ≡ MOST_KEYS
  pub plan_is : IsPlan begin.plan
  pub rules : KeepsRules begin.start
  pub left : restarted begin.start ≡ begin.start
  pub opened : IsJustOpened begin first
  pub does : Does begin first now (records_of places) deeds
  pub whole : IsWhole begin.rows now
  pub pieces : ℕ
  pub lined : Lined (TurnIn places) (log_of now) does.gains.made
      (length (records_of places) + drawers (records_of places)) pieces
  pub once : (index : ℕ) → indexed index (records_of places) ≤ 1
  pub ascend : AllPairs (λ one other. one.task.index < other.task.index) deeds
  pub words_are : (row : ℕ) → row < begin.rows → RowStands row (words row) now.numbers
  pub releases_are : AreReleases words begin.start (entries_in now) releases
  pub fewer : now.turn.known.faults ≤ faults
  pub stopped : Rose now.turn.known.opening.faults now.turn.known.faults → releases ≡ []

-- what the answers of the run speak of
abbrev pub course_at_end : Begin → View → List Entry → ℕ → Course
course_at_end begin now releases faults = record (course_in begin now) {
  faults = faults;
  entries = entries_in now
      ++ releases;
}

-- what covers an answer is covered by each later state: no mark and no floor falls below what was used or accepted
abbrev pub StaysCovered : Course → List Deed → Type 0
StaysCovered course deeds = (earlier later : ℕ) → earlier ≤ later → later ≤ length course.entries
    → All (λ deed. IsCoveredBy course earlier deed → IsCoveredBy course later deed) deeds
