-- What is known of a call of `run` whose book was opened, once its counters were closed (profile).
use Rattle.std.specs.Prelude.{◌≡◌, ℕ, ◌<◌, Bool, IsTrue, List, length, slice_index, Ok}
use Rattle.sdls_base.specs.declared.TheConstants.{MOST_KEYS}
use Rattle.sdls_outside.specs.Moments.{EachMoment}
use Rattle.counter_table.specs.declared.view.View.{View}
use Rattle.counter_table.specs.Whole.{IsWhole, RowStands}
use Rattle.unit_image.specs.Image.{held}
use Rattle.record_io.specs.Reading.{SourceSeen}
use Rattle.unit_plan.specs.Plan.{plan_of}
use Rattle.unit_plan.specs.PlanLines.{PlanLines}
use Rattle.unit_state.specs.declared.state.State.{State}
use Rattle.unit_image.specs.OpeningImage.{Opening}
use Rattle.unit_image.specs.Shows.{Shows}
use Rattle.run_promise.specs.Call.{SiteSeen, Begin}
use Rattle.unit_book.specs.Book.{BookView, IsKept}
use Rattle.law_workers.specs.Views.{log_of}
use Rattle.run_promise.specs.declared.end.RunEnd.{RunEnd}
use Rattle.law_runs.specs.Doing.{IsFounded}
use Rattle.law_runs.specs.Coming.{HasCome}

-- what a run begins with whose image shows this state of this plan
abbrev pub begin_by : Bool → PlanLines → State → Begin
begin_by told plan start = record {
  rows = MOST_KEYS;
  told = told;
  plan = plan;
  start = start;
}

-- The book was opened on the site, one worker did all that was done from the first view to the last, and the counters
-- were closed with these words `next`.
pub record Ran (told : Bool) (site : SiteSeen) (source source_after : SourceSeen) (first now : View) (came : RunEnd)
    (book : BookView) (words : List ℕ) : Type 0 where
  pub says : IsTrue told → plan_of (held site.trace.now.image).plan ≡ Ok book.plan
  pub shows : IsTrue told → Shows site.trace.now.image book.start
  pub opening : IsTrue told → EachMoment site.trace book.opened.trace (Opening site.trace)
  pub sunk : IsTrue told → book.opened.trace.now.sunk ≡ site.trace.now.sunk
  pub read : book.image ≡ site.trace.now.image
  pub same_faults : book.opened.faults ≡ site.faults
  pub founded : IsTrue told → IsFounded (begin_by told book.plan book.start) first
  pub come : HasCome source source_after (begin_by told book.plan book.start) first now
      site.put_faults book.site.put_faults book.standing came
  pub whole : IsWhole MOST_KEYS now
  pub kept : IsKept told book
  pub log : book.log ≡ log_of now
  pub known : now.turn.known.faults ≡ book.site.faults
  pub known_first : now.turn.known.opening.faults ≡ book.opened.faults
  pub rows : length words ≡ MOST_KEYS
  pub stand : (row : ℕ) → row < MOST_KEYS → RowStands row (slice_index words row) now.numbers
