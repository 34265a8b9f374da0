-- A unit that was opened, served and closed, or was not opened (profile).
use Rattle.std.specs.Prelude.{◌≡◌, ℕ, Bool, IsTrue, List, Result, Ok, MatchResult}
use Rattle.sdls_base.specs.declared.entry.Entry.{Entry}
use Rattle.sdls_base.specs.declared.TheConstants.{MOST_KEYS}
use Rattle.sdls_outside.specs.declared.source.Failed.{Failed}
use Rattle.sdls_outside.specs.Faults.{HasCause}
use Rattle.sdls_outside.specs.Site as sites
use Rattle.counter_table.specs.declared.view.View.{View}
use Rattle.counter_table.specs.Close.{ClosesCounters}
use Rattle.counter_table.specs.Whole.{IsWhole}
use Rattle.record_io.specs.declared.status.TheConstants.{SITE_FAULT}
use Rattle.record_io.specs.Answers.{IsAnswer, answer_octets}
use Rattle.record_io.specs.Reading.{SourceSeen}
use Rattle.unit_image.specs.declared.opening_image.OpenFault.{OpenFault}
use Rattle.run_promise.specs.Call.{SiteSeen, Begin}
use Rattle.unit_book.specs.Book.{BookView, IsKept}
use Rattle.shared_unit.specs.Told.{known_of_book}
use Rattle.law_workers.specs.Began.{BeganWith}
use Rattle.run_promise.specs.declared.end.RunEnd.{RunEnd}
use Rattle.run_promise.specs.Account.{end_answer, end_status}
use Rattle.law_runs.specs.Ending.{Finishes, IsToldEnd}
use Rattle.law_runs.specs.Refused.{refused_end}
use Rattle.cli_run.specs.Serving.{Comes}

-- The one worker, from the first view to the last, served the input of the source until this end came; then the unit
-- was closed with these words `next`, and the run was ended, which left the site so. So many faults had been counted
-- before the run.
pub record RunsUnit (told : Bool) (before : ℕ) (source source_after : SourceSeen) (first : View) (site : SiteSeen)
    (entries : List Entry) (status : ℕ) : Type 0 where
  pub now : View
  pub came : RunEnd
  pub book : BookView
  pub words : List ℕ
  pub comes : (begin : Begin) → BeganWith told begin first.turn.known.opening
      → Comes source source_after begin first now came
  pub opening : now.turn.known.opening ≡ first.turn.known.opening
  pub whole : IsWhole MOST_KEYS now
  pub kept : IsKept told book
  pub closes : ClosesCounters MOST_KEYS now (known_of_book book) words
  pub finishes : Finishes told before words came book site entries status

-- where a book was not opened: End was put, or a front of it; so many faults had been counted before the run
pub record PutsRefusal (told : Bool) (before : ℕ) (fault : OpenFault) (site after : SiteSeen)
    (status : ℕ) : Type 0 where
  pub end : RunEnd
  pub end_is : IsToldEnd before site.faults site.faults (refused_end fault) (Ok tt) end
  pub put : Result (Unit {0}) Failed
  pub sinks : IsTrue told → sites.Puts (answer_octets (end_answer end 0)) put site.trace after.trace
  pub counted : after.put_faults ≡ sites.after_put put site.put_faults
  pub cause : HasCause site.faults after.faults put
  pub status_is : MatchResult put (λ _. status ≡ end_status end) (λ _. status ≡ SITE_FAULT)
  pub widths : IsAnswer (end_answer end 0)
