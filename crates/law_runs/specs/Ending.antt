-- The end of a run, as the book goes through it (profile).
use Rattle.std.specs.Prelude.{◌≡◌, ◌≢◌, ◌⊎◌, ℕ, ◌≤◌, Bool, IsTrue, List, length, Result, Err, IfErr, MatchResult}
use Rattle.sdls_base.specs.declared.entry.Entry.{Entry}
use Rattle.sdls_outside.specs.Faults.{Rose}
use Rattle.sdls_outside.specs.Site as sites
use Rattle.record_io.specs.declared.status.TheConstants.{SITE_FAULT}
use Rattle.record_io.specs.Answers.{IsAnswer, answer_octets}
use Rattle.run_promise.specs.Call.{SiteSeen}
use Rattle.unit_book.specs.declared.fault.BookFault.{BookFault}
use Rattle.unit_book.specs.declared.fault.BookFault.TheVariants as faults
use Rattle.unit_book.specs.Book.{BookView, IsKept, with_put}
use Rattle.unit_book.specs.LeavesBook.{LeavesBook, TellsRise}
use Rattle.unit_book.specs.Log.{sunk_between}
use Rattle.unit_book.specs.Numbers.{Releases}
use Rattle.run_promise.specs.Log.{entries_of}
use Rattle.run_promise.specs.declared.end.RunEnd.{RunEnd}
use Rattle.run_promise.specs.declared.end.RunEnd.TheVariants as ends
use Rattle.run_promise.specs.Account.{end_answer, end_status}

-- The end that is told, by the site's counts of faults before the run, when all answers were put, and behind the
-- release.
abbrev pub IsToldEnd : ℕ → ℕ → ℕ → RunEnd → Result (Unit {0}) BookFault → RunEnd → Type 0
IsToldEnd before last now came released told = (Rose before last × (told ≡ ends.SiteFault last))
    ⊎ ((¬ Rose before last) × (((came ≢ ends.Ended) × (told ≡ came))
    ⊎ ((came ≡ ends.Ended) × ((Rose last now × (told ≡ ends.SiteFault now))
    ⊎ ((¬ Rose last now) × (((released ≡ Err faults.SessionFull) × (told ≡ ends.SessionFull))
    ⊎ (told ≡ ends.Ended)))))))

-- End was put, or a front of it.
pub record IsEndPut (told : Bool) (end : RunEnd) (old new : BookView) (status : ℕ) : Type 0 where
  pub put : Result (Unit {0}) BookFault
  pub made : new ≡ with_put (sunk_between old.site.trace new.site.trace) (record old { site = new.site })
  pub sinks : IsTrue told
      → sites.Puts (answer_octets (end_answer end (length (entries_of old.log)))) put old.site.trace new.site.trace
  pub counted : new.site.put_faults ≡ sites.after_put put old.site.put_faults
  pub later : old.site.faults ≤ new.site.faults
  pub status_is : MatchResult put (λ _. (status ≡ end_status end) × (new.site.faults ≡ old.site.faults))
      (λ _. (status ≡ SITE_FAULT) × Rose old.site.faults new.site.faults)

-- Where a put failed before, nothing more is put.
abbrev pub PutsEnd : Bool → RunEnd → RunEnd → BookView → BookView → ℕ → Type 0
PutsEnd told came end old new status =
    ((came ≡ ends.PutFailed) × (new ≡ old) × (status ≡ SITE_FAULT))
    ⊎ ((came ≢ ends.PutFailed) × IsEndPut told end old new status)

-- The keys were released by these words `next`, and End was put. Its fields have their widths.
pub record Finishes (told : Bool) (before : ℕ) (words : List ℕ) (came : RunEnd) (book : BookView) (site : SiteSeen)
    (entries : List Entry) (status : ℕ) : Type 0 where
  pub released : BookView
  pub answer : Result (Unit {0}) BookFault
  pub releases : Releases words book released answer
  pub goes_on : LeavesBook book released
  pub risen : IfErr answer (TellsRise released)
  pub same_puts : released.site.put_faults ≡ book.site.put_faults
  pub end : RunEnd
  pub end_is : IsToldEnd before book.site.faults released.site.faults came answer end
  pub last : BookView
  pub kept : IsKept told last
  pub puts_end : PutsEnd told came end released last status
  pub site_is : site ≡ last.site
  pub entries_are : entries ≡ entries_of last.log
  pub widths : IsAnswer (end_answer end (length (entries_of released.log)))
