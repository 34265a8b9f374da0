-- What is known of a call of `run` whose book was not opened (profile).
use Rattle.std.specs.Prelude.{◌≡◌, ℕ, ◌≤◌, Bool, IsTrue, Result, Ok, MatchResult}
use Rattle.sdls_outside.specs.declared.source.Failed.{Failed}
use Rattle.sdls_outside.specs.Disk.{Leaves}
use Rattle.sdls_outside.specs.Faults.{HasCause}
use Rattle.sdls_outside.specs.Moments.{EachMoment}
use Rattle.sdls_outside.specs.Site as sites
use Rattle.record_io.specs.declared.status.TheConstants.{SITE_FAULT}
use Rattle.record_io.specs.Answers.{IsAnswer, answer_octets}
use Rattle.unit_image.specs.declared.opening_image.OpenFault.{OpenFault}
use Rattle.unit_image.specs.declared.opening_image.OpenFault.TheVariants as faults
use Rattle.unit_image.specs.OpeningImage.{IsOpenCause, LeavesShown, Opening}
use Rattle.unit_image.specs.Shows.{ShowsNone}
use Rattle.run_promise.specs.Call.{SiteSeen}
use Rattle.run_promise.specs.declared.end.RunEnd.{RunEnd}
use Rattle.run_promise.specs.declared.end.RunEnd.TheVariants as ends
use Rattle.run_promise.specs.Account.{end_answer, end_status}
use Rattle.law_runs.specs.Ending.{IsToldEnd}

-- why a run ends whose book was not opened
abbrev pub refused_end : OpenFault → RunEnd
refused_end (faults.SiteFault count) = ends.SiteFault count
refused_end (faults.Image offset) = ends.NoState offset
refused_end faults.NoMemory = ends.NoMemory

-- The opening gave the site back with this fault, and then End was put on it, or a front of it. A fault of the site
-- that came before is told, else why the book was not opened. The fields of End have their widths.
pub record Refused (told : Bool) (site back after : SiteSeen) (fault : OpenFault) (status : ℕ) : Type 0 where
  pub cause : IsOpenCause site.faults back.faults (λ offset. IsTrue told → ShowsNone site.trace.now.image offset) fault
  pub left : IsTrue told → LeavesShown site.trace back.trace fault
  pub opening : IsTrue told → EachMoment site.trace back.trace (Opening site.trace)
  -- the image as it reads is one that a crash may leave, before the opening and behind it
  pub stays : IsTrue told → Leaves site.trace.now site.trace.now.image × Leaves back.trace.now back.trace.now.image
  pub later : site.faults ≤ back.faults
  pub same_puts : back.put_faults ≡ site.put_faults
  pub end : RunEnd
  pub end_is : IsToldEnd site.faults back.faults back.faults (refused_end fault) (Ok tt) end
  pub put : Result (Unit {0}) Failed
  pub sinks : IsTrue told → sites.Puts (answer_octets (end_answer end 0)) put back.trace after.trace
  pub counted : after.put_faults ≡ sites.after_put put back.put_faults
  pub put_cause : HasCause back.faults after.faults put
  pub status_is : MatchResult put (λ _. status ≡ end_status end) (λ _. status ≡ SITE_FAULT)
  pub widths : IsAnswer (end_answer end 0)
