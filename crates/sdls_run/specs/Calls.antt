-- How a call of the program ends, word by word (profile).
use Rattle.std.specs.Prelude.{◌≡◌, ◌≢◌, ℕ, IsTrue, List, [], take}
use Rattle.sdls_outside.specs.Faults.{Rose}
use Rattle.sdls_outside.specs.Output.{OnlySinks}
use Rattle.record_io.specs.Input.{MOST_OCTETS}
use Rattle.record_io.specs.Outcome.{Ends}
use Rattle.record_io.specs.declared.status.TheConstants.{USAGE}
use Rattle.run_promise.specs.Call.{CallSeen, image_at_entry}
use Rattle.command_words.specs.Lines.{usage_text}
use Rattle.cli_check.specs.Answer.{EndsCheck}
use Rattle.cli_audit.specs.Ends.{EndsAudit}
use Rattle.cli_image.specs.Init.{EndsInit}
use Rattle.cli_image.specs.Stat.{EndsStat}
use Rattle.cli_image.specs.Taking.{TakesFrame, TakesPlan}
use Rattle.unit_drill.specs.Drilled.{EndsDrill}
use Rattle.unit_drill.specs.OverLink.{EndsLinkDrill}

-- ---- what it read, and what failed

-- the input, if the source shows it
abbrev pub IsInputOf : CallSeen → List ℕ → Type 0
IsInputOf call input = IsTrue call.source.told → input ≡ call.source.left

-- the input of an audit, which reads no more of it
abbrev pub IsRecordingOf : CallSeen → List ℕ → Type 0
IsRecordingOf call input = IsTrue call.source.told → input ≡ take MOST_OCTETS call.source.left

abbrev pub SourceFailed : CallSeen → Type 0
SourceFailed call = Rose call.source.faults call.source_after.faults

abbrev pub SiteFailed : CallSeen → Type 0
SiteFailed call = Rose call.site.faults call.site_after.faults

-- ---- how it ends

-- `check KEY`: with the data field of the frame or the first check that fails; it takes no more than shows its length
pub record Checks (key : List ℕ) (call : CallSeen) : Type 0 where
  pub ends : EndsCheck key (IsInputOf call) (SourceFailed call) call.told call.site.trace call.site_after.trace
      (SiteFailed call) call.status
  pub takes : IsTrue call.source.told → TakesFrame call.source.left call.source_after.left

-- `init`: with the image of the plan, or why not; to an image that stands nothing is done
pub record MakesImage (unread : Type 0) (call : CallSeen) : Type 0 where
  pub ends : EndsInit (IsInputOf call) unread (SourceFailed call) call.told call.site.trace call.site_after.trace
      (SiteFailed call) call.status
  pub takes : IsTrue call.source.told → TakesPlan call.source.left call.source_after.left
  pub leaves : IsTrue call.told → image_at_entry call ≢ [] → OnlySinks call.site.trace call.site_after.trace

-- `stat`: with the state that the image shows, or why there is none
abbrev pub PrintsState : CallSeen → Type 0
PrintsState call = EndsStat call.told call.site.trace call.site_after.trace (SiteFailed call) call.status

-- `audit`: with what is said of the whole recording
abbrev pub Audits : CallSeen → Type 0
Audits call = EndsAudit (IsRecordingOf call) (SourceFailed call) call.told call.site.trace call.site_after.trace
    (SiteFailed call) call.status

-- `drill N` and `drill link N`: with the counts of the answers of two units of its own
abbrev pub Drills : ℕ → CallSeen → Type 0
Drills number call = EndsDrill number call.told call.site.trace call.site_after.trace (SiteFailed call) call.status

abbrev pub DrillsOverLink : ℕ → CallSeen → Type 0
DrillsOverLink number call =
    EndsLinkDrill number call.told call.site.trace call.site_after.trace (SiteFailed call) call.status

-- other words: with the usage line
abbrev pub EndsWithUsage : CallSeen → Type 0
EndsWithUsage call = Ends call.told call.site.trace call.site_after.trace (SiteFailed call) usage_text USAGE call.status
