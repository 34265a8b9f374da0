-- What the statuses of a run say.
use Rattle.std.specs.Prelude.{◌≡◌, ◌⊎◌, ℕ, ◌+◌, ◌*◌, ◌<◌, IsTrue, [], ◌++◌, length, take, ◌≢◌, List, false}
use Rattle.sdls_base.specs.declared.TheConstants.{MOST_KEYS}
use Rattle.sdls_outside.specs.Faults.{Rose}
use Rattle.record_io.specs.declared.status.TheConstants as status
use Rattle.record_io.specs.Input.{IsInput, Whole}
use Rattle.record_io.specs.Places.{places_of}
use Rattle.unit_plan.specs.PlanLines.{PlanLines}
use Rattle.unit_state.specs.declared.state.State.{State}
use Rattle.run_promise.specs.declared.end.TheConstants.{MOST_ENTRIES}
use Rattle.run_promise.specs.declared.end.RunEnd.TheVariants.{Ended, Malformed, SourceFault, SessionFull}
use Rattle.run_promise.specs.Call.{CallSeen, ShowsAtEntry, image_at_entry}
use Rattle.run_promise.specs.Answers.{SaysSiteFailed, IsUnmade}
use Rattle.run_promise.specs.Deed.{Deed, InTurn, is_entered}
use Rattle.run_promise.specs.Account.{AnsweredEach, HandledAll, begin_of, deeds_in, due_octets, Account}
use Rattle.run_promise.specs.Words.{Move}
use Rattle.run_promise.specs.OneLane.{ServesAll}
use Rattle.sdls_base.specs.declared.entry.Entry.{Entry}
use Rattle.run_promise.specs.Ends.{RunEnds}
use Rattle.std.specs.List.{All}
use Rattle.record_io.specs.declared.answers.Answer.{Answer}
use Rattle.record_io.specs.declared.code.TheConstants.{NO_MEMORY}

-- The whole input was read, each record was answered, End stands last, and the site has not failed.
pub record DidAll (call : CallSeen) (ends : RunEnds call) : Type 0 where
  pub told_is : ends.account.named ≡ Ended
  pub whole : IsTrue call.source.told → IsInput call.source.left ends.account.items Whole
  pub handled : HandledAll ends.account
  pub answered : AnsweredEach ends.account
  pub no_fault : call.site_after.faults ≡ call.site.faults
  pub none_failed : call.site_after.put_faults ≡ call.site.put_faults
  pub sunk : IsTrue call.told
      → call.site_after.trace.now.sunk ≡ call.site.trace.now.sunk ++ due_octets call ends.account

-- the run went on to the end of its input: it ended, is malformed, or the source failed
abbrev pub GoesToItsEnd : (call : CallSeen) → RunEnds call → Type 0
GoesToItsEnd call ends = (ends.account.came ≡ Ended) ⊎ (((offset : ℕ) × (ends.account.came ≡ Malformed offset))
    ⊎ (((count : ℕ) × (ends.account.came ≡ SourceFault count)) × Rose call.source.faults call.source_after.faults))

-- The status is that of the refused image, of a fault of the site, or of lack of memory; the image is as it was.
pub record IsLeftRefused (call : CallSeen) : Type 0 where
  pub status_is : (call.status ≡ status.NO_STATE)
      ⊎ ((call.status ≡ status.SITE_FAULT) ⊎ (call.status ≡ status.NO_MEMORY))
  pub image_is : call.site_after.trace.now.image ≡ image_at_entry call

-- behind an answer that says that the site failed, the one to an Open or a Command says that no entry was made
abbrev pub StopsBehind : Deed → Deed → Type 0
StopsBehind one other = InTurn one other → SaysSiteFailed one.answer → IsTrue (is_entered other.task.kind)
    → IsUnmade other.answer.code

-- the history is full: a record without an answer needs an entry, or all have one, and a release is due
pub record EndsWithFullHistory (call : CallSeen) (ends : RunEnds call) : Type 0 where
  pub full : length call.entries ≡ MOST_ENTRIES
  pub by : (ends.account.came ≡ SessionFull) ⊎ ((ends.account.came ≡ Ended) × (ends.account.named ≡ SessionFull))

-- Nothing can keep the run from its end but lack of memory: the image shows a state, no count rose, the input is whole
-- and well formed, and not too long for the history.
pub record IsUnhindered (call : CallSeen) (ends : RunEnds call) (plan : PlanLines) (state : State) : Type 0 where
  pub site_told : IsTrue call.told
  pub source_told : IsTrue call.source.told
  pub shows : ShowsAtEntry call plan state
  pub source_well : ¬ Rose call.source.faults call.source_after.faults
  pub site_well : ¬ Rose call.site.faults call.site_after.faults
  pub well_formed : (items : _) × IsInput call.source.left items Whole
  pub short : 2 * length (places_of ends.account.items) + MOST_KEYS < MOST_ENTRIES

-- for no record memory ran out
abbrev pub NoneWants : List Answer → Type 0
NoneWants answers = All (λ answer. answer.code ≢ NO_MEMORY) answers

-- none of the answers names a fault of the site or lack of memory: none is 31, 32 or 33
abbrev pub NoneFails : List Answer → Type 0
NoneFails answers = All (λ answer. (¬ SaysSiteFailed answer) × (answer.code ≢ NO_MEMORY)) answers

-- the site did not fail in the call
abbrev pub IsUnfailed : CallSeen → Type 0
IsUnfailed call = ¬ Rose call.site.faults call.site_after.faults

-- Two calls gave the same answers. If the site failed in neither, they made the same entries, with the releases; and
-- then, if they name one end, the same octets are due.
pub record AnswersAlike (call other : CallSeen) (account again : Account) : Type 0 where
  pub answers : again.answers ≡ account.answers
  pub entries : IsUnfailed call → IsUnfailed other → other.entries ≡ call.entries
  pub due : IsUnfailed call → IsUnfailed other → again.named ≡ account.named
      → due_octets other again ≡ due_octets call account

-- The sources of both calls failed, with one count of faults, behind the same records; the site did not fail.
pub record FailAlike (call other : CallSeen) (account again : Account) : Type 0 where
  pub status_is : call.status ≡ status.SOURCE_FAULT
  pub same_status : other.status ≡ status.SOURCE_FAULT
  pub count : other.source_after.faults ≡ call.source_after.faults
  pub handled : again.handled ≡ account.handled
  pub still : IsUnfailed call
  pub still_again : IsUnfailed other

-- Both calls have status 0; or both have status 3, and in neither the site failed, also not at a release; or both
-- sources failed alike.
abbrev pub EndAlike : CallSeen → CallSeen → Account → Account → Type 0
EndAlike call other account again = ((call.status ≡ status.DONE) × (other.status ≡ status.DONE))
    ⊎ (((call.status ≡ status.MALFORMED) × (other.status ≡ status.MALFORMED) × IsUnfailed call × IsUnfailed other)
    ⊎ FailAlike call other account again)

-- The first n records of two calls have the same answers, and made the same entries: with these both histories begin.
pub record FrontsAlike (call other : CallSeen) (account again : Account) (plan : PlanLines) (state : State)
    (n : ℕ) : Type 0 where
  pub answers : take n again.answers ≡ take n account.answers
  pub own : List Entry
  pub moves : List Move
  pub made : ServesAll (begin_of call plan state) false [] (take n (deeds_in account)) moves own
  pub begins : own ≡ take (length own) call.entries
  pub begins_again : own ≡ take (length own) other.entries

-- Two calls did the same: their answers and their entries are the same, and so are the octets that are due, with End's.
pub record RunsAlike (call other : CallSeen) (account again : Account) : Type 0 where
  pub answers : again.answers ≡ account.answers
  pub entries : other.entries ≡ call.entries
  pub due : due_octets other again ≡ due_octets call account
