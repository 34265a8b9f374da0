-- How a run ends, that it is sound, and what then stands in the image (profile).
use Rattle.std.specs.Prelude.{◌≡◌, ◌⊎◌, ℕ, ◌+◌, ◌≤◌, List, [], length, ◌≢◌, ◌<◌, IsTrue, take, drop, slice_get}
use Rattle.std.specs.Prelude.{slice_index, Some, Contains}
use Rattle.std.specs.List.{All}
use Rattle.sdls_base.specs.declared.entry.Entry.{Entry}
use Rattle.sdls_base.specs.declared.TheConstants.{MOST_KEYS}
use Rattle.sdls_outside.specs.Faults.{Rose}
use Rattle.sdls_outside.specs.Disk.{Leaves}
use Rattle.sdls_outside.specs.Moments.{EachMoment}
use Rattle.unit_plan.specs.PlanLines.{PlanLines}
use Rattle.key_book.specs.KeyBook.{place_of}
use Rattle.unit_state.specs.declared.state.State.{State}
use Rattle.unit_state.specs.Restart.{restarted}
use Rattle.unit_state.specs.History.{after_all, after_first}
use Rattle.unit_image.specs.Image.{held, IsSettled, JournalView}
use Rattle.unit_image.specs.Shows.{Shows, ShowsNone}
use Rattle.unit_image.specs.OpeningImage.{LeftByOpening}
use Rattle.record_io.specs.Answers.{IsAnswer, answers_octets}
use Rattle.record_io.specs.Places.{Place, records_of}
use Rattle.record_io.specs.Reading.{HasTaken}
use Rattle.record_io.specs.declared.status.TheConstants as status
use Rattle.run_promise.specs.declared.end.RunEnd.TheVariants.{SiteFault, NoMemory, Ended, NoState, SessionFull}
use Rattle.run_promise.specs.Call.{CallSeen, ShowsAtEntry, image_at_entry, plan_at_entry, sunk_since}
use Rattle.run_promise.specs.Account.{Account, AreAnswered, answers_of_first, course_of, deeds_in, end_answer}
use Rattle.run_promise.specs.Account.{end_octets, CameBy}
use Rattle.run_promise.specs.Account.{TellsEnd, StoodUntilRelease, PutsDue, PutsFront}
use Rattle.run_promise.specs.Sound.{ShowsAfter, AreReported, HasPlan, IsSound, SoundMoment}
use Rattle.run_promise.specs.Numbers.{releases}
use Rattle.run_promise.specs.Answers.{SaysSiteFailed, Uses}
use Rattle.run_promise.specs.History.{NearWord}
use Rattle.run_promise.specs.declared.end.TheConstants.{MOST_ENTRIES}
use Rattle.run_promise.specs.OneLane.{OneLane, IsExact}
use Rattle.run_promise.specs.declared.end.RunEnd.{RunEnd}
use Rattle.run_promise.specs.Words.{MovedWords}
use Rattle.run_promise.specs.Deed.{tells_count}

-- ---- what stands in the image at the exit

-- The opening of the image did not come to its end: the site failed in it, or memory ran out. Nothing was read, and no
-- entry was made.
pub record IsUnopened (call : CallSeen) (account : Account) : Type 0 where
  pub came_is : ((count : ℕ) × (account.came ≡ SiteFault count)) ⊎ (account.came ≡ NoMemory)
  pub source_is : call.source_after ≡ call.source
  pub no_entries : call.entries ≡ []

-- the image shows the state after all entries, or after all but the last
abbrev pub LacksLastAtMost : State → List Entry → List ℕ → Type 0
LacksLastAtMost start entries image = (p : ℕ) × (length entries ≤ p + 1) × ShowsAfter start entries p image

-- The image showed this state at the entry. What stands in it at the exit, and what a crash there may leave.
pub record StandsAtExit (call : CallSeen) (account : Account) (state : State) : Type 0 where
  -- if the site did not fail, the image shows the state after all entries, the releases among them
  pub stands : ¬ Rose call.site.faults call.site_after.faults
      → Shows call.site_after.trace.now.image (restarted (after_all state call.entries))
  -- all of it is then on the disk, its closed gates are 0, and so are the octets of the other bank and of old banks
  pub rests : ¬ Rose call.site.faults call.site_after.faults
      → IsUnopened call account ⊎ ((journal : JournalView) × IsSettled call.site_after.trace journal)
  -- the plan in the image is then the one at the entry, octet for octet, if the opening came to its end
  pub same_plan : ¬ Rose call.site.faults call.site_after.faults
      → IsUnopened call account ⊎ ((held call.site_after.trace.now.image).plan ≡ plan_at_entry call)
  -- whatever failed, a crash leaves an image that shows all entries but the last at least
  pub stored : IsUnopened call account
      ⊎ ((image : List ℕ) → Leaves call.site_after.trace.now image → LacksLastAtMost state call.entries image)

-- ---- the end

-- An early moment: what a crash then leaves of the image, one at the entry may leave too, and nothing but End was sunk.
pub record IsEarly (call : CallSeen) (told : RunEnd) (image sunk : List ℕ) : Type 0 where
  pub leaves : Leaves call.site.trace.now image
  pub only_end : sunk_since call sunk ≡ take (length (sunk_since call sunk)) (end_octets call told)

-- a moment of a run that served is sound
abbrev pub IsServed : CallSeen → Account → PlanLines → State → List ℕ → List ℕ → Type 0
IsServed call account plan state image sunk = SoundMoment (course_of call account plan state)
    (deeds_in account) (end_octets call account.named) (image_at_entry call) image (sunk_since call sunk)

-- A segment is answered before the next one is handled. The image and its opened forms show no more than the first
-- `most`
-- entries. Where one of these is of a record, all octets of the answers of the segments before the record's were sunk.
pub record IsFenced (call : CallSeen) (account : Account) (state : State) (image sunk : List ℕ) : Type 0 where
  pub most : ℕ
  pub p : ℕ
  pub shows : ShowsAfter state (take most call.entries) p image
  pub answered : (place : Place) (at : ℕ) (entry : Entry) → Contains account.handled place → at < most
      → slice_get call.entries at ≡ Some entry → entry.index ≡ Some place.task.index
      → length (answers_octets (answers_of_first place.segment account.handled account.answers))
      ≤ length (sunk_since call sunk)

-- The run is sound, and each of its moments is so, or early. Each moment behind the opening is fenced. At each moment
-- that is not early the plan in the image is the one at the entry. The fields of its End have their widths.
pub record IsSoundCall (call : CallSeen) (account : Account) (plan : PlanLines) (state : State) : Type 0 where
  pub run : IsSound (course_of call account plan state) account.handled (deeds_in account)
  pub moments : EachMoment call.site.trace call.site_after.trace
      (λ image sunk. IsEarly call account.named image sunk ⊎ IsServed call account plan state image sunk)
  pub fences : EachMoment call.site.trace call.site_after.trace
      (λ image sunk. IsEarly call account.named image sunk
      ⊎ (LeftByOpening (image_at_entry call) image ⊎ IsFenced call account state image sunk))
  pub same_plan : EachMoment call.site.trace call.site_after.trace
      (λ image sunk. IsEarly call account.named image sunk ⊎ HasPlan (plan_at_entry call) image)
  pub end_widths : IsAnswer (end_answer account.named (length call.entries))

-- the releases that are due behind the entries of the lanes, by these words `next` of the rows
abbrev pub due_releases : CallSeen → State → ℕ → List ℕ → List Entry
due_releases call state ends words = releases (after_first state call.entries ends) 0 words

-- The releases behind the entries of the lanes: those that are due, up to the first that was refused; none if the site
-- had failed before, or a record found the history full. One is refused only if the site fails or the history is full.
pub record IsReleased (call : CallSeen) (account : Account) (state : State) (ends : ℕ) : Type 0 where
  pub words : List ℕ
  pub rows : length words ≡ MOST_KEYS
  pub count : ℕ
  pub are_due : drop ends call.entries ≡ take count (due_releases call state ends words)
  pub stopped : Rose call.site.faults account.faults_when_put → length call.entries ≡ ends
  pub filled : account.came ≡ SessionFull → length call.entries ≡ ends
  pub refused : count < length (due_releases call state ends words)
      → Rose call.site.faults call.site_after.faults ⊎ (length call.entries ≡ MOST_ENTRIES)
  -- where all records were answered, a full history is told of a release that is due
  pub full : account.came ≡ Ended → account.named ≡ SessionFull → count < length (due_releases call state ends words)
  -- no count that is told has one of them
  pub uncounted : All (λ deed. IsTrue (tells_count deed) → deed.answer.position ≤ ends) (deeds_in account)
  -- the words are the marks at the start and what the records' moves added, and each reserve is of a number drawn so
  pub moved : MovedWords call account state ends words
  -- Each word can have stood in its row: it is no lower than the key's mark at the start, and above it, or above a
  -- number that was asked for, by no more than one a record that can draw. It is above each number that an answer used.
  -- What `moved` says is not enough for it, since moves have no order there. Two records that each raise a word from 5
  -- to 10 would add 10 to it, and the word would be 15.
  pub near : (key row : ℕ) → place_of (after_first state call.entries ends).keys key ≡ Some row
      → NearWord state call.entries (records_of account.handled) key (slice_index words row)
  pub above : All (λ deed. (key number row : ℕ) → Uses deed.answer key number
      → place_of (after_first state call.entries ends).keys key ≡ Some row → number < slice_index words row)
      (deeds_in account)

-- The image at the entry shows this state of this plan: the run is sound, the keys are released, and one lane alone is
-- exact. At the exit the image shows what the entries made of it.
pub record ServesSoundly (call : CallSeen) (account : Account) (plan : PlanLines) (state : State) : Type 0 where
  pub sound : IsSoundCall call account plan state
  pub released : IsReleased call account state sound.run.history.run.ends
  pub exact : OneLane (records_of account.handled)
      → IsExact call account plan state released.words sound.run.history.run.ends
  pub exit : StandsAtExit call account state

-- why the book over a refused image was not opened: that the image shows no state, a fault of the site, or want of
-- memory
abbrev pub IsOpenRefusal : ℕ → RunEnd → Type 0
IsOpenRefusal offset came = (came ≡ NoState offset) ⊎ (((count : ℕ) × (came ≡ SiteFault count)) ⊎ (came ≡ NoMemory))

-- A refused image: no book was opened, so nothing was taken of the source, and nothing is put but End. The image is as
-- it was, and each moment is early.
pub record IsRefused (call : CallSeen) (account : Account) (offset : ℕ) : Type 0 where
  pub came_is : IsOpenRefusal offset account.came
  pub source_is : call.source_after ≡ call.source
  pub no_entries : call.entries ≡ []
  pub image_is : call.site_after.trace.now.image ≡ image_at_entry call
  pub moments : EachMoment call.site.trace call.site_after.trace (IsEarly call account.named)

-- ---- how a run ends

-- the image at the entry shows a state of a plan, and from it the call served soundly
pub record HasServed (call : CallSeen) (account : Account) : Type 0 where
  pub plan : PlanLines
  pub state : State
  pub shows : ShowsAtEntry call plan state
  pub serves : ServesSoundly call account plan state

-- the image at the entry shows no state, and was refused with the offset of the first check that fails
pub record HasRefused (call : CallSeen) (account : Account) : Type 0 where
  pub offset : ℕ
  pub shows_none : ShowsNone (image_at_entry call) offset
  pub refuses : IsRefused call account offset

-- How a run ends, over its account.
pub record RunEnds (call : CallSeen) : Type 0 where
  pub account : Account
  pub takes : HasTaken call.source call.source_after account.items account.read account.part
  pub answered : AreAnswered account account.came
  pub cause : CameBy call account account.came
  pub tells : TellsEnd call account
  pub put : PutsDue call account ⊎ PutsFront call account
  pub faults_told : All (λ answer. SaysSiteFailed answer → Rose call.site.faults account.faults_when_put)
      account.answers
  -- the counts of faults in their order; with another status than that of a fault of the site its count stood, but for
  -- a fault that a release met
  pub last_later : call.site.faults ≤ account.faults_when_put
  pub after_later : account.faults_when_put ≤ call.site_after.faults
  pub quiet : call.status ≢ status.SITE_FAULT → StoodUntilRelease call account
  pub bounded : length call.entries ≤ MOST_ENTRIES
  -- each monitoring message has the answer of the log of the answers before it, whatever the site shows
  pub reports : AreReported [] (deeds_in account)
  -- by what the image at the entry shows: there is no third case
  pub by_image : IsTrue call.told → HasServed call account ⊎ HasRefused call account
