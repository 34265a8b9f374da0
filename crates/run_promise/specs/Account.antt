-- What a run did, why it ended, and the end that End names (profile).
use Rattle.std.specs.Prelude.{◌≡◌, ◌⊎◌, ℕ, ◌<◌, ◌≤◌, nat_lt, if◌then◌else◌, List, [], ◌∷◌, ◌++◌, length, take, ⊤}
use Rattle.std.specs.Prelude.{IsTrue, slice_get, Some, None, Contains}
use Rattle.std.specs.List.{All}
use Rattle.sdls_base.specs.declared.TheConstants.{MOST_KEYS}
use Rattle.sdls_base.specs.declared.entry.Entry.{Entry}
use Rattle.sdls_base.specs.declared.entry.Seen.TheVariants.{Word}
use Rattle.sdls_outside.specs.Faults.{Rose}
use Rattle.sdls_outside.specs.Moments.{Between}
use Rattle.unit_plan.specs.PlanLines.{PlanLines}
use Rattle.unit_state.specs.declared.state.State.{State}
use Rattle.unit_image.specs.Shows.{ShowsNone}
use Rattle.record_io.specs.declared.answers.Answer.{Answer}
use Rattle.record_io.specs.declared.code.TheConstants.{END}
use Rattle.record_io.specs.declared.reader.RecordKind.TheVariants.{Monitor}
use Rattle.record_io.specs.Answers.{answer_octets, answers_octets}
use Rattle.record_io.specs.Input.{Item, IsInput, Whole, MalformedAt}
use Rattle.record_io.specs.Places.{Place, places_of, records_of}
use Rattle.record_io.specs.declared.status.TheConstants as status
use Rattle.run_promise.specs.Fits.{Course, MayAppend}
use Rattle.run_promise.specs.Call.{Begin, CallSeen, ShowsAtEntry, image_at_entry, sunk_since}
use Rattle.run_promise.specs.Deed.{Deed, deed_of, is_entered}
use Rattle.run_promise.specs.declared.end.RunEnd.{RunEnd}
use Rattle.run_promise.specs.declared.end.RunEnd.TheVariants.{Ended, Malformed, SourceFault, SiteFault, NoMemory}
use Rattle.run_promise.specs.declared.end.RunEnd.TheVariants.{NoState, SessionFull, PutFailed}
use Rattle.run_promise.specs.History.{NearWord, HasNoEntry}
use Rattle.run_promise.specs.declared.end.TheConstants.{MOST_ENTRIES}

-- ---- what a run did

-- What a run did: what ended it and the end that End names; the items that it read, with their octets and those taken
-- of a part behind them; the records that it handled and its one list of answers; and the site's count of faults when
-- the last answers had been put.
pub record Account : Type 0 where
  pub came : RunEnd
  pub named : RunEnd
  pub items : List Item
  pub read : List ℕ
  pub part : List ℕ
  pub handled : List Place
  pub answers : List Answer
  pub faults_when_put : ℕ

-- ---- the end

abbrev pub end_status : RunEnd → ℕ
end_status Ended = status.DONE
end_status (Malformed offset) = status.MALFORMED
end_status (SourceFault count) = status.SOURCE_FAULT
end_status (SiteFault count) = status.SITE_FAULT
end_status NoMemory = status.NO_MEMORY
end_status (NoState offset) = status.NO_STATE
end_status SessionFull = status.SESSION_FULL
end_status PutFailed = status.SITE_FAULT

-- the offset, or the count of faults
abbrev pub end_number : RunEnd → ℕ
end_number Ended = 0
end_number (Malformed offset) = offset
end_number (SourceFault count) = count
end_number (SiteFault count) = count
end_number NoMemory = 0
end_number (NoState offset) = offset
end_number SessionFull = 0
end_number PutFailed = 0

abbrev pub end_answer : RunEnd → ℕ → Answer
end_answer end entries =
    record { code = END; detail = end_status end; key = 0; position = entries; number = end_number end; body = [] }

-- the octets of End
abbrev pub end_octets : CallSeen → RunEnd → List ℕ
end_octets call told = answer_octets (end_answer told (length call.entries))

-- the octets that are due: those of the answers and of End
abbrev pub due_octets : CallSeen → Account → List ℕ
due_octets call account = answers_octets account.answers ++ end_octets call account.named

-- ---- records and answers

-- the places with their answers, as far as there are answers
abbrev pub deeds_from : List Place → List Answer → List Deed
deeds_from [] answers = []
deeds_from (place ∷ places) [] = []
deeds_from (place ∷ places) (answer ∷ answers) = deed_of place.segment place.task answer ∷ deeds_from places answers

abbrev pub deeds_in : Account → List Deed
deeds_in account = deeds_from account.handled account.answers

-- the places of the first segments
abbrev pub of_first : ℕ → List Place → List Place
of_first segments [] = []
of_first segments (place ∷ places) = if nat_lt place.segment segments then place ∷ of_first segments places else []

-- the answers to the places of the first segments
abbrev pub answers_of_first : ℕ → List Place → List Answer → List Answer
answers_of_first segments places answers = take (length (of_first segments places)) answers

-- all records of the items were handled
abbrev pub HandledAll : Account → Type 0
HandledAll account = account.handled ≡ places_of account.items

-- all but a Monitor record that ended the last segment, and was not handled
abbrev pub HandledButMonitor : Account → Type 0
HandledButMonitor account = (place : Place) × (place.task.kind ≡ Monitor)
    × (places_of account.items ≡ account.handled ++ place ∷ [])

abbrev pub HandledRead : Account → Type 0
HandledRead account = HandledAll account ⊎ HandledButMonitor account

-- those of the first segments were
abbrev pub HandledFirst : Account → Type 0
HandledFirst account = (segments : ℕ) × (account.handled ≡ of_first segments (places_of account.items))

abbrev pub AnsweredEach : Account → Type 0
AnsweredEach account = length account.answers ≡ length account.handled

-- Which records were handled, and which have answers, by what came: all records of the items; those of the first
-- segments, if memory ran out; none if the book was not opened. If the history is full, or a put failed,
-- all that were read were handled, but for a Monitor record that ended their segment, and some may lack an answer.
abbrev pub AreAnswered : Account → RunEnd → Type 0
AreAnswered account Ended = HandledAll account × AnsweredEach account
AreAnswered account (Malformed offset) = HandledAll account × AnsweredEach account
AreAnswered account (SourceFault count) = HandledAll account × AnsweredEach account
AreAnswered account NoMemory = HandledFirst account × AnsweredEach account
AreAnswered account SessionFull = HandledRead account × (length account.answers < length account.handled)
AreAnswered account PutFailed = HandledRead account × (length account.answers ≤ length account.handled)
AreAnswered account (SiteFault count) = (account.handled ≡ []) × (account.answers ≡ [])
AreAnswered account (NoState offset) = (account.handled ≡ []) × (account.answers ≡ [])

-- ---- what it began with

abbrev pub begin_of : CallSeen → PlanLines → State → Begin
begin_of call plan state = record {
  rows = MOST_KEYS;
  told = call.told;
  plan = plan;
  start = state;
}

abbrev pub course_of : CallSeen → Account → PlanLines → State → Course
course_of call account plan state = record {
  begin = begin_of call plan state;
  faults_before = call.site.faults;
  faults = account.faults_when_put;
  entries = call.entries;
}

-- ---- why it ended, and the end that is named

-- The history is full, and the first record without an answer needs an entry, or may need one. None was made of it, it
-- is of the last segment, and the site had not failed.
pub record IsFullAt (call : CallSeen) (account : Account) : Type 0 where
  pub full : length call.entries ≡ MOST_ENTRIES
  pub not_failed : ¬ Rose call.site.faults account.faults_when_put
  pub place : Place
  pub first : slice_get account.handled (length account.answers) ≡ Some place
  pub last_segment : All (λ other. other.segment ≤ place.segment) account.handled
  pub due : IsTrue call.told → (plan : PlanLines) (state : State) → ShowsAtEntry call plan state
      → IsTrue (is_entered place.task.kind)
      ⊎ MayAppend (NearWord state call.entries (records_of account.handled)) (course_of call account plan state)
      MOST_ENTRIES place.task
  pub unmade : HasNoEntry call.entries place.task.index

-- Why the reading ended. At the end of the input, or of its well-formed part, the source's count of faults stands where
-- it was. If the unit was not opened, nothing was entered, and nothing was taken of the source. A put that failed is a
-- fault of the site, counted before the keys are released.
abbrev pub CameBy : CallSeen → Account → RunEnd → Type 0
CameBy call account Ended = (account.part ≡ []) ×
    (IsTrue call.source.told → IsInput call.source.left account.items Whole)
    × (call.source_after.faults ≡ call.source.faults)
CameBy call account (Malformed offset) =
    (offset ≡ length account.read) × (IsTrue call.source.told
    → IsInput call.source.left account.items (MalformedAt offset))
    × (call.source_after.faults ≡ call.source.faults)
CameBy call account (SourceFault count) = Rose call.source.faults call.source_after.faults
    × (count ≡ call.source_after.faults)
CameBy call account (SiteFault count) = Rose call.site.faults account.faults_when_put
    × (count ≡ account.faults_when_put)
    × (call.entries ≡ []) × (call.source_after ≡ call.source)
CameBy call account NoMemory = ⊤
CameBy call account (NoState offset) = (IsTrue call.told → ShowsNone (image_at_entry call) offset)
    × (call.entries ≡ []) × (call.source_after ≡ call.source)
CameBy call account SessionFull = IsFullAt call account
CameBy call account PutFailed = (call.site.put_faults < call.site_after.put_faults)
    × Rose call.site.faults account.faults_when_put

-- behind an input that ended the release met a fault of the site, or found the history full
abbrev pub EndsByRelease : CallSeen → Account → Type 0
EndsByRelease call account =
    ((count : ℕ) × (account.named ≡ SiteFault count) × Rose account.faults_when_put count
    × (count ≤ call.site_after.faults))
    ⊎ ((account.named ≡ SessionFull) × (length call.entries ≡ MOST_ENTRIES))

-- The end that is named. A fault of the site that came before all answers were put is named in each case; else it is
-- what came, unless the input ended, and the release met something.
abbrev pub TellsEnd : CallSeen → Account → Type 0
TellsEnd call account =
    (Rose call.site.faults account.faults_when_put × (account.named ≡ SiteFault account.faults_when_put))
    ⊎ ((¬ Rose call.site.faults account.faults_when_put) × ((account.named ≡ account.came)
    ⊎ ((account.came ≡ Ended) × EndsByRelease call account)))

-- ---- faults that the status does not tell

-- the last entry is a release: it is of no record, and the word of a key was seen
pub record EndsWithRelease (entries : List Entry) : Type 0 where
  pub before : List Entry
  pub last : Entry
  pub entries_are : entries ≡ before ++ last ∷ []
  pub no_record : last.index ≡ None
  pub word : ℕ
  pub saw : last.seen ≡ Word word

-- this end is named, also where a release behind it meets a fault of the site
abbrev pub IsToldFirst : RunEnd → Type 0
IsToldFirst Ended = ⊥
IsToldFirst (Malformed offset) = ⊤
IsToldFirst (SourceFault count) = ⊤
IsToldFirst (SiteFault count) = ⊥
IsToldFirst NoMemory = ⊤
IsToldFirst (NoState offset) = ⊥
IsToldFirst SessionFull = ⊥
IsToldFirst PutFailed = ⊥

-- The site's count of faults stood; or behind the end that is named a release met a fault, and is the last entry.
abbrev pub StoodUntilRelease : CallSeen → Account → Type 0
StoodUntilRelease call account = (call.site_after.faults ≡ call.site.faults)
    ⊎ (IsToldFirst account.came × EndsWithRelease call.entries)

-- ---- puts

-- no put failed: all that is due was put, and the status is that of the end
pub record PutsDue (call : CallSeen) (account : Account) : Type 0 where
  pub none_failed : call.site_after.put_faults ≡ call.site.put_faults
  pub status_is : call.status ≡ end_status account.named
  pub sunk : IsTrue call.told
      → call.site_after.trace.now.sunk ≡ call.site.trace.now.sunk ++ due_octets call account

-- A put failed: a front of what is due was put, and the status is that of a fault of the site. A record was handled
-- only once all answers of the segments before its own were put.
pub record PutsFront (call : CallSeen) (account : Account) : Type 0 where
  pub one_failed : call.site.put_faults < call.site_after.put_faults
  pub status_is : call.status ≡ status.SITE_FAULT
  pub rose : Rose call.site.faults call.site_after.faults
  pub sunk : IsTrue call.told
      → Between call.site.trace.now.sunk (call.site.trace.now.sunk ++ due_octets call account)
      call.site_after.trace.now.sunk
  pub earlier : IsTrue call.told → (place : Place) → Contains account.handled place
      → length (answers_octets (answers_of_first place.segment account.handled account.answers))
      ≤ length (sunk_since call call.site_after.trace.now.sunk)
