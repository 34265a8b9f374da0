-- A life of the unit: runs one after the other, each from what a crash at a moment of the one before left; and what a
-- call adds to it (profile).
use Rattle.std.specs.Prelude.{◌≡◌, ◌≢◌, ◌⊎◌, ⊤, ℕ, ◌-◌, nat_lt, if◌then◌else◌, List, [], ◌∷◌, ◌++◌, length, IsSomeAnd}
use Rattle.std.specs.Prelude.{Ok, IsTrue}
use Rattle.std.specs.List.{AllPairs}
use Rattle.sdls_outside.specs.Disk.{Leaves}
use Rattle.sdls_outside.specs.Moments.{EachMoment}
use Rattle.unit_plan.specs.Plan.{plan_of}
use Rattle.unit_plan.specs.PlanLines.{PlanLines}
use Rattle.unit_state.specs.declared.state.State.{State}
use Rattle.unit_state.specs.State.{key_row}
use Rattle.unit_image.specs.Image.{held, HasOneClosed, IsOpenedForm}
use Rattle.unit_image.specs.Beginning.{SaysPlan, image_of_plan}
use Rattle.unit_image.specs.Shows.{Shows}
use Rattle.record_io.specs.declared.reader.RecordKind.{RecordKind}
use Rattle.record_io.specs.declared.reader.RecordKind.TheVariants.{Protect, Open, Command, Monitor}
use Rattle.record_io.specs.declared.answers.Answer.{Answer}
use Rattle.record_io.specs.declared.code.TheConstants.{END}
use Rattle.record_io.specs.Answers.{IsAnswer, answer_octets}
use Rattle.record_io.specs.Places.{Place}
use Rattle.run_promise.specs.Answers.{Uses, Accepts}
use Rattle.run_promise.specs.Fits.{Course, state_in, state_before}
use Rattle.run_promise.specs.Deed.{Deed}
use Rattle.run_promise.specs.Sound.{IsSound, SoundMoment}
use Rattle.run_promise.specs.declared.end.RunEnd.TheVariants.{Ended}
use Rattle.run_promise.specs.Account.{Account, course_of, deeds_in, end_octets}
use Rattle.run_promise.specs.Call.{CallSeen, ShowsAtEntry, image_at_entry, sunk_since}
use Rattle.run_promise.specs.Ends.{IsEarly, RunEnds}

-- ---- the life

-- A run of a life: the image at its start; its course, its records, and its answers with the octets of End; the image
-- and the octets sunk at the moment at which it ended.
pub record LifeRun : Type 0 where
  pub start : List ℕ
  pub course : Course
  pub places : List Place
  pub deeds : List Deed
  pub ends : List ℕ
  pub image : List ℕ
  pub sunk : List ℕ

-- the octets of one End, whose fields have their widths, or none
abbrev pub AreEnd : List ℕ → Type 0
AreEnd octets = (octets ≡ []) ⊎ ((end : Answer) × IsAnswer end × (end.code ≡ END) × (octets ≡ answer_octets end))

-- The image at its start says the plan and shows the state that it began with; behind its answers the octets of one End
-- are due, or none; the run is sound, and so is the moment at which it ended.
pub record IsRun (run : LifeRun) : Type 0 where
  pub says : plan_of (held run.start).plan ≡ Ok run.course.begin.plan
  pub shows : Shows run.start run.course.begin.start
  pub ended : AreEnd run.ends
  pub sound : IsSound run.course run.places run.deeds
  pub moment : SoundMoment run.course run.deeds run.ends run.start run.image run.sunk

-- each run starts from the image that the one before left
abbrev pub FollowFrom : List ℕ → List LifeRun → Type 0
FollowFrom image [] = ⊤
FollowFrom image (run ∷ runs) = (run.start ≡ image) × IsRun run × FollowFrom run.image runs

-- the image that `init` makes of a plan
abbrev pub IsInitial : List ℕ → Type 0
IsInitial image = (text : List ℕ) × (plan : PlanLines) × (first : State) × SaysPlan text plan first
    × (image ≡ image_of_plan text plan first)

-- The image shows a state, and so does each of its opened forms; at most one closed gate of it is other than 0. Each
-- image at rest that shows a state is such, of version 1 or 2, and so is the one that `init` makes.
pub record IsBeginning (image : List ℕ) : Type 0 where
  pub shows : (state : State) × Shows image state
  pub forms : (form : List ℕ) → IsOpenedForm image form → (state : State) × Shows form state
  pub settled : HasOneClosed image

-- the first run starts from such an image
pub record IsLife (image : List ℕ) (runs : List LifeRun) : Type 0 where
  pub begins : IsBeginning image
  pub follow : FollowFrom image runs

-- the image that the runs left
abbrev pub left_by : List ℕ → List LifeRun → List ℕ
left_by image [] = image
left_by image (run ∷ runs) = left_by run.image runs

-- an answer of a run
pub record Given : Type 0 where
  pub course : Course
  pub deed : Deed

-- the answers of which an octet is among the first count octets
abbrev pub answers_begun : ℕ → List Deed → List Deed
answers_begun count [] = []
answers_begun count (deed ∷ deeds) = if nat_lt 0 count then deed
    ∷ answers_begun (count - length (answer_octets deed.answer)) deeds else []

abbrev pub given_of : Course → List Deed → List Given
given_of course [] = []
given_of course (deed ∷ deeds) = record { course = course; deed = deed } ∷ given_of course deeds

-- the answers of all runs that were begun at the moments at which these ended
abbrev pub given_in : List LifeRun → List Given
given_in [] = []
given_in (run ∷ runs) = given_of run.course (answers_begun (length run.sunk) run.deeds) ++ given_in runs

-- the state in which an answer that uses a number found its key: that of its epoch, or the one before its own entry; no
-- answer to a Monitor record uses one
abbrev pub state_told : RecordKind → Course → Answer → State
state_told Protect course answer = state_in course answer.position
state_told Open course answer = state_before course answer
state_told Command course answer = state_before course answer
state_told Monitor course answer = course.begin.start

-- the answer uses the number under a key that had these octets
pub record UsesOctets (given : Given) (key : ℕ) (octets : List ℕ) (number : ℕ) : Type 0 where
  pub uses_number : Uses given.deed.answer key number
  pub some : octets ≢ []
  pub has : IsSomeAnd (key_row (state_told given.deed.task.kind given.course given.deed.answer) key)
      (λ held. held.bytes ≡ octets)

-- the answer accepts the number under a key that had these octets
pub record AcceptsOctets (given : Given) (key : ℕ) (octets : List ℕ) (number : ℕ) : Type 0 where
  pub accepts_number : Accepts given.deed.answer key number
  pub some : octets ≢ []
  pub has : IsSomeAnd (key_row (state_before given.course given.deed.answer) key) (λ held. held.bytes ≡ octets)

-- Two answers of a life: they use no number under one key, and accept none under one key, by identifier or by octets.
pub record AreApart (one other : Given) : Type 0 where
  pub by_identifier : (key number : ℕ) → Uses one.deed.answer key number → Uses other.deed.answer key number → ⊥
  pub by_octets : (a b : ℕ) (octets : List ℕ) (number : ℕ) → UsesOctets one a octets number
      → UsesOctets other b octets number → ⊥
  pub accepted : (key number : ℕ) → Accepts one.deed.answer key number → Accepts other.deed.answer key number → ⊥
  pub accepted_octets : (a b : ℕ) (octets : List ℕ) (number : ℕ) → AcceptsOctets one a octets number
      → AcceptsOctets other b octets number → ⊥

abbrev pub OnceInLife : List LifeRun → Type 0
OnceInLife runs = AllPairs AreApart (given_in runs)

-- ---- what a call adds to it

-- the call as a run of a life: its own records and answers, and the octets due behind them; a crash at the moment at
-- which it ended left this image, and these octets were sunk
abbrev pub run_of : CallSeen → Account → PlanLines → State → List ℕ → List ℕ → List ℕ → LifeRun
run_of call account plan state ends left sunk = record {
  start = image_at_entry call;
  course = course_of call account plan state;
  places = account.handled;
  deeds = deeds_in account;
  ends = ends;
  image = left;
  sunk = sunk;
}

-- The run continues the life, in which still no two uses and no two acceptances are of one key and number.
pub record LivesOn (image : List ℕ) (runs : List LifeRun) (run : LifeRun) : Type 0 where
  pub life : IsLife image (runs ++ run ∷ [])
  pub once : OnceInLife (runs ++ run ∷ [])

-- The image that the life left, with which the call begins, says a plan and shows a state. From these, each moment of
-- the call that is not early adds the call itself to the life, as a run.
pub record AddsCall (call : CallSeen) (account : Account) (image : List ℕ) (runs : List LifeRun) : Type 0 where
  pub plan : PlanLines
  pub state : State
  pub shows : ShowsAtEntry call plan state
  pub moments : EachMoment call.site.trace call.site_after.trace
      (λ left sunk. IsEarly call account.named left sunk
      ⊎ LivesOn image runs (run_of call account plan state (end_octets call account.named) left (sunk_since call sunk)))

-- the call does so for every life that has left the image at its entry
abbrev pub KeepsLives : CallSeen → Account → Type 0
KeepsLives call account = IsTrue call.told → (image : List ℕ) (runs : List LifeRun) → IsLife image runs
    → left_by image runs ≡ image_at_entry call → AddsCall call account image runs

-- How a call of `run` ends, and what it adds to each life that left the image at its entry.
pub record EndsAndLives (call : CallSeen) : Type 0 where
  pub ends : RunEnds call
  pub lives : KeepsLives call ends.account

-- ---- calls that read an image and store nothing

-- such a call did nothing
abbrev pub no_account : CallSeen → Account
no_account call = record {
  came = Ended;
  named = Ended;
  items = [];
  read = [];
  part = [];
  handled = [];
  answers = [];
  faults_when_put = call.site.faults;
}

-- The same for a call that reads an image and stores nothing: it stands in the life as a run without records, which
-- sinks nothing; or a crash left what one at its entry may leave.
pub record AddsReading (call : CallSeen) (image : List ℕ) (runs : List LifeRun) : Type 0 where
  pub plan : PlanLines
  pub state : State
  pub shows : ShowsAtEntry call plan state
  pub moments : EachMoment call.site.trace call.site_after.trace
      (λ left sunk. Leaves call.site.trace.now left
      ⊎ LivesOn image runs (run_of call (no_account call) plan state [] left []))

abbrev pub KeepsLivesReading : CallSeen → Type 0
KeepsLivesReading call = IsTrue call.told → (image : List ℕ) (runs : List LifeRun) → IsLife image runs
    → left_by image runs ≡ image_at_entry call → AddsReading call image runs
