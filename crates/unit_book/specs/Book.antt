-- What a book is seen as, and what holds of it between its calls.
use Rattle.std.specs.Prelude.{◌≡◌, ℕ, ◌+◌, ◌<◌, ◌≤◌, ◌⊎◌, min, Bool, IsTrue, if◌then◌else◌, List, [], ◌∷◌, ◌++◌, length}
use Rattle.std.specs.Prelude.{take}
use Rattle.sdls_base.specs.declared.entry.Change.{Change}
use Rattle.sdls_base.specs.declared.entry.Entry.{Entry}
use Rattle.sdls_base.specs.declared.entry.Logged.{Logged}
use Rattle.sdls_base.specs.declared.entry.Logged.TheVariants as logged
use Rattle.sdls_outside.specs.Disk.{Leaves}
use Rattle.sdls_outside.specs.Faults.{Rose}
use Rattle.sdls_outside.specs.Moments.{Trace, EachMoment, Between}
use Rattle.unit_image.specs.Image.{held, IsAtRest, IsSettled, JournalView, KeepsBeside}
use Rattle.unit_image.specs.Storing.{LeavesRest, LeavesRestImage}
use Rattle.unit_plan.specs.PlanLines.{PlanLines}
use Rattle.unit_state.specs.declared.state.State.{State}
use Rattle.unit_state.specs.State.{KeepsRules}
use Rattle.unit_state.specs.Applied.{applied}
use Rattle.unit_state.specs.Restart.{restarted, counts, IsLight}
use Rattle.unit_state.specs.History.{after_all, after_first, epoch_after}
use Rattle.unit_image.specs.Shows.{Shows}
use Rattle.unit_book.specs.declared.fault.BookFault.{BookFault}
use Rattle.unit_book.specs.declared.fault.BookFault.TheVariants.{SiteFault, Stopped, SessionFull, NoMemory}
use Rattle.run_promise.specs.declared.end.TheConstants.{MOST_ENTRIES}
use Rattle.unit_book.specs.declared.book.Next.{Next}
use Rattle.unit_book.specs.declared.book.Next.TheVariants.{Here, Then}
use Rattle.run_promise.specs.Log.{entries_of, pieces_of, IsStored}
use Rattle.run_promise.specs.Sound.{HasPlan, ShowsAfter}
use Rattle.run_promise.specs.Call.{SiteSeen}
use Rattle.unit_book.specs.Marks.{HasNoRelease, KeepsMarks}

-- The site, and what it was when `open` returned; the image as it was read, its plan, and the state that it showed; the
-- state now; the journal; the log; how many entries of the log stand: all, but for a last one whose append failed; how
-- many of those count for the epoch.
pub record BookView : Type 0 where
  pub site : SiteSeen
  pub opened : SiteSeen
  pub image : List ℕ
  pub plan : PlanLines
  pub start : State
  pub state : State
  pub journal : JournalView
  pub log : List Logged
  pub standing : ℕ
  pub changes : ℕ

-- the image shows the state after so many entries, or after more
abbrev pub ShowsFrom : State → List Entry → ℕ → List ℕ → Type 0
ShowsFrom start entries least image = (p : ℕ) × (least ≤ p) × ShowsAfter start entries p image

-- A moment while the book serves: a place of the log, or its end. The octets sunk are those of the pieces before the
-- place, and a front of the piece at it. The image shows the state after at least the entries before it that stand, and
-- none that stands behind the place.
pub record Serves (start : State) (log : List Logged) (standing : ℕ) (before image sunk : List ℕ) : Type 0 where
  pub place : ℕ
  pub within : place ≤ length log
  pub sinks : Between (before ++ pieces_of (take place log)) (before ++ pieces_of (take (place + 1) log)) sunk
  pub shows : ShowsFrom start (entries_of (take (place + 1) log)) (min (length (entries_of (take place log))) standing)
      image

-- no gate was closed: each image that a crash may leave, then or now, is at rest
pub record IsIdle (opened now : Trace) : Type 0 where
  pub moments : EachMoment opened now (λ image sunk. IsAtRest image)
  pub rests_now : (image : List ℕ) → Leaves now.now image → IsAtRest image

-- The run from the opening to now. As long as it has no entry, the image is at rest.
pub record IsHistory (opened now : Trace) (start : State) (log : List Logged) (standing : ℕ) : Type 0 where
  pub sunk : now.now.sunk ≡ opened.now.sunk ++ pieces_of log
  pub moments : EachMoment opened now (Serves start log standing opened.now.sunk)
  pub shows_now : (image : List ℕ) → Leaves now.now image → ShowsFrom start (entries_of log) standing image
  pub idle : entries_of log ≡ [] → IsIdle opened now

-- the image shows all entries, and the next can be stored
pub record IsCurrent (now : Trace) (start : State) (journal : JournalView) (entries : List Entry) : Type 0 where
  pub settled : IsSettled now journal
  pub shows : Shows now.now.image (restarted (after_all start entries))

-- outside its banks the image is the one that the opening left, and its plan has the octets that were read
pub record IsAsOpened (read opened now : List ℕ) (journal : JournalView) : Type 0 where
  pub beside : KeepsBeside journal.layout opened now
  pub same_plan : (held now).plan ≡ (held read).plan

-- What holds of a book between its calls.
pub record IsKept (told : Bool) (book : BookView) : Type 0 where
  pub later : book.opened.faults ≤ book.site.faults
  pub stands : book.standing ≤ length (entries_of book.log)
  -- one entry at most was left out
  pub few_left : length (entries_of book.log) ≤ book.standing + 1
  pub led : book.state ≡ after_first book.start (entries_of book.log) book.standing
  pub begins : KeepsRules book.start
  pub rules : KeepsRules book.state
  pub marks : HasNoRelease (entries_of book.log) → KeepsMarks book.start book.state
  pub room : length (entries_of book.log) ≤ MOST_ENTRIES
  pub epoch : book.changes ≡ epoch_after (take book.standing (entries_of book.log))
  pub whole : ¬ Rose book.opened.faults book.site.faults → book.standing ≡ length (entries_of book.log)
  pub history : IsTrue told → IsHistory book.opened.trace book.site.trace book.start book.log book.standing
  pub current : IsTrue told → ¬ Rose book.opened.faults book.site.faults
      → IsCurrent book.site.trace book.start book.journal (entries_of book.log)
  -- at each moment, whatever failed, the image has the plan that was read
  pub plan_stays : IsTrue told
      → EachMoment book.opened.trace book.site.trace (λ image sunk. HasPlan (held book.image).plan image)
  pub outside : IsTrue told → ¬ Rose book.opened.faults book.site.faults
      → IsAsOpened book.image book.opened.trace.now.image book.site.trace.now.image book.journal

-- In whatever a crash leaves, each octet of all banks is stated: they hold the state, with no records. So is each octet
-- of the image, if the one that the opening left had a plan alone outside its banks.
pub record LeavesStateAlone (book : BookView) : Type 0 where
  pub banks : LeavesRest book.site.trace book.journal book.state
  pub whole : LeavesRestImage book.opened.trace.now.image book.site.trace book.journal book.state

-- The site has not failed since the opening, and there is room for an entry.
abbrev pub CanEnter : BookView → Type 0
CanEnter book = ¬ Rose book.opened.faults book.site.faults × (length (entries_of book.log) < MOST_ENTRIES)

-- the entry is made, and its change with it
abbrev pub entered : Entry → BookView → BookView
entered entry book = record book {
  state = applied book.state entry.change;
  log = book.log ++ logged.Entry entry ∷ [];
  standing = book.standing + 1;
  changes = book.changes + (if counts entry.change then 1 else 0);
}

-- the entry is the last of the run; its append failed, and the image may hold it or not
abbrev pub left_out : Entry → BookView → BookView
left_out entry book = record book { log = book.log ++ logged.Entry entry ∷ [] }

-- this was put, or a front of it
abbrev pub with_put : List ℕ → BookView → BookView
with_put piece book = record book { log = book.log ++ logged.Piece piece ∷ [] }

-- Why a call is refused before it is looked at: the site failed since the opening, or the run has as many entries as it
-- may.
abbrev pub IsBarred : BookView → BookFault → Type 0
IsBarred book (Stopped count) = Rose book.opened.faults book.site.faults × (count ≡ book.site.faults)
IsBarred book SessionFull = ¬ Rose book.opened.faults book.site.faults
    × (length (entries_of book.log) ≡ MOST_ENTRIES)
IsBarred book (SiteFault count) = ⊥
IsBarred book NoMemory = ⊥

-- Why an entry that may be made is not, and what that leaves. After a fault of the site it is the last of the run.
abbrev pub IsUnstored : Entry → BookView → BookView → BookFault → Type 0
IsUnstored entry old new (SiteFault count) =
    IsTrue (IsStored old.state entry) × Rose old.site.faults new.site.faults × (count ≡ new.site.faults)
    × (new ≡ left_out entry (record old { site = new.site }))
IsUnstored entry old new (Stopped count) = ⊥
IsUnstored entry old new SessionFull = ⊥
IsUnstored entry old new NoMemory = ⊥

-- how the next state comes about: by a change that takes no memory, or as this one
abbrev pub IsNextState : State → Change → Next → Type 0
IsNextState state change Here = IsLight change
IsNextState state change (Then next) = next ≡ applied state change

-- the entry was made, and its change with it
pub record Enters (entry : Entry) (old new : BookView) (position : ℕ) : Type 0 where
  pub site : SiteSeen
  pub journal : JournalView
  pub is : new ≡ entered entry (record old { site = site; journal = journal })
  pub position_is : position ≡ length (entries_of new.log)

-- a put fails only by a fault of the site, which the answer counts
abbrev pub PutFails : ℕ → ℕ → BookFault → Type 0
PutFails before now (SiteFault count) = Rose before now × (count ≡ now)
PutFails before now (Stopped count) = ⊥
PutFails before now SessionFull = ⊥
PutFails before now NoMemory = ⊥

-- Why a call that makes this entry is refused, in the order of the refusals. Barred, the book is as it was.
abbrev pub Refuses : Entry → BookView → BookView → BookFault → Type 0
Refuses entry old new fault =
    (IsBarred old fault × (new ≡ old)) ⊎ (CanEnter old × IsUnstored entry old new fault)

-- the call made this entry, and answers its position
abbrev pub Made : Entry → BookView → BookView → ℕ → Type 0
Made entry old new position = CanEnter old × Enters entry old new position

-- a book that begins, over a site whose image shows this state
abbrev pub begun : SiteSeen → List ℕ → PlanLines → State → JournalView → BookView
begun site image plan start journal = record {
  site = site;
  opened = site;
  image = image;
  plan = plan;
  start = start;
  state = start;
  journal = journal;
  log = [];
  standing = 0;
  changes = 0;
}
