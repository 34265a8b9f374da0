-- What a worker did, with the answers that it gave (profile).
use Rattle.std.specs.Prelude.{◌≡◌, ◌≢◌, ℕ, ◌+◌, ◌-◌, ◌<◌, ◌≤◌, IsTrue, List, [], ◌∷◌, length, take}
use Rattle.std.specs.List.{All, AllPairs}
use Rattle.sdls_base.specs.Numbers.{tally}
use Rattle.sdls_base.specs.declared.entry.Entry.{Entry}
use Rattle.sdls_base.specs.declared.entry.Logged.{Logged}
use Rattle.record_io.specs.declared.item_cursor.Record.{Record}
use Rattle.record_io.specs.declared.answers.Answer.{Answer}
use Rattle.record_io.specs.declared.code.TheConstants.{PROTECTED, SITE_FAULT}
use Rattle.counter_table.specs.declared.view.View.{View}
use Rattle.counter_table.specs.Known.{IsSparing}
use Rattle.sdls_outside.specs.Faults.{Rose}
use Rattle.counter_table.specs.Numbers.{top}
use Rattle.counter_table.specs.Turn.{stands, epoch_seen}
use Rattle.unit_state.specs.History.{epoch_after}
use Rattle.run_promise.specs.Log.{entries_of}
use Rattle.run_promise.specs.Answers.{Uses, IsUnmade}
use Rattle.law_workers.specs.Counts.{is_of_record, count_at}
use Rattle.run_promise.specs.Fits.{Course, Fits}
use Rattle.run_promise.specs.Call.{Begin}
use Rattle.law_workers.specs.Views.{Gains, Gained, KnowsMore, IsBetween, IsRow, log_of, entries_in}
use Rattle.law_workers.specs.Work.{Works, indexed}
use Rattle.run_promise.specs.Deed.{Deed, is_protected, tells_count, tells_entry, epoch_told, is_ordered, StandsBehind}
use Rattle.run_promise.specs.Deed.{InTurn, deed_of}

-- what the answers of a run speak of, as the view knows it
abbrev pub course_in : Begin → View → Course
course_in begin view = record {
  begin = begin;
  faults_before = view.turn.known.opening.faults;
  faults = view.turn.known.faults;
  entries = entries_in view;
}

-- where the answer stands, between what was seen before and after; an entry that it names stands in the book, behind
-- the
-- epoch that was seen before, and a count that it has is one of all entries
pub record StandsWithin (begin : Begin) (old new : View) (deed : Deed) : Type 0 where
  pub entry : IsTrue (tells_entry deed) → (length (entries_in old) < deed.answer.position)
      × (deed.answer.position ≤ length (entries_in new))
  pub stored : IsTrue (tells_entry deed) → deed.answer.position ≤ new.turn.known.standing
  pub behind : IsTrue (tells_entry deed)
      → epoch_seen old.turn ≤ epoch_after (take (deed.answer.position - 1) (entries_in new))
  pub counted : IsTrue (tells_count deed) → (length (entries_in old) ≤ deed.answer.position)
      × (deed.answer.position ≤ length (entries_in new))
  pub epoch : IsTrue (is_ordered begin deed) → (epoch_seen old.turn ≤ epoch_told (entries_in new) deed)
      × (epoch_told (entries_in new) deed ≤ epoch_seen new.turn)
  pub number : deed.answer.code ≡ PROTECTED → IsTrue (is_protected deed.task.kind)
      → (row : ℕ) × IsRow begin new deed.answer.key row
      × (top row old.numbers.nexts ≤ deed.answer.number) × (deed.answer.number < top row new.numbers.nexts)

-- the last entry of the log stands at this place
abbrev pub IsLastAt : List Logged → ℕ → Type 0
IsLastAt log place = (length (entries_of (take place log)) < length (entries_of log))
    × (length (entries_of (take (place + 1) log)) ≡ length (entries_of log))

-- what holds of the answers to two records
pub record Agree (begin : Begin) (history : List Entry) (one other : Deed) : Type 0 where
  -- no number is used twice under a key
  pub pairs : one.task.index ≢ other.task.index → (key number : ℕ) → Uses one.answer key number
      → ¬ Uses other.answer key number
  -- one alone can say that the site failed while an entry was stored
  pub faults : one.task.index ≢ other.task.index → one.answer.code ≡ SITE_FAULT → other.answer.code ≢ SITE_FAULT
  -- where they are handled in their order, so are their answers
  pub order : one.task.index < other.task.index → InTurn one other → StandsBehind begin history one other

-- the relation holds of each two
abbrev pub EachTwo : {X : Type 0} → (X → X → Type 0) → List X → Type 0
EachTwo R xs = All (λ x. All (R x) xs) xs

-- the worker made the last entry of the log, and the site had failed then
pub record MadeLast (new : View) (gains : Gains) : Type 0 where
  pub place : ℕ
  pub is_made : 0 < stands place gains.made
  pub last : IsLastAt (log_of new) place
  pub risen : Rose new.turn.known.opening.faults new.turn.known.faults

-- each number that the answer uses was spent here, under the row of its key
abbrev pub IsSpent : Begin → View → Gains → Deed → Type 0
IsSpent begin new gains deed = (key number : ℕ) → Uses deed.answer key number
    → (row : ℕ) × (row < begin.rows) × IsRow begin new key row × (0 < tally row number gains.spent)

-- The answers that were given on the way from the old view to the new one. Each fact stays true while the views grow
-- apart, and none looks at the order of the answers.
pub record Answers (begin : Begin) (old new : View) (gains : Gains) (deeds : List Deed) : Type 0 where
  -- each answer fits its record, and stands between what was seen before and after
  pub fit : All (λ deed. Fits (IsBetween begin old new) (course_in begin new) deed.task deed.answer) deeds
  pub stand : All (StandsWithin begin old new) deeds
  pub agree : EachTwo (Agree begin (entries_in new)) deeds
  pub used : All (IsSpent begin new gains) deeds
  -- who answers that the site failed made the last entry
  pub failed : All (λ deed. deed.answer.code ≡ SITE_FAULT → MadeLast new gains) deeds

-- Fewer entries with this number were made than there are records with it. Where one record has the number, none was.
abbrev pub IsWithoutEntry : View → Gains → List Record → ℕ → Type 0
IsWithoutEntry new gains tasks index = count_at (is_of_record index) (log_of new) gains.made < indexed index tasks

-- so it is of each record whose answer says that it made no entry
abbrev pub AreUnmade : View → Gains → List Record → List Deed → Type 0
AreUnmade new gains tasks deeds =
    All (λ deed. IsUnmade deed.answer.code → IsWithoutEntry new gains tasks deed.task.index) deeds

-- What a worker did from the old view to the new one with these records, and the answers that it gave. No more puts
-- failed than pieces were put. A record whose answer says that it made no entry made none.
pub record Does (begin : Begin) (old new : View) (tasks : List Record) (deeds : List Deed) : Type 0 where
  pub gains : Gains
  pub gained : Gained old new gains
  pub grows : KnowsMore old new
  pub sparing : IsSparing old.turn.known new.turn.known
  pub works : Works begin old new gains tasks
  pub answers : Answers begin old new gains deeds
  pub unmade : AreUnmade new gains tasks deeds

-- records that are handled at the same time: of one segment, on different lanes
abbrev pub AtOnce : Deed → Deed → Type 0
AtOnce one other = (one.task.lane ≢ other.task.lane) × (one.segment ≡ other.segment)

-- each of the one list stands so to each of the other
abbrev pub AllBoth : {X : Type 0} → (X → X → Type 0) → List X → List X → Type 0
AllBoth R xs ys = All (λ x. All (R x) ys) xs

-- the records with their answers, as far as there are answers
abbrev pub deeds_of : ℕ → List Record → List Answer → List Deed
deeds_of segment [] answers = []
deeds_of segment (task ∷ tasks) [] = []
deeds_of segment (task ∷ tasks) (answer ∷ answers) = deed_of segment task answer ∷ deeds_of segment tasks answers

-- the indexes ascend
abbrev pub Ascend : List Record → Type 0
Ascend tasks = AllPairs (λ one other. one.index < other.index) tasks
