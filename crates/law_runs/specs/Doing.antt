-- What the one worker of a run did since the opening, from segment to segment (profile).
use Rattle.std.specs.Prelude.{◌≡◌, ℕ, ◌+◌, ◌<◌, ◌≤◌, Bool, IsTrue, List, [], ◌++◌, length, take, slice_get, Contains}
use Rattle.std.specs.Prelude.{Some}
use Rattle.std.specs.List.{All, AllPairs}
use Rattle.sdls_base.specs.declared.TheConstants.{MOST_KEYS}
use Rattle.sdls_base.specs.declared.entry.Entry.{Entry}
use Rattle.sdls_base.specs.declared.entry.Logged.TheVariants as logged
use Rattle.counter_table.specs.declared.view.View.{View}
use Rattle.record_io.specs.declared.answers.Answer.{Answer}
use Rattle.record_io.specs.Answers.{answers_octets}
use Rattle.record_io.specs.Places.{Place, records_of}
use Rattle.unit_plan.specs.PlanRules.{IsPlan}
use Rattle.unit_state.specs.State.{KeepsRules}
use Rattle.unit_state.specs.Restart.{restarted}
use Rattle.run_promise.specs.History.{drawers}
use Rattle.run_promise.specs.Log.{pieces_of}
use Rattle.run_promise.specs.Call.{Begin}
use Rattle.law_workers.specs.Views.{entries_in, log_of}
use Rattle.run_promise.specs.Deed.{Deed, tells_entry}
use Rattle.law_workers.specs.Deeds.{Does, course_in}
use Rattle.law_workers.specs.Order.{Layout, TakeTurns, Lined}
use Rattle.run_promise.specs.OneLane.{ServesAll, failed_after, OneLane}
use Rattle.law_workers.specs.InTurn.{AllStand, MadeAllLines, IsLeftBehind, IsLevel, stood_in}
use Rattle.law_workers.specs.Alone.{MovedExactly}
use Rattle.law_workers.specs.Opened.{IsJustOpened}
use Rattle.law_runs.specs.Settled.{AreSettled}
use Rattle.law_workers.specs.Settles.{SettlesAt}
use Rattle.run_promise.specs.Account.{answers_of_first, deeds_from}

-- the octets of the pieces that a worker knows of
abbrev pub octets_put : View → List ℕ
octets_put v = pieces_of (log_of v)

-- the layout has the records of the places as they are
abbrev pub LieIn : Layout → List Place → Type 0
LieIn layout places = (place : Place) → Contains places place
    → (layout.lane_of place.task.index ≡ place.task.lane) × (layout.segment_of place.task.index ≡ place.segment)

-- What a run stands on: the plan and the first state keep their rules, a restart left that state, and the first worker
-- is as the opening made it.
pub record IsFounded (begin : Begin) (first : View) : Type 0 where
  pub rows : begin.rows ≡ MOST_KEYS
  pub plan_is : IsPlan begin.plan
  pub rules : KeepsRules begin.start
  pub left : restarted begin.start ≡ begin.start
  pub opened : IsJustOpened begin first

-- The worker did all since the opening, with the records of these places and these answers, and its lines stand in
-- input order.
pub record HasDone (begin : Begin) (first now : View) (places : List Place) (answers : List Answer) : Type 0 where
  pub none_made : first.turn.made ≡ []
  pub does : Does begin first now (records_of places) (deeds_from places answers)
  pub lined : (layout : Layout) → LieIn layout places → (pieces : ℕ)
      × Lined (TakeTurns layout) (log_of now) now.turn.made (length (records_of places) + drawers (records_of places))
      pieces

-- One lane alone: each record moved the words as its answer says, and where no other worker made a line, the answered
-- ones were served in turn from the entries that stood in the first view; they made all that stand but what a record
-- without an answer left. If not all entries stand, it was so at first, or an answer has told it.
pub record RunAlone (begin : Begin) (first now : View) (places : List Place) (answers : List Answer) : Type 0 where
  pub moved : MovedExactly begin first now (length places) (deeds_from places answers)
  pub level : IsLevel first → IsLevel now
  pub served : MadeAllLines first now moved.made → IsLevel first
      → (own : List Entry) × (rest : List Entry) × (stood_in now ≡ stood_in first ++ (own ++ rest))
      × ((failed : Bool) → (¬ AllStand first → IsTrue failed)
      → ServesAll begin failed (stood_in first) (deeds_from places answers) moved.exact.moves own
      × (¬ AllStand now → IsTrue (failed_after failed (deeds_from places answers))))
      × IsLeftBehind now moved.last rest

-- so it is where all records are of one lane
abbrev pub MovedAlone : Begin → View → View → List Place → List Answer → Type 0
MovedAlone begin first now places answers = OneLane (records_of places) → RunAlone begin first now places answers

-- each answer was settled before an octet of it was put, so many entries being stored now
abbrev pub HasSettled : Begin → View → ℕ → List Place → List Answer → Type 0
HasSettled begin now stored places answers =
    AreSettled (course_in begin now) stored (log_of now) 0 (deeds_from places answers)

-- Each entry that is known of a record of these places stands in the log behind the answers of the segments before the
-- record's.
abbrev pub HasFenced : View → List Place → List Answer → Type 0
HasFenced now places answers = (place : Place) (at : ℕ) (entry : Entry) → Contains places place
    → slice_get (log_of now) at ≡ Some (logged.Entry entry) → entry.index ≡ Some place.task.index
    → length (answers_octets (answers_of_first place.segment places answers))
    ≤ length (pieces_of (take at (log_of now)))

-- The first put behind a segment found a book that settles what the worker had done before: of so many entries that
-- were stored, no fewer than the worker knew of; so many are stored now.
pub record SettlesWork (begin : Begin) (v w : View) (known stored : ℕ) : Type 0 where
  pub entries : ℕ
  pub lines : ℕ
  pub at : SettlesAt begin v w stored entries lines
  pub standing : known ≤ entries
  pub before : length (pieces_of (take lines (log_of w))) ≤ length (octets_put v)

-- from the one view to the other the worker put pieces, and made no entry
pub record PutsPieces (begin : Begin) (v w : View) : Type 0 where
  pub does : Does begin v w [] []
  pub entries : entries_in w ≡ entries_in v

-- the earlier record has the lesser number
abbrev pub IsBefore : Place → Place → Type 0
IsBefore one other = one.task.index < other.task.index

-- The records of the segment with this number come behind those of the places before, and their numbers ascend.
pub record IsSegment (number : ℕ) (places more : List Place) : Type 0 where
  pub next : ℕ
  pub low : All (λ place. place.task.index < next) places
  pub high : All (λ place. next ≤ place.task.index) more
  pub of : All (λ place. place.segment ≡ number) more
  pub up : AllPairs IsBefore more

-- the entries of the answers that tell one are among the first so many
abbrev pub AreSettledInside : ℕ → List Deed → Type 0
AreSettledInside inside deeds = All (λ deed. IsTrue (tells_entry deed) → deed.answer.position ≤ inside) deeds
