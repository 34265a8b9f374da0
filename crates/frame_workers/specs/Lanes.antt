-- The lanes of a segment, as they run (profile).
use Rattle.std.specs.Prelude.{◌≡◌, ◌≢◌, ℕ, zero, suc, ◌<◌, ◌≤◌, ◌==◌, Bool, true, false, List, [], ◌∷◌, ◌++◌}
use Rattle.std.specs.Prelude.{if◌then◌else◌, length, take, slice_get, Some, Vec, vec_capacity}
use Rattle.std.specs.List.{All, Contains, list_any, slice_index_or}
use Rattle.std.specs.Vec.Iter.{into_iter_items}
use Rattle.std.specs.declared.vec.IntoIter.{IntoIter}
use Rattle.counter_table.specs.declared.counters.Worker.{Worker}
use Rattle.counter_table.specs.declared.view.Turn.{Turn}
use Rattle.counter_table.specs.declared.view.View.{View}
use Rattle.counter_table.specs.Worker.{view}
use Rattle.record_io.specs.declared.item_cursor.Record.{Record}
use Rattle.record_io.specs.declared.answers.Answer.{Answer}
use Rattle.record_io.specs.declared.reader.TheConstants.{LANES}
use Rattle.run_promise.specs.Call.{Begin}
use Rattle.law_workers.specs.Views.{starting}
use Rattle.run_promise.specs.Deed.{Deed}
use Rattle.law_workers.specs.Deeds.{deeds_of}
use Rattle.law_workers.specs.Order.{Layout, Handled}
use Rattle.law_workers.specs.Lanes.{is_of_lane, of_lane, Part}
use Rattle.law_workers.specs.Alone.{MovedInTurn}
use Rattle.law_workers.specs.Began.{BeganWith}
use Rattle.frame_workers.specs.declared.lane.Lane.{Lane}
use Rattle.frame_workers.specs.Permits.{AreTrueFor}
use Rattle.law_workers.specs.Ends.{EndsSegment}

module _ {B : Type 0} (ready : Worker B → Type 0) where
  -- the lane may run: its worker is ready, what it keeps is true, and it has room for the answers
  pub record CanRun (tasks : List Record) (lane : Lane B) : Type 0 where
    pub is_ready : ready lane.worker
    pub kept : All (λ permits. AreTrueFor permits (view lane.worker).turn) lane.kept.items
    pub empty : lane.answers.items ≡ []
    pub room : length tasks ≤ vec_capacity lane.answers
    pub going : lane.full ≡ false

  -- the lane handled its records
  pub record HasRun (told : Bool) (tasks : List Record) (old new : Lane B) : Type 0 where
    pub number : new.number ≡ old.number
    pub is_ready : ready new.worker
    pub kept : All (λ permits. AreTrueFor permits (view new.worker).turn) new.kept.items
    pub shares : (view new.worker).numbers.shares ≡ (view old.worker).numbers.shares
    pub handled : (begin : Begin) (layout : Layout) (segment : ℕ)
        → BeganWith told begin (view old.worker).turn.known.opening
        → Handled layout begin (view old.worker) (view new.worker) (of_lane old.number tasks)
        (deeds_of segment (of_lane old.number tasks) new.answers.items)
    pub ends : (begin : Begin) → BeganWith told begin (view old.worker).turn.known.opening
        → EndsSegment begin (view old.worker) (view new.worker) (of_lane old.number tasks) new.answers.items new.full
    pub exactly : (begin : Begin) (segment : ℕ) → BeganWith told begin (view old.worker).turn.known.opening
        → MovedInTurn begin (view old.worker) (view new.worker) (length (of_lane old.number tasks))
        (deeds_of segment (of_lane old.number tasks) new.answers.items)

  -- each of the lanes handled its records
  pub record HaveRun (told : Bool) (tasks : List Record) (old new : List (Lane B)) : Type 0 where
    pub many : length new ≡ length old
    pub each : (k : ℕ) (d : Lane B) → k < length old
        → HasRun told tasks (slice_index_or old k d) (slice_index_or new k d)

  -- a lane of one of the records, that was split from a worker with this view, and may run
  pub record IsSplit (tasks : List Record) (base : View) (lane : Lane B) : Type 0 where
    pub below : lane.number < LANES
    pub used : list_any (is_of_lane lane.number) tasks ≡ true
    pub can : CanRun tasks lane
    pub from : view lane.worker ≡ starting base

-- what the lane keeps is true for a worker that knows this
abbrev pub IsTrueLane : {B : Type 0} → Turn → Lane B → Type 0
IsTrueLane v lane = All (λ permits. AreTrueFor permits v) lane.kept.items

-- what came back of a lane
abbrev pub part_of : {B : Type 0} → Lane B → Part
part_of lane = record { number = lane.number; knows = view lane.worker; answers = lane.answers.items }

-- the lanes, the last one first
abbrev pub parts_of : {B : Type 0} → List (Lane B) → List Part
parts_of [] = []
parts_of (lane ∷ lanes) = parts_of lanes ++ part_of lane ∷ []

-- the answers of the lane with this number; of a lane that is not there, none
abbrev pub answers_of : ℕ → List Part → List Answer
answers_of number [] = []
answers_of number (part ∷ parts) = if part.number == number then part.answers else answers_of number parts

-- an empty room for the answers of a lane, where one of the records is its
pub record IsRoom {A : Type 0} (tasks : List Record) (number : ℕ) (room : Vec Answer A) : Type 0 where
  pub empty : room.items ≡ []
  pub roomy : list_any (is_of_lane number) tasks ≡ true → length tasks ≤ vec_capacity room

-- the lanes with a record are these
abbrev pub IsUsed : List Bool → List Record → Type 0
IsUsed lanes tasks = (number : ℕ) → number < LANES
    → slice_index_or lanes number false ≡ list_any (is_of_lane number) tasks

-- two lanes have not one number
abbrev pub HaveOwnNumbers : {B : Type 0} → Lane B → Lane B → Type 0
HaveOwnNumbers one other = one.number ≢ other.number

-- one of the lanes has this number
abbrev pub IsThere : {B : Type 0} → ℕ → List (Lane B) → Type 0
IsThere {B} number lanes = (lane : Lane B) × Contains lanes lane × (lane.number ≡ number)

-- the answers left of the lane with this number
abbrev pub left_at : {A : Type 0} → ℕ → List (IntoIter Answer A) → List Answer
left_at number [] = []
left_at zero (part ∷ parts) = into_iter_items part
left_at (suc number) (part ∷ parts) = left_at number parts

-- the lane's records with these answers are among those answered
abbrev pub AreAmong : List Deed → ℕ → ℕ → List Record → List Answer → Type 0
AreAmong deeds segment number tasks answers = All (Contains deeds) (deeds_of segment (of_lane number tasks) answers)

-- Of the records, this one is the first for which its lane had no answer left.
pub record StopsAt (tasks : List Record) (answers : ℕ → List Answer) (place : ℕ) : Type 0 where
  pub task : Record
  pub there : slice_get tasks place ≡ Some task
  pub none_left : length (answers task.lane) ≡ length (of_lane task.lane (take place tasks))
