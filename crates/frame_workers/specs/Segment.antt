-- A segment, handled (profile).
use Rattle.std.specs.Prelude.{◌≡◌, ℕ, ◌<◌, ◌≤◌, Bool, true, List, [], Vec, length, vec_capacity}
use Rattle.std.specs.List.{All, AllPairs, list_any}
use Rattle.std.specs.declared.vec.IntoIter.{IntoIter}
use Rattle.sdls_base.specs.declared.TheConstants.{MOST_KEYS}
use Rattle.counter_table.specs.declared.counters.Worker.{Worker}
use Rattle.counter_table.specs.declared.view.View.{View}
use Rattle.counter_table.specs.Worker.{view}
use Rattle.counter_table.specs.Whole.{IsWhole}
use Rattle.counter_table.specs.Numbers.{ALL_SHARES}
use Rattle.record_io.specs.declared.item_cursor.Record.{Record}
use Rattle.record_io.specs.declared.answers.Answer.{Answer}
use Rattle.record_io.specs.declared.reader.TheConstants.{LANES}
use Rattle.run_promise.specs.Call.{Begin}
use Rattle.run_promise.specs.OneLane.{OneLane}
use Rattle.law_workers.specs.Deeds.{deeds_of}
use Rattle.law_workers.specs.Order.{Handled, Layout, LiesIn}
use Rattle.law_workers.specs.Alone.{ServedAlone}
use Rattle.law_workers.specs.Words.{MovesWords}
use Rattle.law_workers.specs.Began.{BeganWith}
use Rattle.law_workers.specs.Ends.{EndsSegment}
use Rattle.law_workers.specs.Lanes.{giving_shares, is_of_lane}
use Rattle.frame_workers.specs.declared.lane.Lane.{Lane}
use Rattle.frame_workers.specs.Lanes.{HaveOwnNumbers, HaveRun, IsSplit, IsThere, left_at}

-- what run_segment promises of records that were handled, and answered so, of the worker's views before and after
pub record HandlesSegment (told : Bool) (old new : View) (tasks : List Record) (answers : List Answer)
    (ended : Bool) : Type 0 where
  pub handled : (begin : Begin) (layout : Layout) (number : ℕ) → BeganWith told begin old.turn.known.opening
      → LiesIn layout number tasks → Handled layout begin old new tasks (deeds_of number tasks answers)
  pub full : (begin : Begin) → BeganWith told begin old.turn.known.opening
      → EndsSegment begin old new tasks answers ended
  pub alone : OneLane tasks → (begin : Begin) (number : ℕ) → BeganWith told begin old.turn.known.opening
      → ServedAlone begin old new (length tasks) (deeds_of number tasks answers)
  pub moved : (begin : Begin) (number : ℕ) → BeganWith told begin old.turn.known.opening
      → MovesWords begin old new tasks (deeds_of number tasks answers)
  pub whole : old.numbers.shares ≡ ALL_SHARES → IsWhole MOST_KEYS new

-- no answers yet of each lane, and an empty room for all answers
pub record HasRooms {A C : Type 0} (tasks : List Record) (parts : List (IntoIter Answer A))
    (answers : Vec Answer C) : Type 0 where
  pub many : length parts ≡ LANES
  pub empty : (number : ℕ) → left_at number parts ≡ []
  pub none_yet : answers.items ≡ []
  pub room : length tasks ≤ vec_capacity answers

module _ {B : Type 0} (ready : Worker B → Type 0) where
  -- the lanes of the records were split off a worker with this view, which has that view now
  pub record AreSplit (tasks : List Record) (base now : View) (lanes : List (Lane B)) : Type 0 where
    pub many : length lanes ≤ LANES
    pub given : now ≡ giving_shares (length lanes) base
    pub split : All (IsSplit ready tasks base) lanes
    pub apart : AllPairs HaveOwnNumbers lanes
    pub each : (number : ℕ) → number < LANES → list_any (is_of_lane number) tasks ≡ true → IsThere number lanes

  -- the lanes were split off a worker that was ready, and ran
  pub record RanFrom (told : Bool) (tasks : List Record) (before : Worker B) (now : View)
      (old new : List (Lane B)) : Type 0 where
    pub is_ready : ready before
    pub enough : LANES < (view before).numbers.shares
    pub split : AreSplit tasks (view before) now old
    pub ran : HaveRun ready told tasks old new
