-- One segment of a run, as its records were handled and its answers put (profile).
use Rattle.std.specs.Prelude.{◌≡◌, ◌⊎◌, ℕ, ◌+◌, ◌≤◌, IsTrue, List, ◌++◌, length, slice_get, Some}
use Rattle.std.specs.List.{All}
use Rattle.sdls_outside.specs.Faults.{Rose}
use Rattle.sdls_outside.specs.Moments.{Between}
use Rattle.counter_table.specs.declared.view.View.{View}
use Rattle.counter_table.specs.Whole.{IsWhole}
use Rattle.record_io.specs.declared.answers.Answer.{Answer}
use Rattle.record_io.specs.declared.item_cursor.Record.{Record}
use Rattle.record_io.specs.Answers.{IsAnswer, answers_octets}
use Rattle.run_promise.specs.declared.end.TheConstants.{MOST_ENTRIES}
use Rattle.law_workers.specs.Counts.{is_of_record, count_at}
use Rattle.run_promise.specs.Deed.{is_entered}
use Rattle.run_promise.specs.Fits.{MayAppend}
use Rattle.run_promise.specs.Call.{Begin}
use Rattle.law_workers.specs.Views.{IsBetween, log_of, entries_in}
use Rattle.law_workers.specs.Deeds.{course_in, deeds_of}
use Rattle.law_workers.specs.Order.{Layout, LiesIn, Handled}
use Rattle.run_promise.specs.OneLane.{OneLane}
use Rattle.law_workers.specs.Alone.{ServedAlone}
use Rattle.law_workers.specs.Words.{MovesCounted}
use Rattle.law_runs.specs.Doing.{AreSettledInside, PutsPieces, SettlesWork, octets_put}

-- From the first view to the second the worker handled the records; from there to the last it put the answers, or a
-- front of them. So many entries were stored at the end.
pub record HandlesAndPuts (begin : Begin) (v mid w : View) (records : List Record) (answers : List Answer)
    (stored : ℕ) : Type 0 where
  pub handled : (layout : Layout) (number : ℕ) → LiesIn layout number records
      → Handled layout begin v mid records (deeds_of number records answers)
  pub few : length answers ≤ length records
  pub widths : All IsAnswer answers
  pub whole_mid : IsWhole begin.rows mid
  pub whole : IsWhole begin.rows w
  pub puts : PutsPieces begin mid w
  pub known : ℕ
  pub settles : SettlesWork begin mid w known stored
  pub entered : (number : ℕ) → AreSettledInside known (deeds_of number records answers)
  -- where all records are of one lane, they were served in turn; the puts moved no word
  pub exactly : OneLane records → (number : ℕ) → ServedAlone begin v mid (length records)
      (deeds_of number records answers)
  pub same_numbers : w.numbers ≡ mid.numbers
  pub moved : (number : ℕ) → MovesCounted begin v mid records (deeds_of number records answers)

-- so many puts had failed before, and have now: none since, and the octets were added to those put before
pub record PutsWell (begin : Begin) (mid w : View) (answers : List Answer) (failed_before failed : ℕ) : Type 0 where
  pub octets : IsTrue begin.told → octets_put w ≡ octets_put mid ++ answers_octets answers
  pub none_failed : failed ≡ failed_before

-- one since, and a front of the octets was added
pub record PutsBadly (begin : Begin) (mid w : View) (answers : List Answer) (failed_before failed : ℕ) : Type 0 where
  pub octets : IsTrue begin.told → Between (octets_put mid) (octets_put mid ++ answers_octets answers) (octets_put w)
  pub one_failed : failed ≡ failed_before + 1
  pub rose : Rose w.turn.known.opening.faults w.turn.known.faults

-- The history is full for the first record without an answer, and the worker made no entry of it. No fault came till
-- the answers were put.
pub record IsFullSegment (begin : Begin) (v mid w : View) (records : List Record) (answers : List Answer) : Type 0 where
  pub task : Record
  pub first_without : slice_get records (length answers) ≡ Some task
  pub full : MOST_ENTRIES ≤ length (entries_in mid)
  pub not_failed : length (entries_in mid) ≤ MOST_ENTRIES → ¬ Rose w.turn.known.opening.faults w.turn.known.faults
  pub due : IsTrue (is_entered task.kind) ⊎ MayAppend (IsBetween begin v mid) (course_in begin mid) MOST_ENTRIES task
  pub unmade : (made : List ℕ) → mid.turn.made ≡ v.turn.made ++ made
      → count_at (is_of_record task.index) (log_of mid) made ≡ 0
