-- Lines and records in input order (profile).
use Rattle.std.specs.Prelude.{◌≡◌, ◌≢◌, ℕ, ◌+◌, ◌<◌, ◌≤◌, ◌⊎◌, Bool, true, false, List, Option, Some, None, length}
use Rattle.std.specs.Prelude.{slice_get, Contains}
use Rattle.sdls_base.specs.declared.entry.Logged.{Logged}
use Rattle.sdls_base.specs.declared.entry.Logged.TheVariants as lines
use Rattle.counter_table.specs.declared.view.View.{View}
use Rattle.counter_table.specs.Turn.{stands}
use Rattle.record_io.specs.declared.item_cursor.Record.{Record}
use Rattle.law_workers.specs.Counts.{is_of_record, count_at}
use Rattle.run_promise.specs.History.{drawers}
use Rattle.run_promise.specs.Call.{Begin}
use Rattle.law_workers.specs.Views.{log_of}
use Rattle.law_workers.specs.Work.{indexed}
use Rattle.run_promise.specs.Deed.{Deed}
use Rattle.law_workers.specs.Deeds.{Does}

-- Where records lie in the input, by their indexes: the lane and the segment of each.
pub record Layout : Type 0 where
  pub lane_of : ℕ → ℕ
  pub segment_of : ℕ → ℕ

-- two records are handled in their order: they are of one lane, or of different segments
abbrev pub TakeTurns : Layout → ℕ → ℕ → Type 0
TakeTurns layout i j = (layout.lane_of i ≡ layout.lane_of j) ⊎ (layout.segment_of i ≢ layout.segment_of j)

-- the layout has the records of this segment as they are
abbrev pub LiesIn : Layout → ℕ → List Record → Type 0
LiesIn layout segment tasks =
    (task : Record) → Contains tasks task → (layout.lane_of task.index ≡ task.lane)
    × (layout.segment_of task.index ≡ segment)

abbrev pub is_piece : Option Logged → Bool
is_piece None = false
is_piece (Some (lines.Piece piece)) = true
is_piece (Some (lines.Entry entry)) = false

abbrev pub is_line : Option Logged → Bool
is_line None = false
is_line (Some (lines.Piece piece)) = false
is_line (Some (lines.Entry entry)) = true

-- Of the lines that a worker made: entries of records that are handled in turn stand in input order; so many at most
-- are entries, and so many pieces.
pub record Lined (in_turn : ℕ → ℕ → Type 0) (log : List Logged) (made : List ℕ) (entries pieces : ℕ) : Type 0 where
  pub in_order : (x y i j : ℕ) → 0 < stands x made → 0 < stands y made → is_of_record i (slice_get log x) ≡ true
      → is_of_record j (slice_get log y) ≡ true → i < j → in_turn i j → x < y
  pub few_entries : count_at is_line log made ≤ entries
  pub few_pieces : count_at is_piece log made ≤ pieces

-- the records of the one come before those of the other
abbrev pub ComeBefore : List Record → List Record → Type 0
ComeBefore ts us = (i j : ℕ) → 0 < indexed i ts → 0 < indexed j us → i < j

-- none of the one is handled in turn with one of the other
abbrev pub AreAside : (ℕ → ℕ → Type 0) → List Record → List Record → Type 0
AreAside in_turn ts us = (i j : ℕ) → 0 < indexed i ts → 0 < indexed j us → (in_turn i j → ⊥) × (in_turn j i → ⊥)

-- What a worker did with records of one segment, which lie so in the input: the entries of records that are handled in
-- turn stand in input order, and nothing was put.
pub record Handled (layout : Layout) (begin : Begin) (old new : View) (tasks : List Record)
    (deeds : List Deed) : Type 0 where
  pub does : Does begin old new tasks deeds
  pub lined : Lined (TakeTurns layout) (log_of new) does.gains.made (length tasks + drawers tasks) 0
