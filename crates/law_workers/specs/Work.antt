-- What a worker did between two of its views, without the answers (profile).
use Rattle.std.specs.Prelude.{◌≡◌, ◌⊎◌, ℕ, ◌+◌, ◌<◌, ◌≤◌, ◌==◌, if◌then◌else◌, List, [], ◌∷◌, length, Some}
use Rattle.std.specs.List.{All, Contains}
use Rattle.sdls_base.specs.Numbers.{tally}
use Rattle.sdls_base.specs.declared.entry.Entry.{Entry}
use Rattle.record_io.specs.declared.item_cursor.Record.{Record}
use Rattle.record_io.specs.declared.reader.RecordKind.TheVariants.{Command}
use Rattle.key_book.specs.KeyBook.{place_of}
use Rattle.unit_state.specs.History.{after_first}
use Rattle.counter_table.specs.declared.view.View.{View}
use Rattle.counter_table.specs.Known.{IsSparing}
use Rattle.counter_table.specs.Numbers.{count_of, top}
use Rattle.counter_table.specs.Turn.{stands}
use Rattle.run_promise.specs.History.{AsksFor, drawers}
use Rattle.law_history.specs.Entries.{IsLegalAt}
use Rattle.law_workers.specs.Counts.{is_of_record, is_of_none, count_at}
use Rattle.run_promise.specs.Call.{Begin}
use Rattle.law_workers.specs.Views.{Gains, Gained, KnowsMore, IsBetween, log_of, entries_in}

-- how many of the records have this index
abbrev pub indexed : ℕ → List Record → ℕ
indexed index [] = 0
indexed index (task ∷ tasks) = (if task.index == index then 1 else 0) + indexed index tasks

-- a word `next` was raised to a number that one of the records asks for in a state of the history
pub record IsAsked (begin : Begin) (history : List Entry) (tasks : List Record) (row number : ℕ) : Type 0 where
  pub p : ℕ
  pub within : p ≤ length history
  pub key : ℕ
  pub row_is : place_of (after_first begin.start history p).keys key ≡ Some row
  pub task : Record
  pub there : Contains tasks task
  pub is_command : task.kind ≡ Command
  pub asks : AsksFor (after_first begin.start history p) task.octets key number

-- What was drawn, spent, raised and made from the old view to the new one, with these records. Each fact stays true
-- while the views grow apart.
pub record Works (begin : Begin) (old new : View) (gains : Gains) (tasks : List Record) : Type 0 where
  -- each line made is new, and each entry made is legal in the state before it
  pub made : (place : ℕ) → 0 < stands place gains.made → (length (log_of old) ≤ place) × (place < length (log_of new))
  pub legal : (place : ℕ) → 0 < stands place gains.made
      → IsLegalAt (IsBetween begin old new) begin.plan begin.start tasks (log_of new) place
  -- at most one entry a record, and at most one reserve a record that can draw
  pub one_entry : (index : ℕ) → count_at (is_of_record index) (log_of new) gains.made ≤ indexed index tasks
  pub reserves : count_at is_of_none (log_of new) gains.made ≤ drawers tasks
  -- at most one number drawn a record that can draw; what is spent was drawn here
  pub few_drawn : (row : ℕ) → count_of row gains.drawn ≤ drawers tasks
  pub drawn : (row number : ℕ) → 0 < tally row number gains.drawn
      → (top row old.numbers.nexts ≤ number) × (number < top row new.numbers.nexts)
  pub spent : (row number : ℕ) → tally row number gains.spent ≤ tally row number gains.drawn
  -- words were raised to 1, or to what was asked for
  pub raised : All (λ pair. (pair.1 ≤ 1) ⊎ IsAsked begin (entries_in new) tasks pair.0 pair.1) gains.raised

-- What a worker did from the old view to the new one: something of this, and what it knew it knows. No more puts failed
-- than pieces were put.
pub record Worked (begin : Begin) (old new : View) (tasks : List Record) : Type 0 where
  pub gains : Gains
  pub gained : Gained old new gains
  pub grows : KnowsMore old new
  pub sparing : IsSparing old.turn.known new.turn.known
  pub works : Works begin old new gains tasks
