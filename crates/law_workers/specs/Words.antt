-- What records moved the words `next` by, on however many lanes (profile).
use Rattle.std.specs.Prelude.{◌≡◌, ℕ, ◌+◌, ◌<◌, ◌≤◌, ◌==◌, if◌then◌else◌, List, [], ◌∷◌, ◌++◌, length, slice_get}
use Rattle.std.specs.Prelude.{take}
use Rattle.std.specs.Prelude.{Option, Some, None}
use Rattle.std.specs.List.{All, Contains}
use Rattle.sdls_base.specs.declared.entry.Entry.{Entry}
use Rattle.sdls_base.specs.declared.entry.Logged.{Logged}
use Rattle.sdls_base.specs.declared.entry.Logged.TheVariants as lines
use Rattle.sdls_base.specs.declared.entry.Seen.TheVariants.{Number}
use Rattle.record_io.specs.declared.item_cursor.Record.{Record}
use Rattle.unit_state.specs.declared.state.State.{State}
use Rattle.counter_table.specs.declared.view.View.{View}
use Rattle.counter_table.specs.Numbers.{amount}
use Rattle.counter_table.specs.Turn.{stands}
use Rattle.run_promise.specs.Call.{Begin}
use Rattle.run_promise.specs.Deed.{Deed}
use Rattle.run_promise.specs.Log.{entries_of}
use Rattle.run_promise.specs.Words.{Move, Drew, adds, LiesBetween, Tells, CountsEntry}
use Rattle.law_workers.specs.Views.{entries_in, log_of}
use Rattle.law_workers.specs.Work.{indexed}
use Rattle.law_workers.specs.Exact.{words_in}

-- how many of the moves, which stand behind the numbers of their records, are of the record with this number
abbrev pub moves_of : ℕ → List (ℕ × Move) → ℕ
moves_of index [] = 0
moves_of index (own ∷ moves) = (if own.0 == index then 1 else 0) + moves_of index moves

-- what the moves add to the row's word
abbrev pub moves_add : ℕ → List (ℕ × Move) → ℕ
moves_add row [] = 0
moves_add row (own ∷ moves) = adds row own.1 + moves_add row moves

-- the answer shows a move of its record
abbrev pub TellsOne : State → List Entry → List (ℕ × Move) → Deed → Type 0
TellsOne start entries moves deed =
    (move : Move) × Contains moves (deed.task.index, move) × Tells start entries deed move

-- the line, if it is a reserve, is of a number that one of the moves drew
abbrev pub IsDrawnBy : List (ℕ × Move) → Option Logged → Type 0
IsDrawnBy moves line = (entry : Entry) → line ≡ Some (lines.Entry entry) → entry.index ≡ None
    → (index : ℕ) × (row : ℕ) × (number : ℕ) × (entry.seen ≡ Number number) × Contains moves (index, Drew row number)

-- From the old view to the new one a worker moved the words so, with these records, whatever others moved meanwhile: by
-- no more moves than there are records with the number, an answered one by a move that its answer shows. Each reserve
-- that it made is of a number that it drew. Each fact stays true while the views grow apart, and none looks at the
-- order
-- of the records.
pub record MovesWords (begin : Begin) (old new : View) (tasks : List Record) (deeds : List Deed) : Type 0 where
  pub moves : List (ℕ × Move)
  pub few : (index : ℕ) → moves_of index moves ≤ indexed index tasks
  pub told : All (TellsOne begin.start (entries_in new) moves) deeds
  pub between : All (λ own. LiesBetween begin.rows (words_in old) (words_in new) own.1) moves
  pub added : (row : ℕ) → amount row new.numbers.added ≡ amount row old.numbers.added + moves_add row moves
  pub made : List ℕ
  pub made_is : new.turn.made ≡ old.turn.made ++ made
  pub within : (place : ℕ) → 0 < stands place made → place < length (log_of new)
  pub reserves : (place : ℕ) → 0 < stands place made → IsDrawnBy moves (slice_get (log_of new) place)

-- the line at the place, if it is a reserve, is of a number that one of the moves drew; a count has it if the record of
-- the move comes before that of the count, and only then
abbrev pub IsDrawnInTurn : List (ℕ × Move) → List Deed → List Logged → ℕ → Type 0
IsDrawnInTurn moves deeds log place =
    (entry : Entry) → slice_get log place ≡ Some (lines.Entry entry) → entry.index ≡ None
    → (index : ℕ) × (row : ℕ) × (number : ℕ) × (entry.seen ≡ Number number) × Contains moves (index, Drew row number)
    × All (CountsEntry (length (entries_of (take place log))) index) deeds

-- so it is of the line, if it is an entry of a record
abbrev pub IsCountedInTurn : List Deed → List Logged → ℕ → Type 0
IsCountedInTurn deeds log place =
    (entry : Entry) (index : ℕ) → slice_get log place ≡ Some (lines.Entry entry) → entry.index ≡ Some index
    → All (CountsEntry (length (entries_of (take place log))) index) deeds

-- The same of records of which those that tell a count were handled alone, each behind all before it: a count has the
-- entries that the worker made for the records before, their reserves among them, and no other that it made.
pub record MovesCounted (begin : Begin) (old new : View) (tasks : List Record) (deeds : List Deed) : Type 0 where
  pub moved : MovesWords begin old new tasks deeds
  pub entries : (place : ℕ) → 0 < stands place moved.made → IsCountedInTurn deeds (log_of new) place
  pub reserves : (place : ℕ) → 0 < stands place moved.made → IsDrawnInTurn moved.moves deeds (log_of new) place
