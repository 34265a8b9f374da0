-- One lane alone: its words `next` are those of the machine (profile).
use Rattle.std.specs.Prelude.{◌≡◌, ℕ, ◌+◌, ◌<◌, ◌≤◌, List, ◌++◌, slice_get, Contains, Option, Some, None}
use Rattle.sdls_base.specs.declared.entry.Entry.{Entry}
use Rattle.sdls_base.specs.declared.entry.Logged.{Logged}
use Rattle.sdls_base.specs.declared.entry.Logged.TheVariants as lines
use Rattle.sdls_base.specs.declared.entry.Seen.TheVariants as seens
use Rattle.std.specs.List.{All}
use Rattle.counter_table.specs.declared.view.View.{View}
use Rattle.counter_table.specs.Numbers.{amount, top}
use Rattle.counter_table.specs.Turn.{stands}
use Rattle.run_promise.specs.Call.{Begin}
use Rattle.law_workers.specs.Views.{log_of, entries_in}
use Rattle.run_promise.specs.Deed.{Deed}
use Rattle.run_promise.specs.Words.{Move, Drew, adds_all, LiesBetween, Runs, TellAll}

-- the words that a view knew last
abbrev pub words_in : View → ℕ → ℕ
words_in view row = top row view.numbers.nexts

-- the line, where it is a reserve, is of a number that one of the moves drew
abbrev pub IsOfMoves : List Move → Option Logged → Type 0
IsOfMoves moves line = (entry : Entry) → line ≡ Some (lines.Entry entry) → entry.index ≡ None
    → (row : ℕ) × (number : ℕ) × (entry.seen ≡ seens.Number number) × Contains moves (Drew row number)

-- What a worker did to the words, where it did it alone: each answered record made one move, and last may be the
-- move of a record without an answer; each move lies between the words of the two views; each reserve that it made
-- is of a number that it drew. Where no other worker moved a word meanwhile, that is where the words grew by these
-- moves and no more, the moves are the machine's, from the words of the old view.
pub record Exact (begin : Begin) (old new : View) (made : List ℕ) (deeds : List Deed) (last : List Move) : Type 0 where
  pub moves : List Move
  pub told : TellAll begin.start (entries_in new) deeds moves
  pub reserves : (place : ℕ) → 0 < stands place made → IsOfMoves (moves ++ last) (slice_get (log_of new) place)
  pub added : (row : ℕ) → amount row new.numbers.added ≡ amount row old.numbers.added + adds_all row (moves ++ last)
  pub between : All (LiesBetween begin.rows (words_in old) (words_in new)) (moves ++ last)
  pub grown : (row : ℕ) → words_in old row + adds_all row (moves ++ last) ≤ words_in new row
  pub exact : ((row : ℕ) → row < begin.rows → words_in new row ≡ words_in old row + adds_all row (moves ++ last))
      → Runs begin.rows (words_in old) (moves ++ last)
