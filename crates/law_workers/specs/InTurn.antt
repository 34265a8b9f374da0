-- One lane alone, between two views of its worker: the records were served one after the other (profile).
use Rattle.std.specs.Prelude.{◌≡◌, ◌⊎◌, ℕ, ◌+◌, ◌<◌, ◌≤◌, Bool, IsTrue, List, [], ◌++◌, length, take}
use Rattle.sdls_base.specs.Numbers.{tally}
use Rattle.sdls_base.specs.declared.entry.Entry.{Entry}
use Rattle.counter_table.specs.declared.view.View.{View}
use Rattle.sdls_outside.specs.Faults.{Rose}
use Rattle.counter_table.specs.Turn.{stands, epoch_seen}
use Rattle.unit_state.specs.History.{after_all, epoch_after}
use Rattle.run_promise.specs.Numbers.{mark_of}
use Rattle.run_promise.specs.Call.{Begin}
use Rattle.law_workers.specs.Views.{IsRow, log_of, entries_in}
use Rattle.run_promise.specs.Deed.{Deed}
use Rattle.run_promise.specs.Words.{Move}
use Rattle.run_promise.specs.OneLane.{ServesAll, failed_after}

-- all lines of the new log behind those of the old one stand at these places
abbrev pub MadeAllLines : View → View → List ℕ → Type 0
MadeAllLines old new made = (place : ℕ) → length (log_of old) ≤ place → place < length (log_of new)
    → 0 < stands place made

-- the site had not failed since the opening, as far as the view knows
abbrev pub IsClean : View → Type 0
IsClean view = ¬ Rose view.turn.known.opening.faults view.turn.known.faults

-- the entries that stand: all but for a last one whose append failed
abbrev pub stood_in : View → List Entry
stood_in view = take view.turn.known.standing (entries_in view)

-- all entries of the log stand
abbrev pub AllStand : View → Type 0
AllStand view = length (entries_in view) ≤ view.turn.known.standing

-- One entry at most does not stand, and only where the site failed. The epoch that the view has seen is no less than
-- that of the entries that stand.
pub record IsLevel (view : View) : Type 0 where
  pub few : length (entries_in view) ≤ view.turn.known.standing + 1
  pub all : IsClean view → AllStand view
  pub epoch : epoch_after (stood_in view) ≤ epoch_seen view.turn

-- the number is below the mark of its key, in the state that the view knows
abbrev pub IsMarked : Begin → View → ℕ → ℕ → Type 0
IsMarked begin view key number = number < mark_of (after_all begin.start (stood_in view)) key

-- so is each of these numbers, by the row of its key
abbrev pub AreMarked : Begin → View → List (ℕ × ℕ) → Type 0
AreMarked begin view numbers =
    (key row number : ℕ) → row < begin.rows → IsRow begin view key row → 0 < tally row number numbers
    → IsMarked begin view key number

-- Each of these numbers is known to be below its mark, and the epoch that was seen is no greater than that of the
-- entries that stand.
pub record IsBacked (begin : Begin) (view : View) (numbers : List (ℕ × ℕ)) : Type 0 where
  pub marks : AreMarked begin view numbers
  pub epoch : epoch_seen view.turn ≤ epoch_after (stood_in view)

-- the numbers are among these
abbrev pub AreOf : List (ℕ × ℕ) → List (ℕ × ℕ) → Type 0
AreOf numbers all = (row number : ℕ) → 0 < tally row number numbers → 0 < tally row number all

-- what a record without an answer left behind the entries of those before it: an entry at most, behind which none was
-- left out, and none where each record has its answer
abbrev pub IsLeftBehind : View → List Move → List Entry → Type 0
IsLeftBehind view last rest = (last ≡ [] → rest ≡ []) × ((rest ≡ []) ⊎ ((length rest ≤ 1) × AllStand view))

-- Where no other worker made a line meanwhile, the answered records were served in turn from the entries that stood in
-- the old view, once what was spent and seen is known to be backed; they made all entries that stand in the new view
-- behind those of the old one, but for what a record without an answer left. Last is empty where each record has its
-- answer. If not all entries stand, it was so before, or an answer has told it.
pub record ServedBetween (begin : Begin) (old new : View) (made : List ℕ) (spent : List (ℕ × ℕ)) (deeds : List Deed)
    (moves last : List Move) : Type 0 where
  pub spent_is : new.numbers.spent ≡ old.numbers.spent ++ spent
  pub level : IsLevel old → IsLevel new
  pub served : MadeAllLines old new made → IsLevel old → IsBacked begin new spent
      → (own : List Entry) × (rest : List Entry) × (stood_in new ≡ stood_in old ++ (own ++ rest))
      × ((failed : Bool) → (¬ AllStand old → IsTrue failed) → ServesAll begin failed (stood_in old) deeds moves own
      × (¬ AllStand new → IsTrue (failed_after failed deeds)))
      × IsLeftBehind new last rest

-- The same of a worker that began with the old view: what it had spent and seen before is backed at the old view where
-- it is at the new one, since the turn was taken wherever a line was made.
pub record ServedInTurn (begin : Begin) (old new : View) (made : List ℕ) (spent : List (ℕ × ℕ)) (deeds : List Deed)
    (moves last : List Move) : Type 0 where
  pub above : (place : ℕ) → 0 < stands place made → length (log_of old) ≤ place
  pub backed : MadeAllLines old new made → IsLevel old → (numbers : List (ℕ × ℕ)) → AreOf numbers old.numbers.spent
      → IsBacked begin new numbers → IsBacked begin old numbers
  pub between : ServedBetween begin old new made spent deeds moves last
