-- What a call that takes the turn once makes of what the worker knows of the book (profile).
use Rattle.std.specs.Prelude.{◌≡◌, ◌⊎◌, ℕ, ◌+◌, ◌-◌, ◌≤◌, Bool, true, false, ◌++◌, length}
use Rattle.sdls_base.specs.declared.TheConstants.{MOST_KEYS}
use Rattle.unit_plan.specs.PlanLines.{PlanLines}
use Rattle.counter_table.specs.declared.view.Known.{Known}
use Rattle.counter_table.specs.declared.view.Turn.{Turn}
use Rattle.counter_table.specs.declared.view.View.{View}
use Rattle.counter_table.specs.declared.counters.Counters.{Counters}
use Rattle.counter_table.specs.declared.counters.Worker.{Worker}
use Rattle.counter_table.specs.Known.{Earlier, IsSparing}
use Rattle.counter_table.specs.Turn.{epoch_seen, loading, places, seeing}
use Rattle.counter_table.specs.Play.{Follows, IsCovered}
use Rattle.counter_table.specs.Worker.{view, IsOf}
use Rattle.unit_book.specs.Book.{BookView, IsKept}
use Rattle.shared_unit.specs.Told.{known_of_book}

-- The worker is of these counters, knows of a book that was opened with this plan, and has not the turn.
pub record IsReady {B : Type 0} (counters : Counters B) (plan : PlanLines) (worker : Worker B) : Type 0 where
  pub own : IsOf counters worker
  pub free : (view worker).turn.holds ≡ false
  pub filled : (view worker).turn.filled ≡ true
  pub planned : (view worker).turn.known.opening.plan ≡ plan

-- after the turn was taken once, with the one book found and the other given back
abbrev pub taking_once : Known → Known → Turn → Turn
taking_once found given v = record v {
  holds = false;
  turns = v.turns + 1;
  known = given;
  made = v.made ++ places (length found.log) (length given.log - length found.log);
}

-- The worker took the turn once: it found the one book, which follows what it knew, and gave back the other.
pub record TakesOnce (found given : Known) (v w : Turn) : Type 0 where
  pub follows : Follows v found
  pub earlier : Earlier found given
  pub sparing : IsSparing found given
  pub opening : given.opening ≡ found.opening
  pub turn : w ≡ taking_once found given v

-- the same of two kept books
pub record Visits (told : Bool) (found given : BookView) (v w : Turn) : Type 0 where
  pub found_kept : IsKept told found
  pub given_kept : IsKept told given
  pub takes : TakesOnce (known_of_book found) (known_of_book given) v w

-- The book that a call found under the turn is above each number that the worker had spent: it is below its row's mark.
pub record FindsCovered (told : Bool) (v w : View) : Type 0 where
  pub found : BookView
  pub given : BookView
  pub visits : Visits told found given v.turn w.turn
  pub covered : IsCovered MOST_KEYS v.numbers (known_of_book found)

-- what a worker knows of the book only grows
pub record KnowsMoreOfBook (v w : Turn) : Type 0 where
  pub earlier : Earlier v.known w.known
  pub sparing : IsSparing v.known w.known
  pub opening : w.known.opening ≡ v.known.opening
  pub epoch : epoch_seen v ≤ epoch_seen w

-- the epoch was loaded once, and is no less than the one seen before
pub record Loads (epoch : ℕ) (v w : Turn) : Type 0 where
  pub later : epoch_seen v ≤ epoch
  pub is : w ≡ seeing epoch v

-- The epoch was loaded so often, once or not at all: this is the one that was found, or else the one that was known.
pub record LoadsAtMostOnce (count epoch : ℕ) (v : Turn) : Type 0 where
  pub later : epoch_seen v ≤ epoch_seen (loading count epoch v)
  pub once : (count ≡ 1) ⊎ ((count ≡ 0) × (epoch ≡ v.epoch))
