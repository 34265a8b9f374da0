-- Calls that take the turn once (profile).
use Rattle.std.specs.Prelude.{◌≡◌, Bool, false}
use Rattle.counter_table.specs.declared.view.View.{View}
use Rattle.unit_book.specs.Book.{BookView}
use Rattle.shared_unit.specs.Turn.{Visits}
use Rattle.run_promise.specs.Call.{Begin}
use Rattle.law_workers.specs.Began.{BeganWith}

-- A worker of the run, which had not the turn, took it once, with the one book found and the other given back, and left
-- the numbers.
pub record Visited (told : Bool) (begin : Begin) (found given : BookView) (v w : View) : Type 0 where
  pub began : BeganWith told begin v.turn.known.opening
  pub free : v.turn.holds ≡ false
  pub visits : Visits told found given v.turn w.turn
  pub numbers : w.numbers ≡ v.numbers
