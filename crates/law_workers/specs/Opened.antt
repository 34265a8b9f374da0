-- The first worker of a unit, when it was opened (profile).
use Rattle.std.specs.Prelude.{◌≡◌, ℕ, ◌+◌, ◌<◌, ◌≤◌, []}
use Rattle.counter_table.specs.declared.view.View.{View}
use Rattle.counter_table.specs.Numbers.{amount, top}
use Rattle.run_promise.specs.Numbers.{mark_at}
use Rattle.run_promise.specs.Call.{Begin}
use Rattle.law_workers.specs.Views.{log_of}

-- Nothing was drawn, put or entered, and the word `next` of each row was raised to its key's mark, or to 1 where it has
-- none.
pub record IsJustOpened (begin : Begin) (view : View) : Type 0 where
  pub none_drawn : view.numbers.drawn ≡ []
  pub none_made : view.turn.made ≡ []
  pub no_log : log_of view ≡ []
  pub nexts : (row : ℕ) → row < begin.rows → top row view.numbers.nexts ≡ mark_at begin.start row
  pub raised : (row : ℕ) → row < begin.rows → top row view.numbers.raised ≤ mark_at begin.start row
  pub added : (row : ℕ) → row < begin.rows → top row view.numbers.nexts ≡ 1 + amount row view.numbers.added
