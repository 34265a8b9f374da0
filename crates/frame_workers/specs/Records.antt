-- One record, handled by the worker of a lane (profile).
use Rattle.std.specs.Prelude.{◌≡◌, ℕ, Bool, Option}
use Rattle.counter_table.specs.declared.counters.Counters.{Counters}
use Rattle.counter_table.specs.declared.counters.Worker.{Worker}
use Rattle.counter_table.specs.Worker.{view}
use Rattle.record_io.specs.declared.answers.Answer.{Answer}
use Rattle.record_io.specs.declared.item_cursor.Record.{Record}
use Rattle.unit_plan.specs.PlanLines.{PlanLines}
use Rattle.shared_unit.specs.Turn.{IsReady, KnowsMoreOfBook}
use Rattle.run_promise.specs.Call.{Begin}
use Rattle.law_workers.specs.Began.{BeganWith}
use Rattle.law_workers.specs.Order.{Layout}
use Rattle.law_calls.specs.Answering.{Answered, AnsweredExactly}

-- The worker can make further calls, has the shares that it had, and knows no less of the book. Of a unit that began so
-- the answer fits the record and what the worker did; if it is the only one, down to each number drawn. There is no
-- answer if the run has as many entries as it may.
pub record HandlesRecord {B : Type 0} (told : Bool) (counters : Counters B) (plan : PlanLines) (old new : Worker B)
    (task : Record) (answer : Option Answer) : Type 0 where
  pub ready : IsReady counters plan new
  pub grows : KnowsMoreOfBook (view old).turn (view new).turn
  pub shares : (view new).numbers.shares ≡ (view old).numbers.shares
  pub answered : (layout : Layout) (begin : Begin) (segment : ℕ) → BeganWith told begin (view old).turn.known.opening
      → Answered layout begin segment (view old) (view new) task answer
  pub exactly : (begin : Begin) (segment : ℕ) → BeganWith told begin (view old).turn.known.opening
      → AnsweredExactly begin segment (view old) (view new) task answer
