-- A monitoring message, which the log answers: its worker only looks into the book (profile).
use Rattle.std.specs.Prelude.{◌≡◌, ◌⊎◌, ℕ, List, length, Result}
use Rattle.counter_table.specs.declared.view.View.{View}
use Rattle.record_io.specs.declared.answers.Answer.{Answer}
use Rattle.record_io.specs.declared.item_cursor.Record.{Record}
use Rattle.run_promise.specs.Answers.{monitored_told, told_by}
use Rattle.run_promise.specs.Call.{Begin}
use Rattle.run_promise.specs.Fits.{IsWanting}
use Rattle.law_workers.specs.Views.{entries_in, log_of}
use Rattle.law_workers.specs.Work.{Worked}

-- From the old view to the new one the worker did nothing but look into the book, in which no line stood that it did
-- not know.
pub record Looked (begin : Begin) (old new : View) (tasks : List Record) : Type 0 where
  pub worked : Worked begin old new tasks
  pub numbers : new.numbers ≡ old.numbers
  pub made : new.turn.made ≡ old.turn.made
  pub log : log_of new ≡ log_of old

-- a reply or a fault, at the count of all entries; or memory ran out
abbrev pub IsReportAt : View → Answer → Type 0
IsReportAt view answer = ((said : Result (List ℕ) ℕ) × (told_by answer ≡ monitored_told said)
    × (answer.position ≡ length (entries_in view))) ⊎ IsWanting answer
