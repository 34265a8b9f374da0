-- A look at how many entries there are, by the one worker of a unit: for the clauses of `count_alone`.
use Rattle.std.proofs.Common.{◌≡◌, ℕ, ◌-◌, Bool, false, List, ◌++◌, length, sym, ◌∙◌, ap, subst, arith, append-nil}
use Rattle.sdls_base.specs.Numbers.{once_below}
use Rattle.sdls_base.specs.declared.entry.Logged.{Logged}
use Rattle.sdls_base.specs.declared.TheConstants.{MOST_KEYS}
use Rattle.counter_table.specs.declared.view.Known.{Known}
use Rattle.counter_table.specs.declared.view.Turn.{Turn}
use Rattle.counter_table.specs.declared.view.View.{View}
use Rattle.counter_table.specs.Play.{IsAsKnown}
use Rattle.counter_table.specs.Turn.{places, stands}
use Rattle.counter_table.specs.Whole.{IsWhole, RowStands}
use Rattle.record_io.specs.declared.item_cursor.Record.{Record}
use Rattle.unit_book.specs.Book.{BookView}
use Rattle.run_promise.specs.Log.{entries_of}
use Rattle.run_promise.specs.Call.{Begin}
use Rattle.shared_unit.specs.Told.{entry_count, known_of_book}
use Rattle.shared_unit.specs.Turn.{Visits}
use Rattle.law_workers.specs.Began.{BeganWith}
use Rattle.law_workers.specs.Reporting.{Looked}
use Rattle.law_workers.specs.Views.{entries_in, log_of}
use Rattle.law_workers.specs.Work.{Worked}
use Rattle.law_calls.specs.Visiting.{Visited}

module _ (told : Bool) (v w : View) (found : BookView) (free : v.turn.holds ≡ false) (numbers : w.numbers ≡ v.numbers)
    (visits : Visits told found found v.turn w.turn) (known : IsAsKnown v.turn (known_of_book found)) where
  known_is : w.turn.known ≡ known_of_book found
  known_is = ap (λ (t : Turn). t.known) visits.takes.turn

  pub counted_is : length (entries_in w) ≡ entry_count (known_of_book found)
  counted_is = ap (λ (k : Known). length (entries_of k.log)) known_is

  log_is : log_of w ≡ log_of v
  log_is = ap (λ (k : Known). k.log) known_is ∙ known.log

  pub opening_is : w.turn.known.opening ≡ v.turn.known.opening
  opening_is = ap (λ (k : Known). k.opening) known_is ∙ visits.takes.follows.opening

  made_is : w.turn.made ≡ v.turn.made
  made_is =
      let none : length found.log - length found.log ≡ 0 = omega arith in
      ap (λ (t : Turn). t.made) visits.takes.turn
      ∙ ap (λ (n : ℕ). v.turn.made ++ places (length found.log) n) none ∙ append-nil v.turn.made

  -- who has all shares did all
  pub whole_still : IsWhole MOST_KEYS v → IsWhole MOST_KEYS w
  whole_still whole = record {
    rows = λ row low. subst (λ (n : _). (next : ℕ) × RowStands row next n) (sym numbers) (whole.rows row low);
    made = λ x. ap (stands x) made_is ∙ whole.made x ∙ ap (λ (l : List Logged). once_below x (length l)) (sym log_is);
  }

  pub looked : (begin : Begin) (tasks : List Record) → BeganWith told begin v.turn.known.opening
      → (Visited told begin found found v w → Worked begin v w tasks) → Looked begin v w tasks
  looked begin tasks began works = record {
    worked = works (record { began = began; free = free; visits = visits; numbers = numbers });
    numbers = numbers;
    made = made_is;
    log = log_is;
  }
