-- A segment that a unit of a drill handled: for `DrillUnit::serve`.
use Rattle.std.proofs.Common.{◌≡◌, ℕ, ◌≤◌, true, false, Bool, List, length, refl, sym, subst, arith}
use Rattle.std.specs.List.{All, list_any}
use Rattle.std.proofs.lemmas.Option.{slice_get_within}
use Rattle.sdls_base.specs.declared.TheConstants.{MOST_KEYS}
use Rattle.counter_table.specs.declared.view.Opening.{Opening}
use Rattle.counter_table.specs.declared.view.View.{View}
use Rattle.counter_table.specs.Whole.{IsWhole}
use Rattle.record_io.specs.Answers.{IsAnswer}
use Rattle.record_io.specs.declared.answers.Answer.{Answer}
use Rattle.record_io.specs.declared.item_cursor.Record.{Record}
use Rattle.run_promise.specs.Call.{Begin}
use Rattle.law_workers.specs.Deeds.{deeds_of}
use Rattle.law_workers.specs.Order.{Handled, Layout, LiesIn}
use Rattle.law_workers.specs.Began.{BeganWith}
use Rattle.law_workers.specs.Ends.{EndsSegment}
use Rattle.unit_drill.specs.Chunks.{HandlesSegment}
use Rattle.unit_drill.specs.UnitRun.{says_fault}
use Rattle.unit_drill.proofs.Tasks.{OnLane, drill_layout, drill_lies}

pub served : (v w : View) (tasks : List Record) (answers : List Answer) (full : Bool) (ahead : ℕ)
    → All (OnLane ahead) tasks
    → ((begin : Begin) (layout : Layout) (number : ℕ) → BeganWith true begin v.turn.known.opening
    → LiesIn layout number tasks
    → Handled layout begin v w tasks (deeds_of number tasks answers))
    → ((begin : Begin) → BeganWith true begin v.turn.known.opening → EndsSegment begin v w tasks answers full)
    → list_any says_fault answers ≡ false → All IsAnswer answers → IsWhole MOST_KEYS w
    → (begin : Begin) → BeganWith true begin v.turn.known.opening
    → HandlesSegment begin v w tasks answers × BeganWith true begin w.turn.known.opening
served v w tasks answers full ahead lanes handled ends quiet widths whole begin began = (
  record {
    handled = λ layout number lies. handled begin layout number began lies;
    full = full;
    ends = ends begin began;
    quiet = quiet;
    widths = widths;
    whole = whole;
  },
  subst (λ (o : Opening). BeganWith true begin o)
      (sym (handled begin (drill_layout ahead) 0 began (drill_lies ahead tasks lanes)).does.grows.opening) began,
)

few : (begin : Begin) (v w : View) (tasks : List Record) (answers : List Answer) (full : Bool)
    → EndsSegment begin v w tasks answers full → length answers ≤ length tasks
few begin v w tasks answers false ends = omega arith
few begin v w tasks answers true ends = let low = slice_get_within tasks (length answers) ends.0 ends.1 in omega arith

abbrev begin_with : Opening → Begin
begin_with opening = record { rows = MOST_KEYS; told = true; plan = opening.plan; start = opening.start }

-- no more answers than records
pub few_answers : (v w : View) (tasks : List Record) (answers : List Answer) (full : Bool)
    → ((begin : Begin) → BeganWith true begin v.turn.known.opening → EndsSegment begin v w tasks answers full)
    → length answers ≤ length tasks
few_answers v w tasks answers full ends =
    few (begin_with v.turn.known.opening) v w tasks answers full (ends (begin_with v.turn.known.opening)
    (record { rows = refl; tells = refl; plan = refl; start = refl }))
