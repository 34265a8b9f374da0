-- A segment that was handled, and whose answers were put: for the clauses of `serve`.
use Rattle.std.proofs.Common.{All, ◌≡◌, ◌≢◌, ◌⊎◌, inl, inr, Some, ℕ, ◌+◌, ◌≤◌, Bool, true, false, IsTrue, List, length}
use Rattle.std.proofs.Common.{Result, Ok, Err, refl, sym, ◌∙◌, ap, subst, arith}
use Rattle.std.specs.List.{slice_get}
use Rattle.std.proofs.lemmas.Option.{slice_get_within}
use Rattle.fsr_log.specs.Report.{Report}
use Rattle.record_io.specs.declared.reader.RecordKind.{RecordKind}
use Rattle.record_io.specs.declared.reader.RecordKind.TheVariants.{Protect, Open, Command, Monitor}
use Rattle.sdls_base.specs.declared.TheConstants.{MOST_KEYS}
use Rattle.counter_table.specs.declared.view.Opening.{Opening}
use Rattle.counter_table.specs.declared.view.View.{View}
use Rattle.counter_table.specs.Whole.{IsWhole}
use Rattle.record_io.specs.declared.answers.Answer.{Answer}
use Rattle.record_io.specs.declared.item_cursor.Record.{Record}
use Rattle.record_io.specs.Answers.{IsAnswer, answers_octets}
use Rattle.unit_book.specs.declared.fault.BookFault.{BookFault}
use Rattle.run_promise.specs.Call.{Begin}
use Rattle.sdls_outside.specs.Faults.{Rose}
use Rattle.run_promise.specs.declared.end.TheConstants.{MOST_ENTRIES}
use Rattle.law_workers.specs.Views.{entries_in, log_of}
use Rattle.law_workers.proofs.Histories.{entries_counted}
use Rattle.law_workers.specs.Deeds.{Ascend, deeds_of}
use Rattle.run_promise.specs.Deed.{Deed, is_entered}
use Rattle.law_workers.specs.Order.{Handled, Layout, LiesIn}
use Rattle.law_workers.proofs.Counting.{none_failed}
use Rattle.run_promise.specs.OneLane.{OneLane}
use Rattle.law_workers.specs.Alone.{ServedAlone}
use Rattle.law_workers.specs.Words.{MovesCounted}
use Rattle.law_workers.specs.Began.{BeganWith}
use Rattle.law_runs.specs.Segment.{HandlesAndPuts, PutsWell}
use Rattle.law_workers.specs.Ends.{EndsSegment}
use Rattle.cli_run.specs.Putting.{PutsOctets}
use Rattle.cli_run.specs.Reporting.{NotesAll, ReportsAll}
use Rattle.cli_run.specs.Serving.{ServesSegment, served_as}
use Rattle.cli_run.proofs.Lying.{own_layout, own_lies}

-- a run that began with this opening
abbrev pub begin_with : Bool → Opening → Begin
begin_with told opening = record {
  rows = MOST_KEYS;
  told = told;
  plan = opening.plan;
  start = opening.start;
}

pub began_with : (told : Bool) (opening : Opening) → BeganWith told (begin_with told opening) opening
began_with told opening = record {
  rows = refl;
  tells = refl;
  plan = refl;
  start = refl;
}

-- an entry is made of a record that is neither a Protect record nor a Monitor record
entered : (kind : RecordKind) → kind ≢ Protect → kind ≢ Monitor → IsTrue (is_entered kind)
entered Protect other plain = absurd (other refl)
entered Open other plain = refl
entered Command other plain = refl
entered Monitor other plain = absurd (plain refl)

entered_due : {P : Type 0} (kind : RecordKind) → kind ≢ Monitor → (kind ≢ Protect) ⊎ P → IsTrue (is_entered kind) ⊎ P
entered_due kind plain (inl other) = inl (entered kind other plain)
entered_due kind plain (inr may) = inr may

pub few_answers : (begin : Begin) (v mid : View) (tasks : List Record) (answers : List Answer) (full : Bool)
    → EndsSegment begin v mid tasks answers full
    → length answers ≤ length tasks
few_answers begin v mid tasks answers false same = omega arith
few_answers begin v mid tasks answers true (task, there, is) = let low =
    slice_get_within tasks (length answers) task there in omega arith

-- while records are handled no put fails
pub no_put_failed : (layout : Layout) (begin : Begin) (v mid : View) (tasks : List Record) (deeds : List Deed)
    → Handled layout begin v mid tasks deeds
    → IsWhole begin.rows v → IsWhole begin.rows mid → mid.turn.known.put_faults ≡ v.turn.known.put_faults
no_put_failed layout begin v mid tasks deeds handled whole_v whole_mid =
    none_failed begin v mid tasks deeds handled.does whole_mid whole_v (let a = handled.lined.few_pieces in omega arith)

module _ (told : Bool) (v mid w : View) (tasks : List Record) (up : Ascend tasks) (answers : List Answer)
    (result : Result (Unit {0}) BookFault)
    (handled : (begin : Begin) (layout : Layout) (number : ℕ) → BeganWith told begin v.turn.known.opening
    → LiesIn layout number tasks
    → Handled layout begin v mid tasks (deeds_of number tasks answers))
    (exactly : OneLane tasks → (begin : Begin) (number : ℕ) → BeganWith told begin v.turn.known.opening
    → ServedAlone begin v mid (length tasks) (deeds_of number tasks answers))
    (moved : (begin : Begin) (number : ℕ) → BeganWith told begin v.turn.known.opening
    → MovesCounted begin v mid tasks (deeds_of number tasks answers))
    (put : PutsOctets told (answers_octets answers) result mid w) (old new : Report)
    (noted : NotesAll tasks answers old new) (reported : ReportsAll tasks answers old)
    (widths : All IsAnswer answers)
    (plain : (task : Record) → slice_get tasks (length answers) ≡ Some task → task.kind ≢ Monitor) where
  own : (begin : Begin) (number : ℕ) → BeganWith told begin v.turn.known.opening
      → Handled (own_layout number tasks) begin v mid tasks (deeds_of number tasks answers)
  own begin number began = handled begin (own_layout number tasks) number began (own_lies number tasks up)

  mid_opening : mid.turn.known.opening ≡ v.turn.known.opening
  mid_opening = (own (begin_with told v.turn.known.opening) 0 (began_with told v.turn.known.opening)).does.grows.opening

  pub same_opening : w.turn.known.opening ≡ v.turn.known.opening
  same_opening = put.leaves.opening ∙ mid_opening

  module _ (begin : Begin) (began : BeganWith told begin v.turn.known.opening) (whole_v : IsWhole MOST_KEYS v)
      (whole_mid : IsWhole MOST_KEYS mid) (whole_w : IsWhole MOST_KEYS w) where
    began_mid : BeganWith told begin mid.turn.known.opening
    began_mid = subst (BeganWith told begin) (sym mid_opening) began

    whole_at : (u : View) → IsWhole MOST_KEYS u → IsWhole begin.rows u
    whole_at u h = subst (λ (rows : ℕ). IsWhole rows u) (sym began.rows) h

    handles : (full : Bool) → EndsSegment begin v mid tasks answers full
        → HandlesAndPuts begin v mid w tasks answers w.turn.known.standing
    handles full ends = record {
      handled = λ layout number lies. handled begin layout number began lies;
      few = few_answers begin v mid tasks answers full ends;
      widths = widths;
      whole_mid = whole_at mid whole_mid;
      whole = whole_at w whole_w;
      puts = put.leaves.puts begin began_mid;
      known = mid.turn.known.standing;
      settles = put.settles begin began_mid;
      entered = λ number k d low told. ((own begin number began).does.answers.stand k d low).stored told;
      exactly = λ one number. exactly one begin number began;
      same_numbers = put.leaves.numbers;
      moved = λ number. moved begin number began;
    }

    stands : v.turn.known.standing ≤ w.turn.known.standing
    stands =
        let a = (own begin 0 began).does.grows.earlier.standing in
        let b = (put.leaves.puts begin began_mid).does.grows.earlier.standing in
        omega arith

    none : mid.turn.known.put_faults ≡ v.turn.known.put_faults
    none = no_put_failed (own_layout 0 tasks) begin v mid tasks (deeds_of 0 tasks answers) (own begin 0 began)
        (whole_at v whole_v) (whole_at mid whole_mid)

    -- no fault came, where no put failed and all entries stand
    still : w.turn.known.put_faults ≡ mid.turn.known.put_faults → MOST_ENTRIES ≤ mid.turn.known.standing
        → ¬ Rose v.turn.known.opening.faults v.turn.known.faults → length (entries_in mid) ≤ MOST_ENTRIES
        → ¬ Rose w.turn.known.opening.faults w.turn.known.faults
    still same stood not few rose =
        let first = (own begin 0 began).does in
        let puts = put.leaves.puts begin began_mid in
        let low = puts.does.grows.earlier.standing in
        let mid_counted = entries_counted (log_of mid) in
        let counted = entries_counted (log_of w) in
        let size = ap length puts.entries in
        let none_put = none in
        let mid_rose : Rose w.turn.known.opening.faults mid.turn.known.faults =
        puts.does.sparing.1 rose (omega arith) (omega arith) in
        let v_rose =
        first.sparing.1 (subst (λ (o : Opening). Rose o.faults mid.turn.known.faults) puts.does.grows.opening
        mid_rose) (omega arith) (omega arith) in
        not (subst (λ (o : Opening). Rose o.faults v.turn.known.faults) first.grows.opening v_rose)

    tells : IsTrue begin.told → IsTrue told
    tells is_told = subst IsTrue began.tells is_told

    pub serves : (full : Bool) → EndsSegment begin v mid tasks answers full
        → ServesSegment begin tasks (served_as result full) v w old new
    serves full ends = go result full ends put
      where
        well : (done : Unit {0}) → PutsOctets {T = Unit {0}} {E = BookFault} told (answers_octets answers) (Ok done) mid
            w
            → PutsWell begin mid w answers v.turn.known.put_faults w.turn.known.put_faults
        well done p = record { octets = λ is_told. p.adds (tells is_told); none_failed = p.leaves.counted ∙ none }

        go : (r : Result (Unit {0}) BookFault) (f : Bool) → EndsSegment begin v mid tasks answers f
            → PutsOctets told (answers_octets answers) r mid w
            → ServesSegment begin tasks (served_as r f) v w old new
        go (Ok done) false same p = record {
          mid = mid;
          answers = answers;
          handles = handles false same;
          stands = stands;
          noted = noted;
          reported = reported;
          so = (well done p, same);
        }
        go (Ok done) true (task, there, is) p = record {
          mid = mid;
          answers = answers;
          handles = handles true (task, there, is);
          stands = stands;
          noted = noted;
          reported = reported;
          so = (
            well done p,
            record {
              task = task;
              first_without = there;
              full = is.full;
              not_failed =
                  still p.leaves.counted is.stood is.not_failed;
              due = entered_due task.kind (plain task there) is.due;
              unmade = is.unmade;
            },
          );
        }
        go (Err fault) f ends p = record {
          mid = mid;
          answers = answers;
          handles = handles f ends;
          stands = stands;
          noted = noted;
          reported = reported;
          so = record {
            octets = λ is_told. p.adds (tells is_told);
            one_failed = p.leaves.counted ∙ ap (λ (n : ℕ). n + 1) none;
            rose = p.leaves.rose;
          };
        }
