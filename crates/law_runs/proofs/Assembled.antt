-- The run is sound: what its worker did, with the releases behind it.
use Rattle.std.proofs.Common.{◌≡◌, ℕ, ◌+◌, ◌<◌, ◌≤◌, List, [], ◌++◌, length, refl, ap, arith, ◌-◌}
use Rattle.std.specs.List.{All, AllPairs, slice_index_or}
use Rattle.sdls_base.specs.declared.TheConstants.{MOST_KEYS}
use Rattle.sdls_base.specs.declared.entry.Entry.{Entry}
use Rattle.sdls_outside.specs.Faults.{Rose}
use Rattle.counter_table.specs.declared.view.View.{View}
use Rattle.counter_table.specs.Whole.{RowStands, IsWhole}
use Rattle.record_io.specs.Answers.{IsAnswer}
use Rattle.record_io.specs.Answers.{IsAnswer}
use Rattle.record_io.specs.Places.{Place, records_of}
use Rattle.unit_plan.specs.PlanRules.{IsPlan}
use Rattle.unit_state.specs.State.{KeepsRules}
use Rattle.unit_state.specs.Restart.{restarted}
use Rattle.unit_state.specs.History.{after_all, epoch_after}
use Rattle.run_promise.specs.History.{drawers, NearWord, IsLegalHistory, TurnIn}
use Rattle.run_promise.specs.Fits.{Course, Fits}
use Rattle.law_history.proofs.Along.{of_places}
use Rattle.run_promise.specs.Call.{Begin}
use Rattle.law_workers.specs.Views.{log_of, entries_in}
use Rattle.law_workers.specs.Work.{indexed}
use Rattle.run_promise.specs.Deed.{Deed, StandsBehind}
use Rattle.law_workers.specs.Deeds.{Does, StandsWithin, course_in}
use Rattle.law_workers.specs.Order.{Lined}
use Rattle.law_workers.proofs.Logs.{told_kept}
use Rattle.law_workers.specs.Opened.{IsJustOpened}
use Rattle.law_runs.specs.Release.{AreReleases}
use Rattle.run_promise.specs.Sound.{IsSound}
use Rattle.law_runs.specs.AtEnd.{StaysCovered}
use Rattle.law_workers.proofs.WholeRun.{rules_at_end, used_once, used_above, one_fault, order, none_made, answers_fit}
use Rattle.law_runs.proofs.Released.{legal_run, none_of_lanes, below_releases, fits_ended}
use Rattle.law_runs.proofs.Accepting.{accepts_differ, accepts_near, accepts_above}
use Rattle.law_runs.proofs.Covering.{stays_covered}
use Rattle.std.proofs.lemmas.List.{take-append-le}

behind_ended : (begin : Begin) (old new : View) (es rest : List Entry) (a b : Deed) → entries_in new ≡ es
    → StandsWithin begin old new a → StandsWithin begin old new b
    → StandsBehind begin es a b → StandsBehind begin (es ++ rest) a b
behind_ended begin old new es rest a b is s t h = record {
  entries = h.entries;
  counted = h.counted;
  counted_before = h.counted_before;
  counts = h.counts;
  stopped = h.stopped;
  failed = h.failed;
  ended = h.ended;
  epochs = λ x y.
      let k = h.epochs x y in
      let l = told_kept a.task.kind _ _ a.answer.position es rest (λ e. let w = (s.entry e).1 in
      let n : length (entries_in new) ≡ length es = ap length is in omega arith) x in
      let m = told_kept b.task.kind _ _ b.answer.position es rest (λ e. let w = (t.entry e).1 in
      let n : length (entries_in new) ≡ length es = ap length is in omega arith) y in
      omega arith;
  epochs_before = λ x y.
      let k = h.epochs_before x y in let within = (t.entry y).1 in let n : length (entries_in new) ≡ length es =
      ap length is in
      let same = ap epoch_after (take-append-le (b.answer.position - 1) es rest (omega arith)) in omega arith;
  numbers = h.numbers;
}

module _ (begin : Begin) (first now : View) (places : List Place) (deeds : List Deed)
    (is_opened : IsJustOpened begin first)
    (d : Does begin first now (records_of places) deeds) (whole : IsWhole begin.rows now)
    (rows : begin.rows ≡ MOST_KEYS)
    (plan_is : IsPlan begin.plan) (started : KeepsRules begin.start) (left : restarted begin.start ≡ begin.start)
    (words : ℕ → ℕ) (stand : (row : ℕ) → row < begin.rows → RowStands row (words row) now.numbers)
    (releases : List Entry) (are : AreReleases words begin.start (entries_in now) releases)
    (pieces : ℕ) (lined : Lined (TurnIn places) (log_of now) d.gains.made
    (length (records_of places) + drawers (records_of places)) pieces)
    (once : (i : ℕ) → indexed i (records_of places) ≤ 1)
    (ascend : AllPairs (λ (a b : Deed). a.task.index < b.task.index) deeds)
    (faults : ℕ) (fewer : now.turn.known.faults ≤ faults)
    (stopped : Rose now.turn.known.opening.faults now.turn.known.faults → releases ≡ []) where
  abbrev pub course : Course
  course = record (course_in begin now) { faults = faults; entries = entries_in now ++ releases }

  abbrev kept : KeepsRules (after_all begin.start (entries_in now))
  kept = rules_at_end begin first now places deeds is_opened d whole plan_is started

  abbrev pub history : IsLegalHistory begin.plan begin.start places (entries_in now ++ releases)
  history = record {
    plan_is = plan_is;
    rules = started;
    run = legal_run begin first now (records_of places) deeds is_opened d whole rows started
        (rules_at_end begin first now places deeds is_opened d whole plan_is started) words stand releases are
        (TurnIn places) pieces lined once;
  }

  fit : All (λ (a : Deed). Fits (NearWord begin.start (entries_in now ++ releases) (records_of places)) course a.task
      a.answer) deeds
  fit = fits_ended (records_of places) (course_in begin now) faults releases deeds fewer stopped
      (answers_fit begin first now (records_of places) deeds is_opened d whole rows started
      (rules_at_end begin first now places deeds is_opened d whole plan_is started))

  -- the run is sound
  pub sound_run : All (λ (a : Deed). IsAnswer a.answer) deeds → IsSound course places deeds
  sound_run widths = record {
    history = history;
    answers = fit;
    used_once = used_once begin first now (records_of places) deeds is_opened d whole rows started kept ascend;
    used_above = used_above begin first now (records_of places) deeds is_opened d whole rows started kept;
    accepted = accepts_differ (NearWord begin.start (entries_in now ++ releases) (records_of places)) course places
        history deeds ascend fit;
    accepted_above = λ k a low. accepts_above (NearWord begin.start (entries_in now ++ releases) (records_of places))
        course places history left
        (slice_index_or deeds k a) (fit k a low);
    accepted_near = accepts_near (NearWord begin.start (entries_in now ++ releases) (records_of places)) course places
        history deeds fit;
    one_fault = one_fault begin first now (records_of places) deeds is_opened d whole rows started kept ascend;
    order = λ i j a lt low turn. behind_ended begin first now (entries_in now) releases _ _ refl
        (d.answers.stand i a (omega arith)) (d.answers.stand j a low)
        (order begin first now (records_of places) deeds is_opened d whole rows started kept ascend i j a lt low turn);
    none_made = λ k a low code. none_of_lanes begin first now (records_of places) deeds is_opened d whole rows started
        kept words stand releases are
        (slice_index_or deeds k a).task.index
        (none_made begin first now (records_of places) deeds is_opened d whole rows started kept once k a low code);
    widths = widths;
  }

  -- and what covers an answer covers it to the end, over the releases
  pub covered_run : StaysCovered course deeds
  unfolding legal_run
  covered_run = stays_covered course (records_of places) (TurnIn places)
      (of_places begin.plan begin.start places (entries_in now ++ releases) history) deeds
      (below_releases begin first now (records_of places) deeds is_opened d whole rows started kept words stand releases
      are)
