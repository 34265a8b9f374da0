-- What was settled stays so while the run goes on, and a segment's answers are settled at the first put behind it.
use Rattle.std.proofs.Common.{◌≡◌, ℕ, suc, ◌+◌, ◌<◌, ◌≤◌, List, [], ◌∷◌, ◌++◌, length, take, IsTrue, refl, sym, ◌∙◌, ap}
use Rattle.std.proofs.Common.{subst, arith, le_trans, append_assoc, length-append}
use Rattle.std.specs.List.{All, slice_index_or}
use Rattle.std.proofs.lemmas.List.{take-append-le, take_all}
use Rattle.sdls_base.specs.Numbers.{tally}
use Rattle.sdls_base.specs.declared.entry.Entry.{Entry}
use Rattle.sdls_base.specs.declared.entry.Logged.{Logged}
use Rattle.counter_table.specs.declared.view.View.{View}
use Rattle.record_io.specs.declared.item_cursor.Record.{Record}
use Rattle.record_io.specs.Answers.{answer_octets}
use Rattle.unit_state.specs.History.{after_all, after_first, epoch_after}
use Rattle.run_promise.specs.Log.{entries_of, pieces_of}
use Rattle.run_promise.specs.Answers.{Accepts}
use Rattle.run_promise.specs.Numbers.{kept_floor}
use Rattle.run_promise.specs.Fits.{Course}
use Rattle.run_promise.specs.Call.{Begin}
use Rattle.law_workers.specs.Views.{log_of, entries_in, KnowsMore}
use Rattle.run_promise.specs.Deed.{Deed, tells_entry, epoch_told}
use Rattle.law_workers.specs.Deeds.{Does, course_in}
use Rattle.law_workers.proofs.Logs.{entries_low, told_kept, times_both}
use Rattle.law_workers.proofs.Working.{grown_entries, row_later, told_later}
use Rattle.law_workers.proofs.Joining.{grows_itself}
use Rattle.run_promise.specs.Sound.{deeds_octets, IsCoveredBy}
use Rattle.law_runs.specs.Settled.{AnswerIsSettled, AreSettled}
use Rattle.law_workers.specs.Settles.{SettlesAt}

pub octets_both : (a b : List Deed) → deeds_octets (a ++ b) ≡ deeds_octets a ++ deeds_octets b
octets_both [] b = refl
octets_both (d ∷ a) b = ap (λ (l : List ℕ). answer_octets d.answer ++ l) (octets_both a b)
    ∙ sym (append_assoc (answer_octets d.answer) (deeds_octets a) (deeds_octets b))

-- what was settled stays so while the log grows
module _ (begin : Begin) (v w : View) (grows : KnowsMore v w) (stored more : ℕ) (fewer : stored ≤ more) where
  rest : List Logged
  rest = grows.earlier.log.0

  log_is : log_of w ≡ log_of v ++ grows.earlier.log.0
  log_is = grows.earlier.log.1

  settled_one : (at : ℕ) (d : Deed) → AnswerIsSettled (course_in begin v) stored (log_of v) at d
      → AnswerIsSettled (course_in begin w) more (log_of w) at d
  settled_one at d h =
      let (r, es) = grown_entries v w grows in
      let inside = h.within in
      let lines : take h.lines (log_of w) ≡ take h.lines (log_of v) =
      ap (take h.lines) log_is ∙ take-append-le h.lines (log_of v) grows.earlier.log.0 inside in
      let size : length (log_of w) ≡ length (log_of v) + length grows.earlier.log.0 =
      ap length log_is ∙ length-append (log_of v) grows.earlier.log.0 in
      let s_low : h.entries ≤ length (entries_in v) =
      let a = entries_low (log_of v) h.lines (length (log_of v)) inside in
      let b : take (length (log_of v)) (log_of v) ≡ log_of v = take_all (length (log_of v)) (log_of v) (omega arith) in
      let c : length (entries_of (take (length (log_of v)) (log_of v))) ≡ length (entries_in v) =
      ap (λ (l : List Logged). length (entries_of l)) b in
      let e = h.low in omega arith in
      let first : take h.entries (entries_in w) ≡ take h.entries (entries_in v) =
      ap (take h.entries) es ∙ take-append-le h.entries (entries_in v) r s_low in
      let state : after_first begin.start (entries_in w) h.entries ≡ after_first begin.start (entries_in v) h.entries =
      ap (after_all begin.start) first in
      record {
        lines = h.lines;
        within = omega arith;
        before = rw lines h.before;
        entries = h.entries;
        low = rw lines h.low;
        is_stored = le_trans h.is_stored fewer;
        covered = record {
          entry = h.covered.entry;
          epoch = λ o. let a = h.covered.epoch o in
              let same : epoch_told (entries_in w) d ≡ epoch_told (entries_in v) d =
              ap (λ (l : List Entry). epoch_told l d) es
              ∙ told_kept d.task.kind _ _ d.answer.position (entries_in v) r (λ e. le_trans (h.covered.entry e) s_low)
              o in
              let here : epoch_after (take h.entries (entries_in w)) ≡ epoch_after (take h.entries (entries_in v)) =
              ap epoch_after first in omega arith;
          used = λ k n u. rw state (h.covered.used k n u);
          accepted = λ k n u. rw state (h.covered.accepted k n u);
        };
      }

  pub settled_later : (at : ℕ) (ds : List Deed) → AreSettled (course_in begin v) stored (log_of v) at ds
      → AreSettled (course_in begin w) more (log_of w) at ds
  settled_later at [] h = tt
  settled_later at (d ∷ ds) h = (settled_one at d h.0, settled_later (at + length (answer_octets d.answer)) ds h.1)

pub settled_both : (course : Course) (stored : ℕ) (log : List Logged) (at next : ℕ) (ds es : List Deed)
    → next ≡ at + length (deeds_octets ds)
    → AreSettled course stored log at ds → AreSettled course stored log next es
    → AreSettled course stored log at (ds ++ es)
settled_both course stored log at next [] es is a b =
    subst (λ (n : ℕ). AreSettled course stored log n es) (omega arith) b
settled_both course stored log at next (d ∷ ds) es is a b =
    let size = length-append (answer_octets d.answer) (deeds_octets ds) in
    (a.0, settled_both course stored log (at + length (answer_octets d.answer)) next ds es (omega arith) a.1 b)

module _ (begin : Begin) (u v z : View) (us : List Record) (es : List Deed) (d : Does begin u v us es)
    (grows : KnowsMore v z)
    (stored s count : ℕ) (tells : SettlesAt begin v z stored s count)
    (entered : All (λ (x : Deed). IsTrue (tells_entry x) → x.answer.position ≤ s) es)
    (floored : All (λ (x : Deed). (key number : ℕ) → Accepts x.answer key number
    → number ≤ kept_floor (after_first begin.start (entries_in z) s) key) es) where
  covered_one : (k : ℕ) (x : Deed) → k < length es → IsCoveredBy (course_in begin z) s (slice_index_or es k x)
  covered_one k x low = record {
    entry = entered k x low;
    epoch = λ o.
        let st = d.answers.stand k x low in
        let same = told_later begin u u v z (grows_itself u) grows (slice_index_or es k x) st o in
        let e = (st.epoch o).1 in let t = tells.epoch in omega arith;
    used = λ key number uses_it.
        let (row, few, is, in') = d.answers.used k x low key number uses_it in
        let t : tally row number v.numbers.spent ≡ tally row number u.numbers.spent + tally row number d.gains.spent =
        ap (tally row number) d.gained.spent ∙ times_both row number u.numbers.spent d.gains.spent in
        tells.marks key row number few (row_later begin u u v z (grows_itself u) grows key row is) (omega arith);
    accepted = floored k x low;
  }

  settled_from : (at : ℕ) (ds : List Deed) → length (pieces_of (take count (log_of z))) ≤ at
      → All (IsCoveredBy (course_in begin z) s) ds → AreSettled (course_in begin z) stored (log_of z) at ds
  settled_from at [] before h = tt
  settled_from at (x ∷ ds) before h = (
    record {
      lines = count;
      within = tells.within;
      before = before;
      entries = s;
      low = tells.low;
      is_stored = tells.is_stored;
      covered = h 0 x (omega arith);
    },
    settled_from (at + length (answer_octets x.answer)) ds (omega arith) (λ k e low. h (suc k) e (omega arith)),
  )

  pub settle : (at : ℕ) → length (pieces_of (take count (log_of z))) ≤ at
      → AreSettled (course_in begin z) stored (log_of z) at es
  settle at before = settled_from at es before covered_one
