-- What is known of the two books of a worker that took the turn once.
use Rattle.std.proofs.Common.{◌≡◌, ℕ, ◌-◌, ◌<◌, ◌≤◌, Bool, false, nat_lt, List, ◌++◌, length, take, Some, sym, ◌∙◌, ap}
use Rattle.std.proofs.Common.{subst, arith, inl, inr, length-append}
use Rattle.std.proofs.lemmas.Bool.{cases_lt}
use Rattle.std.proofs.lemmas.Bool.Decides.{nat_tests}
use Rattle.std.proofs.lemmas.List.{take-append-le}
use Rattle.sdls_base.specs.Numbers.{one_if, once_below}
use Rattle.sdls_base.specs.declared.TheConstants.{MOST_KEYS}
use Rattle.sdls_base.specs.declared.entry.Entry.{Entry}
use Rattle.sdls_base.specs.declared.entry.Logged.{Logged}
use Rattle.sdls_outside.specs.Faults.{Rose}
use Rattle.key_book.specs.KeyBook.{place_of}
use Rattle.unit_state.specs.declared.state.State.{State}
use Rattle.unit_state.specs.History.{after_all, after_first, epoch_after}
use Rattle.counter_table.specs.declared.view.Opening.{Opening}
use Rattle.counter_table.specs.declared.view.Turn.{Turn}
use Rattle.counter_table.specs.Known.{Earlier, IsSparing}
use Rattle.counter_table.specs.Turn.{epoch_seen, places}
use Rattle.run_promise.specs.Log.{entries_of}
use Rattle.unit_book.specs.Book.{BookView}
use Rattle.unit_book.proofs.KeptLaws.{kept_whole, bounds_of}
use Rattle.shared_unit.specs.Told.{known_of_book}
use Rattle.shared_unit.specs.Turn.{taking_once, Visits}
use Rattle.shared_unit.proofs.Steps.{earlier_again, sparing_again}
use Rattle.run_promise.specs.Call.{Begin}
use Rattle.law_workers.proofs.Histories.{row_kept_first, entries_both as both}
use Rattle.law_workers.specs.Began.{BeganWith}
use Rattle.law_calls.proofs.Behind.{lines_of, lines_entries, lines_length}
use Rattle.law_calls.proofs.OneRecord.{Turned}

-- a number that is counted below a mark is below it
pub below_mark : (number mark : ℕ) → 0 < once_below number mark → number < mark
below_mark number mark h = elim (cases_lt number mark) [
  | inl less ↦ less
  | inr more ↦
      let f : nat_lt number mark ≡ false = grind (arith, nat_tests) in
      let k : 0 < one_if false = subst (λ (b : Bool). 0 < one_if b) f h in absurd (omega arith)
]

module _ (told : Bool) (begin : Begin) (found given : BookView) (v w : Turn)
    (began : BeganWith told begin v.known.opening) (free : v.holds ≡ false) (visits : Visits told found given v w) where
  turn_is : w ≡ taking_once (known_of_book found) (known_of_book given) v
  turn_is = visits.takes.turn

  opening_is : (known_of_book given).opening ≡ v.known.opening
  opening_is = visits.takes.opening ∙ visits.takes.follows.opening

  pub found_opening : (known_of_book found).opening ≡ v.known.opening
  found_opening = visits.takes.follows.opening

  pub plan_is : found.plan ≡ begin.plan
  plan_is = ap (λ (o : Opening). o.plan) found_opening ∙ began.plan

  pub start_is : found.start ≡ begin.start
  start_is = ap (λ (o : Opening). o.start) found_opening ∙ began.start

  -- no more puts failed than pieces were put
  pub sparing_seen : IsSparing v.known w.known
  sparing_seen = subst (λ (t : Turn). IsSparing v.known t.known) (sym turn_is)
      (sparing_again v.known (known_of_book found) (known_of_book given) visits.takes.follows.earlier
      visits.takes.earlier
      visits.takes.opening visits.takes.follows.sparing visits.takes.sparing)

  -- what is known afterwards
  pub log_is : w.known.log ≡ given.log
  log_is = ap (λ (t : Turn). t.known.log) turn_is

  pub faults_are : w.known.faults ≡ given.site.faults
  faults_are = ap (λ (t : Turn). t.known.faults) turn_is

  pub changes_are : w.known.changes ≡ given.changes
  changes_are = ap (λ (t : Turn). t.known.changes) turn_is

  pub began_faults : w.known.opening.faults ≡ found.opened.faults
  began_faults = ap (λ (t : Turn). t.known.opening.faults) turn_is ∙ ap (λ (o : Opening). o.faults) visits.takes.opening

  pub before_faults : v.known.opening.faults ≡ found.opened.faults
  before_faults = ap (λ (o : Opening). o.faults) (sym found_opening)

  -- what had failed before had failed when the book was found
  pub risen_found : Rose v.known.opening.faults v.known.faults → Rose found.opened.faults found.site.faults
  risen_found risen =
      let low = visits.takes.follows.earlier.faults in
      let at : Rose found.opened.faults v.known.faults = subst (λ (n : ℕ). Rose n v.known.faults) before_faults risen in
      omega arith

  pub log_low : length v.known.log ≤ length found.log
  log_low =
      let r = visits.takes.follows.earlier.log in
      let s : length found.log ≡ length (v.known.log ++ r.0) = ap length r.1 in
      let t = length-append v.known.log r.0 in omega arith

  pub entries_low : length (entries_of v.known.log) ≤ length (entries_of found.log)
  entries_low =
      let r = visits.takes.follows.earlier.log in
      let s : length (entries_of found.log) ≡ length (entries_of (v.known.log ++ r.0)) =
      ap (λ (l : List Logged). length (entries_of l)) r.1 in
      let t = entries_first v.known.log r.0 in omega arith where
        entries_first : (a b : List Logged) → length (entries_of a) ≤ length (entries_of (a ++ b))
        entries_first a b = let h : length (entries_of (a ++ b)) ≡ length (entries_of a ++ entries_of b) =
            ap length (both a b) in
            let k = length-append (entries_of a) (entries_of b) in omega arith

  pub epoch_low : epoch_seen v ≤ found.changes
  epoch_low = let a = visits.takes.follows.epoch in let b = visits.takes.follows.earlier.changes in omega arith

  pub epoch_high : given.changes ≤ epoch_seen w
  epoch_high = let h = changes_are in omega arith

  -- the state that was found, among the entries as they are known afterwards
  pub led : found.state ≡ after_first begin.start (entries_of found.log) found.standing
  led = visits.found_kept.led ∙ ap (λ (s : State). after_first s (entries_of found.log) found.standing) start_is

  pub whole : ¬ Rose found.opened.faults found.site.faults
      → (found.state ≡ after_all begin.start (entries_of found.log))
      × (found.changes ≡ epoch_after (entries_of found.log))
  whole not =
      let k = kept_whole told found visits.found_kept not in
      (k.0 ∙ ap (λ (s : State). after_all s (entries_of found.log)) start_is, k.1)

  pub row_below : (key row : ℕ) → place_of found.state.keys key ≡ Some row → row < begin.rows
  row_below key row place =
      let h : row < MOST_KEYS = (bounds_of found.state visits.found_kept.rules).places key row place in
      let rows = began.rows in omega arith

  -- what stands behind the log that was found
  known_rest : entries_of w.known.log ≡ entries_of found.log ++ entries_of visits.takes.earlier.log.0
  known_rest = ap entries_of (log_is ∙ visits.takes.earlier.log.1) ∙ both found.log visits.takes.earlier.log.0

  -- the first entries, as they were found
  pub first_found : (p : ℕ) → p ≤ length (entries_of found.log)
      → after_first begin.start (entries_of w.known.log) p ≡ after_first begin.start (entries_of found.log) p
  first_found p low = ap (λ (l : List Entry). after_first begin.start l p) known_rest
      ∙ ap (after_all begin.start) (take-append-le p (entries_of found.log) (entries_of visits.takes.earlier.log.0) low)

  -- the entries that stood, as they were found
  pub standing_found : take found.standing (entries_of w.known.log) ≡ take found.standing (entries_of found.log)
  standing_found = ap (take found.standing) known_rest
      ∙ take-append-le found.standing (entries_of found.log) (entries_of visits.takes.earlier.log.0)
      visits.found_kept.stands

  pub found_within : found.standing ≤ length (entries_of w.known.log)
  found_within =
      let s : length (entries_of w.known.log) ≡ length (entries_of found.log ++ entries_of visits.takes.earlier.log.0) =
      ap length known_rest in
      let t = length-append (entries_of found.log) (entries_of visits.takes.earlier.log.0) in
      let l = visits.found_kept.stands in omega arith

  pub led_known : found.state ≡ after_first begin.start (entries_of w.known.log) found.standing
  led_known = led ∙ sym (first_found found.standing visits.found_kept.stands)

  pub row_known : (key row : ℕ) → place_of found.state.keys key ≡ Some row
      → place_of (after_all begin.start (entries_of w.known.log)).keys key ≡ Some row
  row_known key row place = row_kept_first begin.start (entries_of w.known.log) found.standing key row
      (ap (λ (s : State). place_of s.keys key) (sym led_known) ∙ place)

  module _ (es : List Entry) (added : given.log ≡ found.log ++ lines_of es) where
    pub known_log : w.known.log ≡ found.log ++ lines_of es
    known_log = log_is ∙ added

    pub known_entries : entries_of w.known.log ≡ entries_of found.log ++ es
    known_entries = ap entries_of known_log ∙ lines_entries found.log es

    pub given_entries : entries_of given.log ≡ entries_of found.log ++ es
    given_entries = ap entries_of added ∙ lines_entries found.log es

    pub turned : Turned found.log es v w
    turned =
        let size : length given.log - length found.log ≡ length es =
        (let s : length given.log ≡ length (found.log ++ lines_of es) = ap length added in
        let t = length-append found.log (lines_of es) in
        let u = lines_length es in omega arith) in
        record {
          earlier = subst (λ (t : Turn). Earlier v.known t.known) (sym turn_is)
              (earlier_again v.known (known_of_book found) (known_of_book given) visits.takes.follows.earlier
              visits.takes.earlier visits.takes.opening);
          sparing = sparing_seen;
          opening = ap (λ (t : Turn). t.known.opening) turn_is ∙ opening_is;
          epochs = (let a = epoch_low in let b = epoch_high in let c = visits.takes.earlier.changes in omega arith);
          low = log_low;
          log_is = known_log;
          made = ap (λ (t : Turn). t.made) turn_is ∙ ap (λ (n : ℕ). v.made ++ places (length found.log) n) size;
          holds = ap (λ (t : Turn). t.holds) turn_is ∙ sym free;
          filled = ap (λ (t : Turn). t.filled) turn_is;
        }
