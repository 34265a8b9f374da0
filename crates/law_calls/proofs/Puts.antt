-- What was done by a worker that visited the book and left it, or put octets; and what the first put behind a segment
-- settles.
use Rattle.std.proofs.Common.{◌≡◌, ℕ, ◌+◌, ◌-◌, ◌<◌, Bool, false, List, [], ◌∷◌, ◌++◌, length, take, drop, Some, Result}
use Rattle.std.proofs.Common.{refl, sym, ◌∙◌, ap, subst, arith, inl, inr, append-nil, length-append, if◌then◌else◌, eqb}
use Rattle.std.specs.List.{slice_get}
use Rattle.std.proofs.lemmas.Bool.{cases_eq}
use Rattle.std.proofs.lemmas.Bool.Decides.{nat_tests}
use Rattle.std.proofs.lemmas.List.{take-append-drop, take-append-le, take_all}
use Rattle.sdls_base.specs.declared.entry.Logged.{Logged}
use Rattle.sdls_base.specs.declared.entry.Logged.TheVariants as lines
use Rattle.sdls_base.specs.declared.TheConstants.{MOST_KEYS}
use Rattle.sdls_outside.specs.Faults.{Rose}
use Rattle.key_book.specs.KeyBook.{place_of}
use Rattle.record_io.specs.declared.item_cursor.Record.{Record}
use Rattle.unit_state.specs.declared.state.State.{State}
use Rattle.unit_state.specs.History.{after_all, after_first, epoch_after}
use Rattle.counter_table.specs.declared.view.Numbers.{Numbers}
use Rattle.counter_table.specs.declared.view.Opening.{Opening}
use Rattle.counter_table.specs.declared.view.Turn.{Turn}
use Rattle.counter_table.specs.declared.view.View.{View}
use Rattle.counter_table.specs.Known.{IsSparing}
use Rattle.counter_table.specs.Play.{IsCovered}
use Rattle.counter_table.specs.Turn.{places, stands}
use Rattle.run_promise.specs.Log.{entries_of}
use Rattle.run_promise.specs.Numbers.{mark_of, mark_at}
use Rattle.unit_book.specs.declared.fault.BookFault.{BookFault}
use Rattle.unit_book.specs.Book.{BookView}
use Rattle.shared_unit.specs.Calls.{IsPut}
use Rattle.shared_unit.specs.Told.{known_of_book}
use Rattle.shared_unit.specs.Turn.{taking_once}
use Rattle.shared_unit.proofs.Steps.{earlier_again}
use Rattle.run_promise.specs.Call.{Begin}
use Rattle.law_workers.specs.Views.{Gains, log_of, entries_in, KnowsMore, Gained}
use Rattle.law_workers.specs.Work.{Worked}
use Rattle.law_workers.specs.Settles.{SettlesAt}
use Rattle.law_workers.proofs.Histories.{entries_both}
use Rattle.law_workers.proofs.Rows.{mark_known}
use Rattle.law_calls.specs.Visiting.{Visited}
use Rattle.law_calls.proofs.Behind.{after_both}
use Rattle.law_calls.proofs.OneRecord.{none_all}
use Rattle.law_calls.proofs.InTurn.{not_found}
use Rattle.law_calls.proofs.Visit.{below_mark, epoch_low, led_known, log_is, log_low, sparing_seen, standing_found}

-- nothing but places of the log
abbrev making : List ℕ → Gains
making made = record { drawn = []; spent = []; raised = []; added = []; made = made }

one_place : (a x : ℕ) → 0 < stands x (a ∷ []) → a ≡ x
one_place a x h = elim (cases_eq a x) [
  | inl is ↦ is
  | inr off ↦
      let f : eqb a x ≡ false = grind (arith, nat_tests) in
      let k : 0 < (if false then 1 else 0) + 0 = subst (λ (b : Bool). 0 < (if b then 1 else 0) + 0) f h in
      absurd (omega arith)
]

last_get : (log : List Logged) (line : Logged) → slice_get (log ++ line ∷ []) (length log) ≡ Some line
last_get [] line = refl
last_get (x ∷ log) line = last_get log line

module _ (told : Bool) (begin : Begin) (found given : BookView) (v w : View)
    (h : Visited told begin found given v w) where
  turn_is : w.turn ≡ taking_once (known_of_book found) (known_of_book given) v.turn
  turn_is = h.visits.takes.turn

  grows : KnowsMore v w
  grows =
      let takes = h.visits.takes in
      let a = takes.follows.earlier.changes in
      let b = takes.earlier.changes in
      record {
        nexts = λ row. rw h.numbers (omega arith);
        earlier =
            rw turn_is (earlier_again v.turn.known (known_of_book found) (known_of_book given) takes.follows.earlier
            takes.earlier takes.opening);
        opening = ap (λ (t : Turn). t.known.opening) turn_is ∙ (takes.opening ∙ takes.follows.opening);
        epochs = rw turn_is (omega arith);
      }

  gained : (made : List ℕ) → places (length found.log) (length given.log - length found.log) ≡ made
      → Gained v w (making made)
  gained made is = record {
    drawn = ap (λ (n : Numbers). n.drawn) h.numbers ∙ sym (append-nil v.numbers.drawn);
    spent = ap (λ (n : Numbers). n.spent) h.numbers ∙ sym (append-nil v.numbers.spent);
    raised = ap (λ (n : Numbers). n.raised) h.numbers ∙ sym (append-nil v.numbers.raised);
    added = ap (λ (n : Numbers). n.added) h.numbers ∙ sym (append-nil v.numbers.added);
    made = ap (λ (t : Turn). t.made) turn_is ∙ ap (λ (xs : List ℕ). v.turn.made ++ xs) is;
    shares = ap (λ (n : Numbers). n.shares) h.numbers;
    holds = ap (λ (t : Turn). t.holds) turn_is ∙ sym h.free;
    filled = ap (λ (t : Turn). t.filled) turn_is;
  }

  sparing : IsSparing v.turn.known w.turn.known
  sparing = sparing_seen told begin found given v.turn w.turn h.began h.free h.visits

  -- the log stands
  pub none_works : (tasks : List Record) → given.log ≡ found.log → Worked begin v w tasks
  none_works tasks is =
      let n : length given.log - length found.log ≡ 0 = let l : length given.log ≡ length found.log = ap length is in
      omega arith in
      record {
        gains = making [];
        gained = gained [] (ap (places (length found.log)) n);
        grows = grows;
        sparing = sparing;
        works = record {
          made = λ x l. absurd (omega arith);
          legal = λ x l. absurd (omega arith);
          one_entry = λ i. omega arith;
          reserves = omega arith;
          few_drawn = λ r. omega arith;
          drawn = λ r n l. absurd (omega arith);
          spent = λ r n. omega arith;
          raised = none_all _;
        };
      }

  -- octets were put behind it
  module _ (piece : List ℕ) (is : given.log ≡ found.log ++ lines.Piece piece ∷ []) where
    log_line : log_of w ≡ found.log ++ lines.Piece piece ∷ []
    log_line = log_is told begin found given v.turn w.turn h.began h.free h.visits ∙ is

    size : length (log_of w) ≡ length found.log + 1
    size = ap length log_line ∙ length-append found.log (lines.Piece piece ∷ [])

    there : slice_get (log_of w) (length found.log) ≡ Some (lines.Piece piece)
    there = ap (λ (log : List Logged). slice_get log (length found.log)) log_line
        ∙ last_get found.log (lines.Piece piece)

    pub piece_works : (tasks : List Record) → Worked begin v w tasks
    piece_works tasks =
        let one : length given.log - length found.log ≡ 1 =
        (let l : length given.log ≡ length found.log + 1 =
        ap length is ∙ length-append found.log (lines.Piece piece ∷ []) in omega arith) in
        record {
          gains = making (length found.log ∷ []);
          gained = gained (length found.log ∷ []) (ap (places (length found.log)) one);
          grows = grows;
          sparing = sparing;
          works = record {
            made = λ x l.
                let at = one_place (length found.log) x l in
                let low = log_low told begin found given v.turn w.turn h.began h.free h.visits in
                let all = size in (omega arith, omega arith);
            legal = λ x l entry at.
                let line : Some (lines.Piece piece) ≡ Some (lines.Entry entry) =
                sym there ∙ ap (slice_get (log_of w)) (one_place (length found.log) x l) ∙ at in
                absurd (let e = line in cc);
            one_entry = λ i. rw there (omega arith);
            reserves = rw there (omega arith);
            few_drawn = λ r. omega arith;
            drawn = λ r n l. absurd (omega arith);
            spent = λ r n. omega arith;
            raised = none_all _;
          };
        }

    -- what the put settles
    pub settles : given.standing ≡ found.standing → IsCovered MOST_KEYS v.numbers (known_of_book found)
        → SettlesAt begin v w given.standing found.standing (length found.log)
    settles same covered =
        let kept = h.visits.found_kept in
        let led : found.state ≡ after_first begin.start (entries_in w) found.standing =
        led_known told begin found given v.turn w.turn h.began h.free h.visits in
        let front : entries_of (take (length found.log) (log_of w)) ≡ entries_of found.log =
        ap (λ (log : List Logged). entries_of (take (length found.log) log)) log_line
        ∙ ap entries_of (take-append-le (length found.log) found.log (lines.Piece piece ∷ []) (omega arith)
        ∙ take_all (length found.log) found.log (omega arith)) in
        record {
          within = let all = size in omega arith;
          low = (let l = kept.stands in let f = ap length front in omega arith);
          is_stored = omega arith;
          epoch =
              let low = epoch_low told begin found given v.turn w.turn h.began h.free h.visits in
              let counted : found.changes ≡ epoch_after (take found.standing (entries_of found.log)) = kept.epoch in
              let stood : epoch_after (take found.standing (entries_in w))
              ≡ epoch_after (take found.standing (entries_of found.log)) =
              ap epoch_after (standing_found told begin found given v.turn w.turn h.began h.free h.visits) in
              omega arith;
          marks = λ key row number few row_is spent.
              let rows = h.began.rows in
              let once = covered row number (omega arith) in
              let below : number < mark_at found.state row =
              below_mark number (mark_at found.state row) (omega arith) in
              let whole : after_all begin.start (entries_in w)
              ≡ after_all (after_first begin.start (entries_in w) found.standing) (drop found.standing (entries_in w)) =
              ap (after_all begin.start) (sym (take-append-drop found.standing (entries_in w)))
              ∙ after_both begin.start (take found.standing (entries_in w)) (drop found.standing (entries_in w)) in
              let later : place_of (after_all found.state (drop found.standing (entries_in w))).keys key ≡ Some row =
              ap (λ (s : State). place_of (after_all s (drop found.standing (entries_in w))).keys key) led
              ∙ ap (λ (s : State). place_of s.keys key) (sym whole) ∙ row_is in
              let mark : mark_at found.state row ≡ mark_of found.state key =
              mark_known found.state (drop found.standing (entries_in w)) key row kept.rules later in
              let known : mark_of found.state key ≡ mark_of (after_first begin.start (entries_in w) found.standing)
              key =
              ap (λ (s : State). mark_of s key) led in omega arith;
          standing = h.visits.takes.follows.earlier.standing;
          stopped = λ rose. h.visits.takes.follows.earlier.stood
              (subst (λ (o : Opening). Rose o.faults v.turn.known.faults) (sym h.visits.takes.follows.opening) rose);
          stood = λ clean.
              let all : entries_in w ≡ entries_of found.log =
              ap entries_of log_line ∙ entries_both found.log (lines.Piece piece ∷ [])
              ∙ append-nil (entries_of found.log) in
              kept.whole (not_found told begin found given v.turn v w h.began h.free h.visits clean)
              ∙ sym (ap length all);
        }

  pub visiting_works : (tasks : List Record) → given ≡ found → Worked begin v w tasks
  visiting_works tasks same = none_works tasks (ap (λ (b : BookView). b.log) same)

  pub putting_works : (tasks : List Record) (octets : List ℕ) (result : Result (Unit {0}) BookFault)
      → IsPut told octets result found given
      → Worked begin v w tasks
  putting_works tasks octets result put = piece_works _ (ap (λ (b : BookView). b.log) put.made) tasks

  pub putting_settles : (octets : List ℕ) (result : Result (Unit {0}) BookFault) → IsPut told octets result found given
      → IsCovered MOST_KEYS v.numbers (known_of_book found)
      → SettlesAt begin v w given.standing found.standing (length found.log)
  putting_settles octets result put covered =
      settles _ (ap (λ (b : BookView). b.log) put.made) (ap (λ (b : BookView). b.standing) put.made) covered
