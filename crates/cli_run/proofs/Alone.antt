-- One put by the one worker of a unit: for the clauses of `put_alone`.
use Rattle.std.proofs.Common.{◌≡◌, ℕ, zero, suc, ◌+◌, ◌-◌, ◌≤◌, eqb, Bool, false, List, [], ◌∷◌, ◌++◌, length, take}
use Rattle.std.proofs.Common.{drop, refl, sym, ◌∙◌, ap, subst, arith, append-nil, length-append, Result, Ok, Err, cond}
use Rattle.std.specs.Prelude.{OnErr, IfErr}
use Rattle.std.proofs.lemmas.Bool.Decides.{nat_tests}
use Rattle.std.proofs.Math.Seq.{drop-append_seam, take-append-add}
use Rattle.std.proofs.lemmas.List.{take_at}
use Rattle.sdls_base.specs.Numbers.{once_below}
use Rattle.sdls_base.specs.declared.entry.Logged.{Logged}
use Rattle.sdls_base.specs.declared.entry.Logged.TheVariants as lines
use Rattle.sdls_base.specs.declared.TheConstants.{MOST_KEYS}
use Rattle.sdls_outside.specs.Faults.{Rose}
use Rattle.sdls_outside.specs.Moments.{Trace, Between}
use Rattle.sdls_outside.specs.Site as sites
use Rattle.counter_table.specs.declared.view.Known.{Known}
use Rattle.counter_table.specs.declared.view.Turn.{Turn}
use Rattle.counter_table.specs.declared.view.View.{View}
use Rattle.counter_table.specs.Play.{IsAsKnown}
use Rattle.counter_table.specs.Turn.{places, stands}
use Rattle.counter_table.specs.Whole.{IsWhole, RowStands}
use Rattle.record_io.specs.declared.item_cursor.Record.{Record}
use Rattle.unit_book.specs.declared.fault.BookFault.{BookFault}
use Rattle.unit_book.specs.declared.fault.BookFault.TheVariants.{SiteFault, Stopped, SessionFull, NoMemory}
use Rattle.unit_book.specs.Book.{BookView, PutFails}
use Rattle.unit_book.specs.Log.{sunk_between}
use Rattle.run_promise.specs.Log.{entries_of, pieces_of}
use Rattle.shared_unit.specs.Calls.{IsPut}
use Rattle.shared_unit.specs.Told.{known_of_book}
use Rattle.shared_unit.specs.Turn.{Visits}
use Rattle.run_promise.specs.Call.{Begin}
use Rattle.law_workers.specs.Views.{log_of, entries_in}
use Rattle.law_workers.specs.Work.{Worked}
use Rattle.law_workers.proofs.Histories.{entries_both}
use Rattle.law_workers.proofs.Joining.{does_unanswered}
use Rattle.law_workers.proofs.Logs.{stands_both}
use Rattle.law_workers.specs.Settles.{SettlesAt}
use Rattle.law_workers.proofs.Counting.{pieces_both}
use Rattle.law_workers.specs.Began.{BeganWith}
use Rattle.law_calls.specs.Visiting.{Visited}
use Rattle.law_runs.specs.Doing.{PutsPieces, octets_put}
use Rattle.cli_run.specs.Putting.{Adds, PutsOctets, SettlesAll}
use Rattle.cli_run.proofs.Octets.{puts_adds}

own_front : (k : ℕ) (octets : List ℕ) → take (length (take k octets)) octets ≡ take k octets
own_front zero octets = refl
own_front (suc k) [] = refl
own_front (suc k) (octet ∷ octets) = ap (λ (l : List ℕ). octet ∷ l) (own_front k octets)

-- behind other octets a front of these is a front
front_behind : (base octets : List ℕ) (k : ℕ) → Between base (base ++ octets) (base ++ take k octets)
front_behind base octets k =
    let size : length (base ++ take k octets) ≡ length base + length (take k octets) =
    length-append base (take k octets) in
    record {
      least = omega arith;
      prefix = sym (ap (λ (n : ℕ). take n (base ++ octets)) size ∙ take-append-add base octets (length (take k octets))
          ∙ ap (λ (l : List ℕ). base ++ l) (own_front k octets));
    }

-- what was sunk between two times was put behind other octets
sunk_adds : {T E : Type 0} → (octets base : List ℕ) (result : Result T E) (old new : Trace)
    → sites.Puts octets result old new
    → Adds octets result base (base ++ sunk_between old new)
sunk_adds {T} {E} octets base result old new puts = go result (puts_adds octets result old new puts)
  where
    go : (r : Result T E) → Adds octets r old.now.sunk new.now.sunk → Adds octets r base (base ++ sunk_between old new)
    go (Ok value) is =
        ap (λ (l : List ℕ). base ++ l) (ap (drop (length old.now.sunk)) is ∙ drop-append_seam old.now.sunk octets)
    go (Err error) between =
        let n : ℕ = length new.now.sunk - length old.now.sunk in
        let low = between.least in
        let size : length new.now.sunk ≡ length old.now.sunk + n = omega arith in
        let is : new.now.sunk ≡ old.now.sunk ++ take n octets =
        between.prefix ∙ ap (λ (k : ℕ). take k (old.now.sunk ++ octets)) size ∙ take-append-add old.now.sunk octets n in
        let piece : sunk_between old new ≡ take n octets =
        ap (drop (length old.now.sunk)) is ∙ drop-append_seam old.now.sunk (take n octets) in
        subst (λ (l : List ℕ). Between base (base ++ octets) (base ++ l)) (sym piece) (front_behind base octets n)

-- one line more at the end of a log, of which each place was made once
stands_one : (n x : ℕ) → stands x (places n 1) ≡ cond (eqb n x) 1 0
stands_one n x = omega arith

made_one_more : (made : List ℕ) (n : ℕ) → ((x : ℕ) → stands x made ≡ once_below x n) → (x : ℕ)
    → stands x (made ++ places n 1) ≡ once_below x (n + 1)
made_one_more made n each x =
    let a = each x in let b = stands_both x made (places n 1) in let c = stands_one n x in
    grind (arith, nat_tests)

module _ (told : Bool) (octets : List ℕ) (result : Result (Unit {0}) BookFault)
    (v w : View) (found given : BookView) (free : v.turn.holds ≡ false) (numbers : w.numbers ≡ v.numbers)
    (visits : Visits told found given v.turn w.turn) (put : IsPut told octets result found given)
    (known : IsAsKnown v.turn (known_of_book found)) where
  abbrev piece : List ℕ
  piece = sunk_between found.site.trace given.site.trace

  known_is : w.turn.known ≡ known_of_book given
  known_is = ap (λ (t : Turn). t.known) visits.takes.turn

  given_log : given.log ≡ log_of v ++ lines.Piece piece ∷ []
  given_log = ap (λ (b : BookView). b.log) put.made ∙ ap (λ (l : List Logged). l ++ lines.Piece piece ∷ []) known.log

  log_is : log_of w ≡ log_of v ++ lines.Piece piece ∷ []
  log_is = ap (λ (k : Known). k.log) known_is ∙ given_log

  octets_are : octets_put w ≡ octets_put v ++ piece
  octets_are = ap pieces_of log_is ∙ pieces_both (log_of v) (lines.Piece piece ∷ [])
      ∙ ap (λ (l : List ℕ). octets_put v ++ l) (append-nil piece)

  entries_are : entries_in w ≡ entries_in v
  entries_are = ap entries_of log_is ∙ entries_both (log_of v) (lines.Piece piece ∷ []) ∙ append-nil (entries_in v)

  opening_is : w.turn.known.opening ≡ v.turn.known.opening
  opening_is = ap (λ (k : Known). k.opening) known_is ∙ visits.takes.opening ∙ visits.takes.follows.opening

  -- who has all shares did all
  pub whole_after : IsWhole MOST_KEYS v → IsWhole MOST_KEYS w
  whole_after whole = record {
    rows = λ row low. subst (λ (n : _). (next : ℕ) × RowStands row next n) (sym numbers) (whole.rows row low);
    made = λ x.
        let size : length given.log - length found.log ≡ 1 =
        (let a = ap length given_log in let b = length-append (log_of v) (lines.Piece piece ∷ []) in
        let c = ap length known.log in omega arith) in
        let from : length found.log ≡ length (log_of v) = ap length known.log in
        let made_is : w.turn.made ≡ v.turn.made ++ places (length (log_of v)) 1 =
        ap (λ (t : Turn). t.made) visits.takes.turn
        ∙ ap (λ (n : ℕ). v.turn.made ++ places n (length given.log - length found.log)) from
        ∙ ap (λ (n : ℕ). v.turn.made ++ places (length (log_of v)) n) size in
        let long : length (log_of w) ≡ length (log_of v) + 1 =
        ap length log_is ∙ length-append (log_of v) (lines.Piece piece ∷ []) in
        ap (stands x) made_is ∙ made_one_more v.turn.made (length (log_of v)) whole.made x
        ∙ ap (once_below x) (sym long);
  }

  rose_from : (r : Result (Unit {0}) BookFault) → IfErr r (PutFails found.site.faults given.site.faults)
      → OnErr r (Rose found.site.faults given.site.faults)
  rose_from (Ok done) h = tt
  rose_from (Err (SiteFault count)) h = h.0
  rose_from (Err (Stopped count)) h = absurd h
  rose_from (Err SessionFull) h = absurd h
  rose_from (Err NoMemory) h = absurd h

  rose_since : (r : Result (Unit {0}) BookFault) → OnErr r (Rose found.site.faults given.site.faults)
      → found.opened.faults ≤ found.site.faults → OnErr r (Rose w.turn.known.opening.faults w.turn.known.faults)
  rose_since (Ok done) h low = tt
  rose_since (Err fault) h low =
      let a : w.turn.known.faults ≡ given.site.faults = ap (λ (k : Known). k.faults) known_is in
      let b : w.turn.known.opening.faults ≡ found.opened.faults =
      ap (λ (k : Known). k.opening.faults) known_is ∙ ap (λ (o : _). o.faults) visits.takes.opening in
      omega arith

  module _ (works : (begin : Begin) (tasks : List Record) → Visited told begin found given v w → Worked begin v w tasks)
      (settles : (begin : Begin) → Visited told begin found given v w
      → SettlesAt begin v w given.standing found.standing (length found.log)) where
    visited : (begin : Begin) → BeganWith told begin v.turn.known.opening → Visited told begin found given v w
    visited begin began = record { began = began; free = free; visits = visits; numbers = numbers }

    puts_one : (begin : Begin) → BeganWith told begin v.turn.known.opening → PutsPieces begin v w
    puts_one begin began = record {
      does = does_unanswered begin v w [] (works begin [] (visited begin began));
      entries = entries_are;
    }

    settles_one : (begin : Begin) → BeganWith told begin v.turn.known.opening → SettlesAll begin v w
    settles_one begin began = record {
      entries = found.standing;
      lines = length found.log;
      at = subst (λ (n : ℕ). SettlesAt begin v w n found.standing (length found.log))
          (sym (ap (λ (k : Known). k.standing) known_is))
          (settles begin (visited begin began));
      standing = let a = known.standing in omega arith;
      before =
          let here : take (length found.log) (log_of w) ≡ log_of v =
          ap (λ (n : ℕ). take n (log_of w)) (ap length known.log) ∙ ap (take (length (log_of v))) log_is
          ∙ take_at (log_of v) (lines.Piece piece ∷ []) (length (log_of v)) refl in
          let same = ap (λ (l : List Logged). length (pieces_of l)) here in omega arith;
    }

    pub put_one : PutsOctets told octets result v w
    put_one = record {
      leaves = record {
        opening = opening_is;
        counted = ap (λ (k : Known). k.put_faults) known_is ∙ put.counted ∙ ap (sites.after_put result)
            known.put_faults;
        rose = rose_since result (rose_from result put.fault) visits.found_kept.later;
        puts = puts_one;
        numbers = numbers;
      };
      adds = λ is_told. subst (λ (l : List ℕ). Adds octets result (octets_put v) l) (sym octets_are)
          (sunk_adds octets (octets_put v) result found.site.trace given.site.trace (put.put is_told));
      settles = settles_one;
    }
