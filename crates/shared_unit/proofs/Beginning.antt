-- The words of the rows, raised one after the other, and what the first worker knows.
use Rattle.std.proofs.Common.{◌≡◌, ◌≢◌, ◌⊎◌, inl, inr, ℕ, zero, suc, ◌+◌, ◌-◌, ◌<◌, ◌≤◌, max, nat_lt, Bool, true, false}
use Rattle.std.proofs.Common.{List, [], ◌∷◌, ◌++◌, length, refl, sym, ap, subst, ◌∙◌, append-nil, eq-eqb, ◌==◌}
use Rattle.std.proofs.Common.{if◌then◌else◌, arith}
use Rattle.std.proofs.lemmas.Bool.Decides.{nat_tests}
use mathlib.Core.Logic.{dite}
use native.Mathlib.Decide.{ℕ_discrete}
use Rattle.sdls_base.specs.Numbers.{one_if, once_below}
use Rattle.sdls_base.specs.declared.entry.Logged.{Logged}
use Rattle.sdls_base.specs.declared.TheConstants.{MOST_KEYS}
use Rattle.unit_plan.specs.PlanLines.{PlanLines}
use Rattle.unit_state.specs.declared.state.State.{State}
use Rattle.unit_state.specs.History.{after_first}
use Rattle.counter_table.specs.declared.view.Known.{Known}
use Rattle.counter_table.specs.declared.view.Opening.{Opening}
use Rattle.counter_table.specs.declared.view.Numbers.{Numbers}
use Rattle.counter_table.specs.declared.view.Turn.{Turn}
use Rattle.counter_table.specs.declared.view.View.{View}
use Rattle.counter_table.specs.declared.counters.Counters.{Counters}
use Rattle.counter_table.specs.declared.counters.Worker.{Worker}
use Rattle.counter_table.specs.Known.{known_mark, pieces}
use Rattle.counter_table.specs.Numbers.{amount, count_of, top, raising, lifting, joined, keeper, newcomer}
use Rattle.counter_table.specs.Numbers.{first_numbers, ALL_SHARES}
use Rattle.counter_table.specs.Turn.{stands, places, no_turn, filling, learning, merged, beginner}
use Rattle.counter_table.specs.Play.{IsAsKnown}
use Rattle.counter_table.specs.Whole.{IsWhole}
use Rattle.counter_table.specs.Worker.{view}
use Rattle.run_promise.specs.Log.{entries_of}
use Rattle.unit_book.specs.Book.{BookView, IsKept}
use Rattle.run_promise.specs.Numbers.{mark_at}
use Rattle.unit_book.proofs.KeptLaws.{bounds_of}
use Rattle.shared_unit.specs.Told.{known_of_book}
use Rattle.shared_unit.specs.Turn.{IsReady, TakesOnce, taking_once}
use Rattle.shared_unit.specs.Sharing.{Begins, IsRaised}
use Rattle.shared_unit.proofs.Reserved.{not_both}
use Rattle.shared_unit.proofs.Tops.{top-append}

pub raised_none : (book : Known) (v : View) → v.turn.known ≡ book → IsRaised book 0 v v
raised_none book v known = record {
  holds = record {
    marks = book.marks;
    below = λ row. omega arith;
    is = ap (λ (k : Known). record v.turn { known = record v.turn.known { marks = k.marks; changes = k.changes } })
        known;
  };
  drawn = refl;
  spent = refl;
  shares = refl;
  raised = λ row h. absurd (omega arith);
  low = λ row. omega arith;
}

top_raised : (row m mark : ℕ) (ps : List (ℕ × ℕ)) → mark ≤ top row (ps ++ (row, m) ∷ (row, max m mark) ∷ [])
top_raised row m mark ps = rw (top-append row ps ((row, m) ∷ (row, max m mark) ∷ []), eq-eqb row row refl) (omega arith)

top_kept : (row : ℕ) (ps qs : List (ℕ × ℕ)) → top row ps ≤ top row (ps ++ qs)
top_kept row ps qs = let h = top-append row ps qs in omega arith

low_numbers : (row n mark : ℕ) (ps : List (ℕ × ℕ)) → top row (ps ++ (n, mark) ∷ [])
    ≡ max (top row ps) (max (if n == row then mark else 0) 0)
low_numbers row n mark ps = top-append row ps ((n, mark) ∷ [])

none_else : (n row mark : ℕ) → (row ≡ n → ⊥) → max (if n == row then mark else 0) 0 ≡ 0
none_else n row mark apart = grind (arith, nat_tests)

some_here : (n row mark : ℕ) → max (if n == row then mark else 0) 0 ≤ mark
some_here n row mark = go (n == row)
  where
    go : (b : Bool) → max (if b then mark else 0) 0 ≤ mark
    go true = omega arith
    go false = omega arith

none_counted : (row : ℕ) (ps : List (ℕ × ℕ)) → ps ≡ [] → count_of row ps ≡ 0
none_counted row [] e = refl
none_counted row (p ∷ ps) e = absurd cc

pub raised_more : (book : Known) (n m mark lifted : ℕ) (v u x w : View) → IsRaised book n v u → mark ≡ known_mark book n
    → x.numbers ≡ raising n mark m u.numbers → x.turn ≡ u.turn → w.numbers ≡ lifting n lifted x.numbers
    → w.turn ≡ learning book.marks x.turn
    → IsRaised book (n + 1) v w
raised_more book n m mark lifted v u x w r is one same two learned =
    record {
      holds = record {
        marks = book.marks;
        below = λ row. omega arith;
        is = learned ∙ ap (learning book.marks) same ∙ ap (learning book.marks) r.holds.is;
      };
      drawn = ap (λ (k : Numbers). k.drawn) numbers ∙ r.drawn;
      spent = ap (λ (k : Numbers). k.spent) numbers ∙ r.spent;
      shares = ap (λ (k : Numbers). k.shares) numbers ∙ r.shares;
      raised = λ row h. dite (ℕ_discrete row n) (λ e. here row e) (λ a. before row a h);
      low = λ row. dite (ℕ_discrete row n) (λ e. low_here row e) (λ a. low_else row a);
    } where
      numbers : w.numbers ≡ lifting n lifted (raising n mark m u.numbers)
      numbers = two ∙ ap (lifting n lifted) one

      nexts : w.numbers.nexts ≡ u.numbers.nexts ++ (n, m) ∷ (n, max m mark) ∷ []
      nexts = ap (λ (k : Numbers). k.nexts) numbers

      here : (row : ℕ) → row ≡ n → known_mark book row ≤ top row w.numbers.nexts
      here row e =
          let a : mark ≤ top n w.numbers.nexts =
          subst (λ (ps : List (ℕ × ℕ)). mark ≤ top n ps) (sym nexts) (top_raised n m mark u.numbers.nexts) in
          let b : known_mark book n ≤ top n w.numbers.nexts = omega arith in
          subst (λ (q : ℕ). known_mark book q ≤ top q w.numbers.nexts) (sym e) b

      raised_is : w.numbers.raised ≡ u.numbers.raised ++ (n, mark) ∷ []
      raised_is = ap (λ (k : Numbers). k.raised) numbers

      low_here : (row : ℕ) → row ≡ n → top row w.numbers.raised ≤ max (top row v.numbers.raised) (known_mark book row)
      low_here row e =
          let a = ap (top row) raised_is in
          let b = low_numbers row n mark u.numbers.raised in
          let c = some_here n row mark in
          let d : mark ≡ known_mark book row = is ∙ ap (known_mark book) (sym e) in
          let l = r.low row in omega arith

      low_else : (row : ℕ) → row ≢ n → top row w.numbers.raised ≤ max (top row v.numbers.raised) (known_mark book row)
      low_else row apart =
          let a = ap (top row) raised_is in
          let b = low_numbers row n mark u.numbers.raised in
          let c = none_else n row mark apart in
          let l = r.low row in omega arith

      before : (row : ℕ) → row ≢ n → row < n + 1 → known_mark book row ≤ top row w.numbers.nexts
      before row apart h =
          let a = r.raised row (omega arith) in
          subst (λ (ps : List (ℕ × ℕ)). known_mark book row ≤ top row ps) (sym nexts)
          (let b = top_kept row u.numbers.nexts ((n, m) ∷ (n, max m mark) ∷ []) in omega arith)

same_if : {X : Type 0} (b : Bool) (x : X) → (if b then x else x) ≡ x
same_if true x = refl
same_if false x = refl

none_first : (b : Bool) → 0 ≡ one_if b → b ≡ false
none_first true h = absurd (omega arith)
none_first false h = refl

-- who made no place of a log whose places are all made knows an empty log
empty_log : (log : List Logged) → ((place : ℕ) → 0 ≡ once_below place (length log)) → log ≡ []
empty_log [] h = refl
empty_log (line ∷ log) h =
    absurd (not_both 0 (length (line ∷ log)) (none_first (nat_lt 0 (length (line ∷ log))) (h 0)) (omega arith))

no_places : (from n : ℕ) → n ≡ 0 → places from n ≡ []
no_places from zero h = refl
no_places from (suc n) h = absurd (omega arith)

first_none : (start : State) (n : ℕ) → after_first start [] n ≡ start
first_none start zero = refl
first_none start (suc n) = refl

-- what a worker knows that gave a share away and took it back
module _ (k : Known) (t u : Turn) (is : u ≡ taking_once k k t) where
  pub back_log : (merged u (beginner u)).known.log ≡ k.log
  back_log = ap (λ (v : Turn). (merged v (beginner v)).known.log) is ∙ same_if (nat_lt (length k.log) (length k.log))
      k.log

  pub back_opening : (merged u (beginner u)).known.opening ≡ k.opening
  back_opening = ap (λ (v : Turn). (merged v (beginner v)).known.opening) is ∙ same_if t.filled k.opening

  pub back_puts : (merged u (beginner u)).known.put_faults ≡ k.put_faults
  back_puts = ap (λ (v : Turn). (merged v (beginner v)).known.put_faults) is
      ∙ (let p : max k.put_faults k.put_faults ≡ k.put_faults = omega arith in p)

  pub back_faults : (merged u (beginner u)).known.faults ≡ k.faults
  back_faults = ap (λ (v : Turn). (merged v (beginner v)).known.faults) is ∙ (let p : max k.faults k.faults ≡ k.faults =
      omega arith in p)

  pub back_standing : (merged u (beginner u)).known.standing ≡ k.standing
  back_standing = ap (λ (v : Turn). (merged v (beginner v)).known.standing) is
      ∙ (let p : max k.standing k.standing ≡ k.standing = omega arith in p)

  pub back_made : t.made ≡ [] → (merged u (beginner u)).made ≡ []
  back_made none = append-nil u.made ∙ ap (λ (v : Turn). v.made) is
      ∙ ap (λ (ps : List ℕ). ps ++ places (length k.log) (length k.log - length k.log)) none
      ∙ no_places (length k.log) (length k.log - length k.log) (omega arith)

module _ {B : Type 0} (told : Bool) (book found : BookView) where
  pub begins : (counters : Counters B) (plan : PlanLines) (worker : Worker B) (t : Turn) (v w u : View)
      → t ≡ filling (known_of_book book) no_turn → book.log ≡ []
      → TakesOnce (known_of_book found) (known_of_book found) t u.turn
      → IsAsKnown t (known_of_book found) → IsKept told book → IsKept told found → v.numbers ≡ first_numbers
      → IsRaised (known_of_book found) MOST_KEYS v w → u.numbers ≡ w.numbers
      → view worker ≡ record {
        numbers = joined (keeper u.numbers) (newcomer u.numbers);
        turn = merged u.turn (beginner u.turn);
      }
      → IsReady counters plan worker → ((view worker).numbers.shares ≡ ALL_SHARES → IsWhole MOST_KEYS (view worker))
      → Begins book counters plan worker
  begins counters plan worker t v w u filled first takes known_as begun kept numbers raised later is ready whole =
      record {
        ready = ready;
        shares = shares;
        drawn = ap (λ (x : View). x.numbers.drawn) is ∙ append-nil u.numbers.drawn ∙ ap (λ (n : Numbers). n.drawn) later
            ∙ raised.drawn
            ∙ ap (λ (n : Numbers). n.drawn) numbers;
        spent = ap (λ (x : View). x.numbers.spent) is ∙ append-nil u.numbers.spent ∙ ap (λ (n : Numbers). n.spent) later
            ∙ raised.spent
            ∙ ap (λ (n : Numbers). n.spent) numbers;
        made = made;
        log = log;
        opening = opening;
        whole = whole shares;
        standing = ap (λ (x : View). x.turn.known.standing) is ∙ back_standing k t u.turn takes.turn
            ∙ none_stand found kept log_found
            ∙ sym (none_stand book begun first);
        put_faults = put_faults;
        faults_same = faults_same;
        words = λ row h. (exact row h).0;
        raised = raised_low;
        added = λ row h. (exact row h).1;
      } where
        k : Known
        k = known_of_book found

        shares : (view worker).numbers.shares ≡ ALL_SHARES
        shares =
            let a = ap (λ (x : View). x.numbers.shares) is in
            let b = ap (λ (n : Numbers). n.shares) later in
            let c = raised.shares in
            let d = ap (λ (n : Numbers). n.shares) numbers in omega arith

        made : (view worker).turn.made ≡ []
        made = ap (λ (x : View). x.turn.made) is
            ∙ back_made (known_of_book found) t u.turn takes.turn
            (ap (λ (x : Turn). x.made) filled ∙ no_places 0 (length book.log) (ap length first))

        log : (view worker).turn.known.log ≡ []
        log = empty_log (view worker).turn.known.log
            (λ place. sym (ap (stands place) made) ∙ (whole shares).made place)

        opening : (view worker).turn.known.opening ≡ (known_of_book book).opening
        opening = ap (λ (x : View). x.turn.known.opening) is ∙ back_opening (known_of_book found) t u.turn takes.turn
            ∙ takes.follows.opening ∙ ap (λ (x : Turn). x.known.opening) filled

        log_found : found.log ≡ []
        log_found = sym (ap (λ (x : View). x.turn.known.log) is ∙ back_log (known_of_book found) t u.turn takes.turn)
            ∙ log

        start : found.start ≡ book.start
        start = ap (λ (o : Opening). o.start) (takes.follows.opening ∙ ap (λ (x : Turn). x.known.opening) filled)

        state : found.state ≡ book.start
        state = kept.led ∙ ap (λ (ls : List Logged). after_first found.start (entries_of ls) found.standing) log_found
            ∙ first_none found.start found.standing ∙ start

        none_stand : (b : BookView) → IsKept told b → b.log ≡ [] → b.standing ≡ 0
        none_stand b held none =
            let e = ap (λ (ls : List Logged). length (entries_of ls)) none in
            let s = held.stands in omega arith

        known_filled : t.known ≡ known_of_book book
        known_filled = ap (λ (x : Turn). x.known) filled

        put_faults : (view worker).turn.known.put_faults ≡ book.site.put_faults
        put_faults =
            let a = ap (λ (x : View). x.turn.known.put_faults) is ∙ back_puts k t u.turn takes.turn in
            let b = ap (λ (x : Known). x.put_faults) known_filled in
            let c = takes.follows.earlier.put_faults in
            let d = takes.follows.sparing.0 in
            let e = ap (λ (x : Known). pieces x.log) known_filled ∙ ap pieces first in
            let f = ap pieces log_found in omega arith

        faults_same : (view worker).turn.known.faults ≡ book.site.faults
        faults_same =
            let a = ap (λ (x : View). x.turn.known.faults) is ∙ back_faults k t u.turn takes.turn in
            let b = ap (λ (x : Known). x.faults) known_filled in
            let c = known_as.faults in omega arith

        marked : (row : ℕ) → known_mark (known_of_book found) row ≡ mark_at book.start row
        marked row = ap (λ (s : State). mark_at s row) state

        raised_low : (row : ℕ) → row < MOST_KEYS → top row (view worker).numbers.raised ≤ mark_at book.start row
        raised_low row h =
            let a = ap (λ (x : View). top row x.numbers.raised) is in
            let b = ap (λ (ps : List (ℕ × ℕ)). top row ps) (append-nil u.numbers.raised) in
            let c = ap (λ (n : Numbers). top row n.raised) later in
            let d = raised.low row in
            let e = ap (λ (n : Numbers). top row n.raised) numbers in
            let m = marked row in omega arith

        none_drawn : (row : ℕ) → count_of row (view worker).numbers.drawn ≡ 0
        none_drawn row = none_counted row (view worker).numbers.drawn
            (ap (λ (x : View). x.numbers.drawn) is ∙ append-nil u.numbers.drawn ∙ ap (λ (n : Numbers). n.drawn) later
            ∙ raised.drawn
            ∙ ap (λ (n : Numbers). n.drawn) numbers)

        words : (row : ℕ) → row < MOST_KEYS → mark_at book.start row ≤ top row (view worker).numbers.nexts
        words row h =
            let a : mark_at book.start row ≤ top row w.numbers.nexts =
            subst (λ (s : State). mark_at s row ≤ top row w.numbers.nexts) state (raised.raised row h) in
            let b = top_kept row u.numbers.nexts u.numbers.nexts in
            let c = ap (λ (n : Numbers). top row n.nexts) later in
            let d = ap (λ (x : View). top row x.numbers.nexts) is in omega arith

        exact : (row : ℕ) → row < MOST_KEYS → (top row (view worker).numbers.nexts ≡ mark_at book.start row)
            × (top row (view worker).numbers.nexts ≡ 1 + amount row (view worker).numbers.added)
        exact row h =
            let (next, stands_at) = (whole shares).rows row h in
            let low = words row h in
            let one = (bounds_of found.state kept.rules).from_one row in
            let m = marked row in
            let r = raised_low row h in
            let none = none_drawn row in
            let bound = stands_at.bound in
            let seen = stands_at.seen in
            let grown = stands_at.grown in
            by_last next stands_at.last low m one r none bound seen grown where
              by_last : (next : ℕ) → (next ≡ 1) ⊎ (top row (view worker).numbers.nexts ≡ next)
                  → mark_at book.start row ≤ top row (view worker).numbers.nexts
                  → known_mark (known_of_book found) row ≡ mark_at book.start row
                  → 1 ≤ known_mark (known_of_book found) row
                  → top row (view worker).numbers.raised ≤ mark_at book.start row
                  → count_of row (view worker).numbers.drawn ≡ 0
                  → next ≤ max 1 (top row (view worker).numbers.raised) + count_of row (view worker).numbers.drawn
                  → top row (view worker).numbers.nexts ≤ next → next ≡ 1 + amount row (view worker).numbers.added
                  → (top row (view worker).numbers.nexts ≡ mark_at book.start row)
                  × (top row (view worker).numbers.nexts ≡ 1 + amount row (view worker).numbers.added)
              by_last next (inl e) low m one r none bound seen grown = (omega arith, omega arith)
              by_last next (inr e) low m one r none bound seen grown = (omega arith, omega arith)
