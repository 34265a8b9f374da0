-- Records that one worker handled, one after the other, moved the words as their answers tell.
use Rattle.std.proofs.Common.{◌≡◌, ℕ, ◌+◌, ◌<◌, ◌≤◌, List, [], ◌++◌, length, refl, sym, ◌∙◌, ap, subst, arith}
use Rattle.std.proofs.Common.{append_assoc, append-nil, length-append}
use Rattle.std.specs.List.{slice_get, slice_index_or}
use Rattle.std.proofs.lemmas.List.{append_cancel_left}
use Rattle.sdls_base.specs.declared.entry.Logged.{Logged}
use Rattle.counter_table.specs.declared.view.View.{View}
use Rattle.counter_table.specs.Numbers.{amount}
use Rattle.counter_table.specs.Turn.{stands}
use Rattle.record_io.specs.declared.item_cursor.Record.{Record}
use Rattle.run_promise.specs.Call.{Begin}
use Rattle.law_workers.specs.Views.{KnowsMore, log_of}
use Rattle.run_promise.specs.Deed.{Deed}
use Rattle.law_workers.specs.Deeds.{Does}
use Rattle.law_workers.proofs.Histories.{get_front}
use Rattle.run_promise.specs.Words.{Move}
use Rattle.law_workers.specs.Exact.{words_in, IsOfMoves, Exact}
use Rattle.law_workers.specs.InTurn.{ServedInTurn}
use Rattle.law_workers.specs.Alone.{MovedExactly, MovedInTurn}
use Rattle.law_workers.proofs.Machines.{exact_nothing, exact_then, lies_wider, nothing_moves, runs_same, tell_on}
use Rattle.law_workers.proofs.Machines.{then_moves}
use Rattle.law_workers.proofs.Turns.{in_turn_nothing, in_turn_then}

-- the lines that were made lie in the log
pub below_log : (begin : Begin) (u v : View) (ts : List Record) (ds : List Deed) → Does begin u v ts ds
    → (made : List ℕ) → v.turn.made ≡ u.turn.made ++ made
    → (place : ℕ) → 0 < stands place made → place < length (log_of v)
below_log begin u v ts ds d made is place h =
    let same : made ≡ d.gains.made = append_cancel_left u.turn.made made d.gains.made (sym is ∙ d.gained.made) in
    (d.works.made place (subst (λ (l : List ℕ). 0 < stands place l) same h)).1

-- More records, of which none was answered. Of the first ones some were not, or there are no more.
pub moved_more : (begin : Begin) (u v : View) (n m : ℕ) (ds : List Deed) → n ≤ m → length ds < n
    → MovedExactly begin u v n ds → MovedExactly begin u v m ds
moved_more begin u v n m ds few short a =
    record {
      made = a.made;
      made_is = a.made_is;
      last = a.last;
      few = a.few;
      each = λ same. absurd (omega arith);
      exact = a.exact;
    }

-- more records, behind some of which each has its answer
pub turns_then : (begin : Begin) (u v w : View) (ts : List Record) (n m : ℕ) (ds es : List Deed) → Does begin u v ts ds
    → KnowsMore v w → length ds ≡ n
    → MovedInTurn begin u v n ds → MovedInTurn begin v w m es → MovedInTurn begin u w (n + m) (ds ++ es)
turns_then begin u v w ts n m ds es does grows size a b =
    let below = below_log begin u v ts ds does a.moved.made a.moved.made_is in
    let (exact, in_turn) : (e : Exact begin u v a.moved.made ds [])
    × ServedInTurn begin u v a.moved.made a.spent ds e.moves [] =
    subst (λ (last : List Move). (e : Exact begin u v a.moved.made ds last)
    × ServedInTurn begin u v a.moved.made a.spent ds e.moves last)
    (a.moved.each size) (a.moved.exact, a.in_turn) in
    record {
      moved = record {
        made = a.moved.made ++ b.moved.made;
        made_is =
            b.moved.made_is ∙ (ap (λ (l : List ℕ). l ++ b.moved.made) a.moved.made_is
            ∙ append_assoc u.turn.made a.moved.made b.moved.made);
        last = b.moved.last;
        few = b.moved.few;
        each = λ same. b.moved.each (let both = length-append ds es in omega arith);
        exact = exact_then begin u v w a.moved.made b.moved.made ds es b.moved.last exact below grows b.moved.exact;
      };
      spent = a.spent ++ b.spent;
      in_turn =
          subst (λ (moves : List Move). ServedInTurn begin u w (a.moved.made ++ b.moved.made) (a.spent ++ b.spent)
          (ds ++ es) moves b.moved.last)
          (sym (then_moves begin u v w a.moved.made b.moved.made ds es b.moved.last exact below grows b.moved.exact))
          (in_turn_then begin u v w a.moved.made b.moved.made a.spent b.spent ds es exact.moves b.moved.exact.moves
          b.moved.last does.grows grows below
          in_turn b.in_turn);
    }

-- no record
pub turns_nothing : (begin : Begin) (v : View) → MovedInTurn begin v v 0 []
turns_nothing begin v = record {
  moved = record {
    made = [];
    made_is = sym (append-nil v.turn.made);
    last = [];
    few = omega arith;
    each = λ same. refl;
    exact = exact_nothing begin v;
  };
  spent = [];
  in_turn = subst (λ (moves : List Move). ServedInTurn begin v v [] [] [] moves []) (sym (nothing_moves begin v))
      (in_turn_nothing begin v);
}

pub turns_more : (begin : Begin) (u v : View) (n m : ℕ) (ds : List Deed) → n ≤ m → length ds < n
    → MovedInTurn begin u v n ds → MovedInTurn begin u v m ds
unfolding moved_more
turns_more begin u v n m ds few short a =
    record { moved = moved_more begin u v n m ds few short a.moved; spent = a.spent; in_turn = a.in_turn }

-- The same between other views, with the same words, where as much was added.
pub exact_seen : (begin : Begin) (u v p z : View) (made : List ℕ) (ds : List Deed) (last : List Move)
    → Exact begin u v made ds last
    → ((place : ℕ) → 0 < stands place made → place < length (log_of v)) → KnowsMore v z
    → ((row : ℕ) → words_in p row ≡ words_in u row) → ((row : ℕ) → words_in z row ≡ words_in v row)
    → ((row : ℕ) → amount row z.numbers.added + amount row u.numbers.added ≡ amount row p.numbers.added
    + amount row v.numbers.added)
    → Exact begin p z made ds last
exact_seen begin u v p z made ds last a below grows from to more = record {
  moves = a.moves;
  told = tell_on begin v z grows ds a.moves a.told;
  reserves = λ place in'.
      let line : slice_get (log_of z) place ≡ slice_get (log_of v) place =
      ap (λ (l : List Logged). slice_get l place) grows.earlier.log.1 ∙ get_front (log_of v) grows.earlier.log.0 place
      (below place in') in
      subst (IsOfMoves (a.moves ++ last)) (sym line) (a.reserves place in');
  added = λ row. let h = a.added row in let m = more row in omega arith;
  between = λ k d low. lies_wider begin.rows (words_in u) (words_in v) (words_in p) (words_in z) (λ row few. let f =
      from row in omega arith)
      (λ row few. let t = to row in omega arith) (slice_index_or (a.moves ++ last) k d) (a.between k d low);
  grown = λ row. let h = a.grown row in let f = from row in let t = to row in omega arith;
  exact = λ still. runs_same begin.rows (words_in u) (words_in p) (λ row low. sym (from row)) (a.moves ++ last)
      (a.exact (λ row low. let f = from row in let t = to row in let h = still row low in omega arith));
}

pub seen_moves : (begin : Begin) (u v p z : View) (made : List ℕ) (ds : List Deed) (last : List Move)
    (a : Exact begin u v made ds last)
    (below : (place : ℕ) → 0 < stands place made → place < length (log_of v)) (grows : KnowsMore v z)
    (from : (row : ℕ) → words_in p row ≡ words_in u row) (to : (row : ℕ) → words_in z row ≡ words_in v row)
    (more : (row : ℕ) → amount row z.numbers.added + amount row u.numbers.added ≡ amount row p.numbers.added
    + amount row v.numbers.added)
    → (exact_seen begin u v p z made ds last a below grows from to more).moves ≡ a.moves
unfolding exact_seen
seen_moves begin u v p z made ds last a below grows from to more = refl
