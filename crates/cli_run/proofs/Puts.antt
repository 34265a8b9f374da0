-- What puts leave, one after the other: for the clauses `puts` and `takes` of a session.
use Rattle.std.proofs.Common.{◌≡◌, ℕ, ◌+◌, ◌<◌, Bool, List, [], ◌++◌, length, take, ◌≤◌, refl, sym, ◌∙◌, ap, subst, inl}
use Rattle.std.proofs.Common.{inr, arith, append-nil, append_assoc, length-append, get_or, Result, Ok, Err, Some}
use Rattle.std.specs.Prelude.{OnErr}
use Rattle.std.proofs.lemmas.List.{take-append-le}
use Rattle.sdls_base.specs.Numbers.{tally}
use Rattle.sdls_base.specs.declared.entry.Entry.{Entry}
use Rattle.sdls_base.specs.declared.entry.Logged.{Logged}
use Rattle.sdls_outside.specs.Faults.{Rose}
use Rattle.sdls_outside.specs.Site.{after_put}
use Rattle.counter_table.specs.declared.view.Opening.{Opening}
use Rattle.counter_table.specs.declared.view.View.{View}
use Rattle.key_book.specs.KeyBook.{place_of}
use Rattle.unit_state.specs.History.{after_all, after_first, epoch_after}
use Rattle.run_promise.specs.Log.{entries_of, pieces_of}
use Rattle.run_promise.specs.Numbers.{mark_of}
use Rattle.run_promise.specs.Call.{Begin}
use Rattle.law_workers.specs.Views.{KnowsMore, log_of}
use Rattle.law_workers.proofs.Joining.{does_then, does_nothing}
use Rattle.law_workers.proofs.Logs.{times_both}
use Rattle.law_workers.specs.Began.{BeganWith}
use Rattle.law_runs.specs.Doing.{PutsPieces, octets_put}
use Rattle.law_workers.proofs.Turns.{clean_before}
use Rattle.cli_run.specs.Putting.{Begun, PutLeaves, OfRun, PutsOctets, SettlesAll, TakesOctets, TakesSoFar}
use Rattle.cli_run.proofs.Octets.{adds_then, takes_behind, between_wider, put_last, put_more, put_some}
use Rattle.record_io.specs.declared.answers.Answer.{Answer}
use Rattle.record_io.specs.Answers.{answer_octets, answers_octets}

-- ---- puts one after the other

pub puts_none : (begin : Begin) (v : View) → PutsPieces begin v v
puts_none begin v = record { does = does_nothing begin v []; entries = refl }

pub puts_then : (begin : Begin) (u v w : View) → PutsPieces begin u v → PutsPieces begin v w → PutsPieces begin u w
puts_then begin u v w first second = record {
  does = does_then begin u v w [] [] [] [] first.does second.does (λ i d l. absurd (omega arith));
  entries = second.entries ∙ first.entries;
}

-- what a put settled stays settled
pub settles_on : (begin : Begin) (u v w : View) → SettlesAll begin u v → PutsPieces begin v w → SettlesAll begin u w
settles_on begin u v w s on =
    let rest : List Logged = on.does.grows.earlier.log.0 in
    let log : log_of w ≡ log_of v ++ rest = on.does.grows.earlier.log.1 in
    let inside = s.at.within in
    let size : length (log_of w) ≡ length (log_of v) + length rest = ap length log ∙ length-append (log_of v) rest in
    let same : take s.lines (log_of w) ≡ take s.lines (log_of v) =
    ap (take s.lines) log ∙ take-append-le s.lines (log_of v) rest inside in
    let more = on.does.grows.earlier.standing in
    record {
      entries = s.entries;
      lines = s.lines;
      at = record {
        within = omega arith;
        low = let a = s.at.low in let b = ap (λ (l : List Logged). length (entries_of l)) same in omega arith;
        is_stored = let a = s.at.is_stored in omega arith;
        epoch = let a = s.at.epoch in let b = ap (λ (es : List Entry). epoch_after (take s.entries es)) on.entries in
            omega arith;
        marks = λ key row number few is spent.
            subst (λ (es : List Entry). number < mark_of (after_first begin.start es s.entries) key) (sym on.entries)
            (s.at.marks key row number few
            (subst (λ (es : List Entry). place_of (after_all begin.start es).keys key ≡ Some row) on.entries is) spent);
        standing = s.at.standing;
        stopped = s.at.stopped;
        stood = λ clean. s.at.stood (clean_before v w on.does.grows clean) ∙ sym (ap length on.entries);
      };
      standing = s.standing;
      before = let a = s.before in let b = ap (λ (l : List Logged). length (pieces_of l)) same in omega arith;
    }

-- what had risen before has risen
risen_on : (before one other : ℕ) → one ≤ other → Rose before one → Rose before other
risen_on before one other low rose = omega arith

rose_before : (u v : View) → KnowsMore u v → Rose u.turn.known.opening.faults u.turn.known.faults
    → Rose v.turn.known.opening.faults v.turn.known.faults
rose_before u v grows rose = subst (λ (o : Opening). Rose o.faults v.turn.known.faults) (sym grows.opening)
    (risen_on u.turn.known.opening.faults u.turn.known.faults v.turn.known.faults grows.earlier.faults rose)

-- behind pieces that were put
pub settles_first : (begin : Begin) (u v w : View) → PutsPieces begin u v → Begun begin u v → PutsPieces begin v w
    → SettlesAll begin v w → SettlesAll begin u w
settles_first begin u v w before (inr settled) on s = settles_on begin u v w settled on
settles_first begin u v w before (inl same) on s = record {
  entries = s.entries;
  lines = s.lines;
  at = record {
    within = s.at.within;
    low = s.at.low;
    is_stored = s.at.is_stored;
    epoch = let a = s.at.epoch in let b = before.does.grows.epochs in omega arith;
    marks = λ key row number few is spent.
        let t : tally row number v.numbers.spent ≡ tally row number u.numbers.spent
        + tally row number before.does.gains.spent =
        ap (tally row number) before.does.gained.spent ∙ times_both row number u.numbers.spent
        before.does.gains.spent in
        s.at.marks key row number few is (omega arith);
    standing = let a = before.does.grows.earlier.standing in let b = s.at.standing in omega arith;
    stopped = λ rose. s.at.stopped (rose_before u v before.does.grows rose)
        ∙ before.does.grows.earlier.stood
        (subst (λ (o : Opening). Rose o.faults u.turn.known.faults) (sym before.does.grows.opening) rose);
    stood = s.at.stood;
  };
  standing = let a = before.does.grows.earlier.standing in let b = s.standing in omega arith;
  before = let a = s.before in let b = ap (λ (l : List Logged). length (pieces_of l)) same in omega arith;
}

pub begun_then : (begin : Begin) (u v w : View) → PutsPieces begin u v → Begun begin u v → PutsPieces begin v w
    → Begun begin v w → Begun begin u w
begun_then begin u v w before first on (inr settled) = inr (settles_first begin u v w before first on settled)
begun_then begin u v w before (inl same) on (inl none) = inl (none ∙ same)
begun_then begin u v w before (inr settled) on (inl none) = inr (settles_on begin u v w settled on)

-- ---- the records of the clauses

-- a run that began with the opening that one view knows began with that of a later one
began_on : (told : Bool) (begin : Begin) (a b : Opening) → b ≡ a → BeganWith told begin a → BeganWith told begin b
began_on told begin a b same h = subst (BeganWith told begin) (sym same) h

pub leaves_none : {T E : Type 0} → (told : Bool) (value : T) (v : View) → PutLeaves {T = T} {E = E} told (Ok value) v v
leaves_none told value v = record {
  opening = refl;
  counted = refl;
  rose = tt;
  puts = λ begin h. puts_none begin v;
  numbers = refl;
}

pub leaves_then : {S T E : Type 0} → (told : Bool) (value : S) (result : Result T E) (u v w : View)
    → PutLeaves {T = S} {E = E} told (Ok value) u v → PutLeaves told result v w → PutLeaves told result u w
leaves_then {S = S} {T = T} {E = E} told value result u v w first second = record {
  opening = second.opening ∙ first.opening;
  counted = second.counted ∙ ap (after_put result) first.counted;
  rose = second.rose;
  puts = λ begin h. puts_then begin u v w (first.puts begin h)
      (second.puts begin (began_on told begin u.turn.known.opening v.turn.known.opening first.opening h));
  numbers = second.numbers ∙ first.numbers;
}

-- octets, and more behind them
pub octets_then : {S T E : Type 0} → (told : Bool) (xs ys : List ℕ) (value : S) (result : Result T E) (u v w : View)
    → PutsOctets {T = S} {E = E} told xs (Ok value) u v → PutsOctets told ys result v w
    → PutsOctets told (xs ++ ys) result u w
octets_then {S} {T} {E} told xs ys value result u v w first second = record {
  leaves = leaves_then {S = S} {T = T} {E = E} told value result u v w first.leaves second.leaves;
  adds = λ is_told. adds_then xs ys result (octets_put u) (octets_put v) (octets_put w) (first.adds is_told)
      (second.adds is_told);
  settles = λ begin h.
      let on = second.leaves.puts begin
      (began_on told begin u.turn.known.opening v.turn.known.opening first.leaves.opening h) in
      settles_on begin u v w (first.settles begin h) on;
}

-- a put that failed put a front of more
pub octets_cut : {S T E : Type 0} → (told : Bool) (xs ys : List ℕ) (fault : E) (u v : View)
    → PutsOctets {T = S} {E = E} told xs (Err fault) u v → PutsOctets {T = T} {E = E} told (xs ++ ys) (Err fault) u v
octets_cut told xs ys fault u v first = record {
  leaves = record {
    opening = first.leaves.opening;
    counted = first.leaves.counted;
    rose = first.leaves.rose;
    puts = first.leaves.puts;
    numbers = first.leaves.numbers;
  };
  adds = λ is_told. between_wider (octets_put u) xs ys (octets_put v) (first.adds is_told);
  settles = first.settles;
}

-- ---- octets that are taken over

pub takes_none : {E : Type 0} → (told : Bool) (octets piece_old piece_new : List ℕ) (v : View)
    → piece_new ≡ piece_old ++ octets
    → TakesOctets {T = Unit {0}} {E = E} told octets (Ok tt) piece_old piece_new v v
takes_none told octets piece_old piece_new v is = record {
  leaves = leaves_none told tt v;
  takes = λ is_told.
      (omega arith, ap (λ (l : List ℕ). octets_put v ++ l) is ∙ sym (append_assoc (octets_put v) piece_old octets));
  begun = λ begin h. inl refl;
  settles = tt;
}

-- put alone, behind an empty piece
pub takes_alone : {T E : Type 0} → (told : Bool) (octets piece_new : List ℕ) (result : Result T E) (v w : View)
    → piece_new ≡ []
    → PutsOctets told octets result v w → TakesOctets told octets result [] piece_new v w
takes_alone told octets piece_new (Ok value) v w none puts = record {
  leaves = puts.leaves;
  takes = λ is_told.
      let adds : octets_put w ≡ octets_put v ++ octets = puts.adds is_told in
      let size : length (octets_put w) ≡ length (octets_put v) + length octets =
      ap length adds ∙ length-append (octets_put v) octets in (
        omega arith,
        ap (λ (l : List ℕ). octets_put w ++ l) none ∙ append-nil (octets_put w) ∙ adds
            ∙ ap (λ (l : List ℕ). l ++ octets) (sym (append-nil (octets_put v))),
      );
  begun = λ begin h. inr (puts.settles begin h);
  settles = tt;
}
takes_alone told octets piece_new (Err fault) v w none puts = record {
  leaves = puts.leaves;
  takes = puts.adds;
  begun = λ begin h. inr (puts.settles begin h);
  settles = puts.settles;
}

-- behind the piece, which was put
pub takes_next : {S T E : Type 0} → (told : Bool) (octets piece_old piece_new : List ℕ) (value : S)
    (result : Result T E) (u v w : View)
    → PutsOctets {T = S} {E = E} told piece_old (Ok value) u v → TakesOctets told octets result [] piece_new v w
    → TakesOctets told octets result piece_old piece_new u w
takes_next {S} {T} {E} told octets piece_old piece_new value result u v w first second = record {
  leaves = leaves_then {S = S} {T = T} {E = E} told value result u v w first.leaves second.leaves;
  takes = λ is_told. takes_behind octets (octets_put u) (octets_put v) (octets_put w) piece_old piece_new result
      (first.adds is_told) (second.takes is_told);
  begun = λ begin h.
      let later = began_on told begin u.turn.known.opening v.turn.known.opening first.leaves.opening h in
      inr (settles_on begin u v w (first.settles begin h) (second.leaves.puts begin later));
  settles = go result second;
}
  where
    all : OfRun told u (λ begin. SettlesAll begin u w)
    all begin h =
        let later = began_on told begin u.turn.known.opening v.turn.known.opening first.leaves.opening h in
        settles_on begin u v w (first.settles begin h) (second.leaves.puts begin later)

    go : (r : Result T E) → TakesOctets told octets r [] piece_new v w
        → OnErr r (OfRun told u (λ begin. SettlesAll begin u w))
    go (Ok x) t = tt
    go (Err x) t = all

-- the piece was not put whole
pub takes_cut : {S E : Type 0} → (told : Bool) (octets piece_old piece_new : List ℕ) (fault : E) (u v : View)
    → PutsOctets {T = S} {E = E} told piece_old (Err fault) u v
    → TakesOctets {T = S} {E = E} told octets (Err fault) piece_old piece_new u v
takes_cut told octets piece_old piece_new fault u v first = record {
  leaves = first.leaves;
  takes = λ is_told. between_wider (octets_put u) piece_old octets (octets_put v) (first.adds is_told);
  begun = λ begin h. inr (first.settles begin h);
  settles = first.settles;
}

-- ---- answers, one after the other

pub so_far_none : (told : Bool) (piece : List ℕ) (v : View) → piece ≡ [] → TakesSoFar told [] piece v v
so_far_none told piece v none = record {
  opening = refl;
  counted = refl;
  puts = λ begin h. puts_none begin v;
  numbers = refl;
  takes = λ is_told. (omega arith, ap (λ (l : List ℕ). octets_put v ++ l) none);
  begun = λ begin h. inl refl;
}

pub so_far_next : {T E : Type 0} → (told : Bool) (answers : List Answer) (i : ℕ) (answer : Answer)
    (piece piece_now : List ℕ) (value : T) (u v w : View)
    → i < length answers → answer ≡ get_or answers i answer
    → TakesSoFar told (answers_octets (take i answers)) piece u v
    → TakesOctets {T = T} {E = E} told (answer_octets answer) (Ok value) piece piece_now v w
    → TakesSoFar told (answers_octets (take (i + 1) answers)) piece_now u w
so_far_next told answers i answer piece piece_now value u v w low is s t = record {
  opening = t.leaves.opening ∙ s.opening;
  counted = t.leaves.counted ∙ s.counted;
  puts = λ begin h. puts_then begin u v w (s.puts begin h)
      (t.leaves.puts begin (began_on told begin u.turn.known.opening v.turn.known.opening s.opening h));
  numbers = t.leaves.numbers ∙ s.numbers;
  takes = λ is_told.
      let a = s.takes is_told in let b = t.takes is_told in let c = a.0 in let d = b.0 in (
        omega arith,
        put_more answers i answer (octets_put u) (octets_put v ++ piece) (octets_put w ++ piece_now) low is
            a.1 b.1,
      );
  begun = λ begin h.
      let later = began_on told begin u.turn.known.opening v.turn.known.opening s.opening h in
      begun_then begin u v w (s.puts begin h) (s.begun begin h) (t.leaves.puts begin later) (t.begun begin later);
}

pub so_far_cut : {T E : Type 0} → (told : Bool) (answers : List Answer) (i : ℕ) (answer : Answer)
    (piece piece_now : List ℕ) (fault : E) (u v w : View)
    → i < length answers → answer ≡ get_or answers i answer
    → TakesSoFar told (answers_octets (take i answers)) piece u v
    → TakesOctets {T = T} {E = E} told (answer_octets answer) (Err fault) piece piece_now v w
    → PutsOctets {T = T} {E = E} told (answers_octets answers) (Err fault) u w
so_far_cut told answers i answer piece piece_now fault u v w low is s t = record {
  leaves = record {
    opening = t.leaves.opening ∙ s.opening;
    counted = t.leaves.counted ∙ ap (λ (n : ℕ). n + 1) s.counted;
    rose = t.leaves.rose;
    puts = λ begin h. puts_then begin u v w (s.puts begin h)
        (t.leaves.puts begin (began_on told begin u.turn.known.opening v.turn.known.opening s.opening h));
    numbers = t.leaves.numbers ∙ s.numbers;
  };
  adds = λ is_told. put_some answers i answer (octets_put u) (octets_put v) piece (octets_put w) low is
      (s.takes is_told).1 (s.takes is_told).0 (t.takes is_told);
  settles = λ begin h.
      let later = began_on told begin u.turn.known.opening v.turn.known.opening s.opening h in
      settles_first begin u v w (s.puts begin h) (s.begun begin h) (t.leaves.puts begin later) (t.settles begin later);
}

pub so_far_last : {T E : Type 0} → (told : Bool) (octets piece : List ℕ) (result : Result T E) (u v w : View)
    → TakesSoFar told octets piece u v → PutsOctets told piece result v w → PutsOctets told octets result u w
so_far_last told octets piece result u v w s p = record {
  leaves = record {
    opening = p.leaves.opening ∙ s.opening;
    counted = p.leaves.counted ∙ ap (after_put result) s.counted;
    rose = p.leaves.rose;
    puts = λ begin h. puts_then begin u v w (s.puts begin h)
        (p.leaves.puts begin (began_on told begin u.turn.known.opening v.turn.known.opening s.opening h));
    numbers = p.leaves.numbers ∙ s.numbers;
  };
  adds = λ is_told. put_last octets (octets_put u) (octets_put v) piece result (octets_put w) (s.takes is_told).1
      (s.takes is_told).0 (p.adds is_told);
  settles = λ begin h.
      let later = began_on told begin u.turn.known.opening v.turn.known.opening s.opening h in
      settles_first begin u v w (s.puts begin h) (s.begun begin h) (p.leaves.puts begin later) (p.settles begin later);
}
