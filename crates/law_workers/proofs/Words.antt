-- Records of any number of lanes moved the words as their answers tell, and by no more.
use Rattle.std.proofs.Common.{◌≡◌, ◌≢◌, ◌⊎◌, ℕ, zero, suc, ◌+◌, ◌<◌, ◌≤◌, eqb, Bool, true, false, cond, List, [], ◌∷◌}
use Rattle.std.proofs.Common.{◌++◌, length, Option, Some, None, refl, sym, ◌∙◌, ap, subst, inl, inr, arith}
use Rattle.std.proofs.Common.{length-append, append-nil, append_assoc}
use Rattle.std.specs.List.{All, AllPairs, Contains, slice_get, slice_index_or}
use Rattle.std.proofs.lemmas.Bool.{cases_eq, cases_lt}
use Rattle.std.proofs.lemmas.Bool.Decides.{nat_tests}
use Rattle.std.proofs.lemmas.List.Elements.{All-cons, All-append, All-contains, Contains-append_left}
use Rattle.std.proofs.lemmas.List.Elements.{Contains-append_right}
use Rattle.sdls_base.specs.declared.entry.Entry.{Entry}
use Rattle.sdls_base.specs.declared.entry.Logged.{Logged}
use Rattle.sdls_base.specs.declared.entry.Logged.TheVariants as lines
use Rattle.record_io.specs.declared.item_cursor.Record.{Record}
use Rattle.record_io.specs.declared.answers.Answer.{Answer}
use Rattle.unit_state.specs.declared.state.State.{State}
use Rattle.counter_table.specs.declared.view.View.{View}
use Rattle.counter_table.specs.Numbers.{amount}
use Rattle.counter_table.specs.Turn.{stands}
use Rattle.run_promise.specs.Call.{Begin}
use Rattle.run_promise.specs.Deed.{Deed, deed_of}
use Rattle.run_promise.specs.History.{is_none_index}
use Rattle.law_workers.specs.Counts.{is_of_none}
use Rattle.run_promise.specs.Words.{Move, Kept, Drew, LiesBetween, adds, adds_all, TellAll, adds_each}
use Rattle.law_workers.specs.Views.{KnowsMore, entries_in, log_of, meeting, starting}
use Rattle.law_workers.specs.Work.{indexed}
use Rattle.law_workers.specs.Deeds.{Does, deeds_of}
use Rattle.law_workers.specs.Lanes.{Part, meeting_all, of_lane, parts_deeds, parts_tasks}
use Rattle.law_workers.specs.Alone.{MovedExactly}
use Rattle.law_workers.specs.Exact.{IsOfMoves, words_in}
use Rattle.law_workers.specs.Words.{IsDrawnBy, MovesWords, TellsOne, moves_add, moves_of}
use Rattle.law_workers.proofs.Histories.{get_front}
use Rattle.law_workers.proofs.Logs.{count_one, indexed_both, stands_both}
use Rattle.law_workers.proofs.Lanes.{indexed_lanes}
use Rattle.law_workers.proofs.Machines.{amount-append, lies_wider, tell_on}

moves_both : (index : ℕ) (a b : List (ℕ × Move)) → moves_of index (a ++ b) ≡ moves_of index a + moves_of index b
moves_both index [] b = omega arith
moves_both index (own ∷ a) b = let h = moves_both index a b in omega arith

adds_both : (row : ℕ) (a b : List (ℕ × Move)) → moves_add row (a ++ b) ≡ moves_add row a + moves_add row b
adds_both row [] b = omega arith
adds_both row (own ∷ a) b = let h = adds_both row a b in omega arith

-- what an answer tells of one of some moves, it tells of one of more, and of a longer history
told_left : (start : State) (es : List Entry) (a b : List (ℕ × Move)) (d : Deed) → TellsOne start es a d
    → TellsOne start es (a ++ b) d
told_left start es a b d (move, there, tells) = (move, Contains-append_left a b (d.task.index, move) there, tells)

told_right : (start : State) (es : List Entry) (a b : List (ℕ × Move)) (d : Deed) → TellsOne start es b d
    → TellsOne start es (a ++ b) d
told_right start es a b d (move, there, tells) = (move, Contains-append_right a b (d.task.index, move) there, tells)

told_on : (begin : Begin) (v w : View) → KnowsMore v w → (moves : List (ℕ × Move)) (d : Deed)
    → TellsOne begin.start (entries_in v) moves d
    → TellsOne begin.start (entries_in w) moves d
told_on begin v w grows moves d (move, there, tells) =
    (move, there, (tell_on begin v w grows (d ∷ []) (move ∷ []) (tells, tt)).0)

-- a reserve of a number that one of some moves drew is of one that one of more drew, and stays in a longer log
drawn_left : (a b : List (ℕ × Move)) (line : Option Logged) → IsDrawnBy a line → IsDrawnBy (a ++ b) line
drawn_left a b line drawn entry is none =
    let (index, row, number, seen, there) = drawn entry is none in
    (index, row, number, seen, Contains-append_left a b (index, Drew row number) there)

drawn_right : (a b : List (ℕ × Move)) (line : Option Logged) → IsDrawnBy b line → IsDrawnBy (a ++ b) line
drawn_right a b line drawn entry is none =
    let (index, row, number, seen, there) = drawn entry is none in
    (index, row, number, seen, Contains-append_right a b (index, Drew row number) there)

pub line_stays : (v w : View) → KnowsMore v w → (place : ℕ) → place < length (log_of v)
    → slice_get (log_of w) place ≡ slice_get (log_of v) place
line_stays v w grows place low = ap (λ (l : List Logged). slice_get l place) grows.earlier.log.1
    ∙ get_front (log_of v) grows.earlier.log.0 place low

drawn_on : (v w : View) → KnowsMore v w → (moves : List (ℕ × Move)) (place : ℕ) → place < length (log_of v)
    → IsDrawnBy moves (slice_get (log_of v) place) → IsDrawnBy moves (slice_get (log_of w) place)
drawn_on v w grows moves place low drawn = subst (IsDrawnBy moves) (sym (line_stays v w grows place low)) drawn

pub log_grows : (v w : View) → KnowsMore v w → length (log_of v) ≤ length (log_of w)
log_grows v w grows =
    let a = ap length grows.earlier.log.1 in let b = length-append (log_of v) grows.earlier.log.0 in omega arith

pub either : (a b : ℕ) → 0 < a + b → (0 < a) ⊎ (0 < b)
either zero b h = inr (omega arith)
either (suc a) b h = inl (omega arith)

-- the moves lie between the words of an earlier view and of a later one
lie_on : (begin : Begin) (u v w z : View) → ((row : ℕ) → words_in u row ≤ words_in v row)
    → ((row : ℕ) → words_in w row ≤ words_in z row)
    → (moves : List (ℕ × Move)) → All (λ (own : ℕ × Move). LiesBetween begin.rows (words_in v) (words_in w) own.1) moves
    → All (λ (own : ℕ × Move). LiesBetween begin.rows (words_in u) (words_in z) own.1) moves
lie_on begin u v w z under over moves h k d low =
    lies_wider begin.rows (words_in v) (words_in w) (words_in u) (words_in z) (λ row few. under row)
    (λ row few. over row)
    (slice_index_or moves k d).1 (h k d low)

-- ---- in two parts, and while the views grow

-- nothing was done
pub words_nothing : (begin : Begin) (v : View) (tasks : List Record) → MovesWords begin v v tasks []
words_nothing begin v tasks = record {
  moves = [];
  few = λ index. omega arith;
  told = λ k d low. absurd (omega arith);
  between = λ k d low. absurd (omega arith);
  added = λ row. omega arith;
  made = [];
  made_is = sym (append-nil v.turn.made);
  within = λ place h. absurd (omega arith);
  reserves = λ place h. absurd (omega arith);
}

-- one part after the other
pub words_then : (begin : Begin) (u v w : View) (ts us : List Record) (ds es : List Deed) → KnowsMore u v
    → MovesWords begin u v ts ds → KnowsMore v w
    → MovesWords begin v w us es → MovesWords begin u w (ts ++ us) (ds ++ es)
words_then begin u v w ts us ds es low_grows a grows b = record {
  moves = a.moves ++ b.moves;
  few = λ index.
      let p = a.few index in let q = b.few index in
      let c = moves_both index a.moves b.moves in let d = indexed_both index ts us in omega arith;
  told = All-append (TellsOne begin.start (entries_in w) (a.moves ++ b.moves)) ds es
      (λ k d low. told_left begin.start (entries_in w) a.moves b.moves (slice_index_or ds k d)
      (told_on begin v w grows a.moves (slice_index_or ds k d) (a.told k d low)))
      (λ k d low. told_right begin.start (entries_in w) a.moves b.moves (slice_index_or es k d) (b.told k d low));
  between = All-append (λ (own : ℕ × Move). LiesBetween begin.rows (words_in u) (words_in w) own.1) a.moves b.moves
      (lie_on begin u u v w (λ row. omega arith) grows.nexts a.moves a.between)
      (lie_on begin u v w w low_grows.nexts (λ row. omega arith) b.moves b.between);
  added = λ row. let p = a.added row in let q = b.added row in let c = adds_both row a.moves b.moves in omega arith;
  made = a.made ++ b.made;
  made_is = b.made_is ∙ ap (λ (l : List ℕ). l ++ b.made) a.made_is ∙ append_assoc u.turn.made a.made b.made;
  within = λ place h.
      let both = stands_both place a.made b.made in
      elim (either (stands place a.made) (stands place b.made) (omega arith)) [
        | inl own ↦ let low = a.within place own in let more = log_grows v w grows in omega arith
        | inr own ↦ b.within place own
      ];
  reserves = λ place h.
      let both = stands_both place a.made b.made in
      elim (either (stands place a.made) (stands place b.made) (omega arith)) [
        | inl own ↦ drawn_left a.moves b.moves (slice_get (log_of w) place)
            (drawn_on v w grows a.moves place (a.within place own) (a.reserves place own))
        | inr own ↦ drawn_right a.moves b.moves (slice_get (log_of w) place) (b.reserves place own)
      ];
}

pub then_parts : (begin : Begin) (u v w : View) (ts us : List Record) (ds es : List Deed) (low_grows : KnowsMore u v)
    (a : MovesWords begin u v ts ds)
    (grows : KnowsMore v w) (b : MovesWords begin v w us es)
    → ((words_then begin u v w ts us ds es low_grows a grows b).made ≡ a.made ++ b.made)
    × ((words_then begin u v w ts us ds es low_grows a grows b).moves ≡ a.moves ++ b.moves)
unfolding words_then
then_parts begin u v w ts us ds es low_grows a grows b = (refl, refl)

-- who did something without records made no reserve
pub no_reserve : (begin : Begin) (v w : View) (does : Does begin v w [] []) (place : ℕ) (entry : Entry)
    → 0 < stands place does.gains.made
    → slice_get (log_of w) place ≡ Some (lines.Entry entry) → entry.index ≡ None → ⊥
no_reserve begin v w does place entry in' is none =
    let one = count_one is_of_none (log_of w) place does.gains.made in' (ap is_of_none is ∙ ap is_none_index none) in
    let few = does.works.reserves in omega arith

-- to a view that knows more, to whose words nothing was added, and who had no records since
pub words_on : (begin : Begin) (u v w : View) (ts : List Record) (ds : List Deed) → MovesWords begin u v ts ds
    → Does begin v w [] []
    → ((row : ℕ) → amount row w.numbers.added ≡ amount row v.numbers.added) → MovesWords begin u w ts ds
words_on begin u v w ts ds a does same = record {
  moves = a.moves;
  few = a.few;
  told = λ k d low. told_on begin v w does.grows a.moves (slice_index_or ds k d) (a.told k d low);
  between = lie_on begin u u v w (λ row. omega arith) does.grows.nexts a.moves a.between;
  added = λ row. let p = a.added row in let q = same row in omega arith;
  made = a.made ++ does.gains.made;
  made_is = does.gained.made ∙ ap (λ (l : List ℕ). l ++ does.gains.made) a.made_is
      ∙ append_assoc u.turn.made a.made does.gains.made;
  within = λ place h.
      let both = stands_both place a.made does.gains.made in
      elim (either (stands place a.made) (stands place does.gains.made) (omega arith)) [
        | inl own ↦ let low = a.within place own in let more = log_grows v w does.grows in omega arith
        | inr own ↦ (does.works.made place own).1
      ];
  reserves = λ place h.
      let both = stands_both place a.made does.gains.made in
      elim (either (stands place a.made) (stands place does.gains.made) (omega arith)) [
        | inl own ↦ drawn_on v w does.grows a.moves place (a.within place own) (a.reserves place own)
        | inr own ↦ λ entry is none. absurd (no_reserve begin v w does place entry own is none)
      ];
}

pub on_parts : (begin : Begin) (u v w : View) (ts : List Record) (ds : List Deed) (a : MovesWords begin u v ts ds)
    (does : Does begin v w [] [])
    (same : (row : ℕ) → amount row w.numbers.added ≡ amount row v.numbers.added)
    → ((words_on begin u v w ts ds a does same).made ≡ a.made ++ does.gains.made)
    × ((words_on begin u v w ts ds a does same).moves ≡ a.moves)
unfolding words_on
on_parts begin u v w ts ds a does same = (refl, refl)

-- ---- the records of one lane, one after the other

-- the moves behind the numbers of the records
abbrev numbered : List Record → List Move → List (ℕ × Move)
numbered [] moves = []
numbered (task ∷ tasks) [] = []
numbered (task ∷ tasks) (move ∷ moves) = (task.index, move) ∷ numbered tasks moves

few_numbered : (index : ℕ) (ts : List Record) (ms : List Move) → moves_of index (numbered ts ms) ≤ indexed index ts
few_numbered index [] ms = omega arith
few_numbered index (t ∷ ts) [] = omega arith
few_numbered index (t ∷ ts) (m ∷ ms) = let h = few_numbered index ts ms in omega arith

adds_numbered : (row : ℕ) (ts : List Record) (ms : List Move) → length ms ≤ length ts
    → moves_add row (numbered ts ms) ≡ adds_all row ms
adds_numbered row [] [] h = refl
adds_numbered row [] (m ∷ ms) h = absurd (omega arith)
adds_numbered row (t ∷ ts) [] h = refl
adds_numbered row (t ∷ ts) (m ∷ ms) h = let g = adds_numbered row ts ms (omega arith) in omega arith

told_numbered : (start : State) (es : List Entry) (s : ℕ) (ts : List Record) (xs : List Answer) (ms last : List Move)
    → TellAll start es (deeds_of s ts xs) ms
    → All (TellsOne start es (numbered ts (ms ++ last))) (deeds_of s ts xs)
told_numbered start es s [] xs ms last h = λ k d low. absurd (omega arith)
told_numbered start es s (t ∷ ts) [] ms last h = λ k d low. absurd (omega arith)
told_numbered start es s (t ∷ ts) (x ∷ xs) [] last h = absurd h
told_numbered start es s (t ∷ ts) (x ∷ xs) (m ∷ ms) last h =
    All-cons (TellsOne start es ((t.index, m) ∷ numbered ts (ms ++ last))) (deed_of s t x) (deeds_of s ts xs)
    (m, (zero, omega arith, refl), h.0)
    (λ k d low. told_right start es ((t.index, m) ∷ []) (numbered ts (ms ++ last))
    (slice_index_or (deeds_of s ts xs) k d)
    (told_numbered start es s ts xs ms last h.1 k d low))

-- what holds of the moves holds of them behind their numbers
all_numbered : (P : Move → Type 0) (ts : List Record) (ms : List Move) → All P ms
    → All (λ (own : ℕ × Move). P own.1) (numbered ts ms)
all_numbered P [] ms h = λ k d low. absurd (omega arith)
all_numbered P (t ∷ ts) [] h = λ k d low. absurd (omega arith)
all_numbered P (t ∷ ts) (m ∷ ms) h =
    All-cons (λ (own : ℕ × Move). P own.1) (t.index, m) (numbered ts ms) (h zero m (omega arith))
    (all_numbered P ts ms (λ k d low. h (suc k) d (omega arith)))

contains_numbered : (ts : List Record) (ms : List Move) (m : Move) → length ms ≤ length ts → Contains ms m
    → (index : ℕ) × Contains (numbered ts ms) (index, m)
contains_numbered [] [] m h (k, low, is) = absurd (omega arith)
contains_numbered [] (x ∷ ms) m h there = absurd (omega arith)
contains_numbered (t ∷ ts) [] m h (k, low, is) = absurd (omega arith)
contains_numbered (t ∷ ts) (x ∷ ms) m h (zero, low, is) =
    (t.index, (zero, omega arith, ap (λ (y : Move). (t.index, y)) is))
contains_numbered (t ∷ ts) (x ∷ ms) m h (suc k, low, is) =
    let (index, (j, below, same)) = contains_numbered ts ms m (omega arith) (k, omega arith, is) in
    (index, (suc j, omega arith, same))

drawn_numbered : (ts : List Record) (ms : List Move) (line : Option Logged) → length ms ≤ length ts → IsOfMoves ms line
    → IsDrawnBy (numbered ts ms) line
drawn_numbered ts ms line h of entry is none =
    let (row, number, seen, there) = of entry is none in
    let (index, among) = contains_numbered ts ms (Drew row number) h there in (index, row, number, seen, among)

told_counted : (start : State) (es : List Entry) (ds : List Deed) (ms : List Move) → TellAll start es ds ms
    → length ms ≡ length ds
told_counted start es [] [] h = refl
told_counted start es [] (m ∷ ms) h = absurd h
told_counted start es (d ∷ ds) [] h = absurd h
told_counted start es (d ∷ ds) (m ∷ ms) h = let g = told_counted start es ds ms h.1 in ap suc g

deeds_few : (s : ℕ) (ts : List Record) (xs : List Answer) → length (deeds_of s ts xs) ≤ length ts
deeds_few s [] xs = omega arith
deeds_few s (t ∷ ts) [] = omega arith
deeds_few s (t ∷ ts) (x ∷ xs) = let h = deeds_few s ts xs in omega arith

-- what a worker did exactly, whatever others did
pub words_exactly : (begin : Begin) (u v : View) (s : ℕ) (ts : List Record) (xs : List Answer)
    (a : MovedExactly begin u v (length ts) (deeds_of s ts xs))
    → ((place : ℕ) → 0 < stands place a.made → place < length (log_of v)) → MovesWords begin u v ts (deeds_of s ts xs)
words_exactly begin u v s ts xs a within =
    let size = told_counted begin.start (entries_in v) (deeds_of s ts xs) a.exact.moves a.exact.told in
    let most = deeds_few s ts xs in
    let both = length-append a.exact.moves a.last in
    let one = a.few in
    let low : length (a.exact.moves ++ a.last) ≤ length ts = elim (cases_lt (length (deeds_of s ts xs)) (length ts)) [
      | inl lt ↦ omega arith
      | inr ge ↦ let none = ap length (a.each (omega arith)) in omega arith
    ] in
    record {
      moves = numbered ts (a.exact.moves ++ a.last);
      few = λ index. few_numbered index ts (a.exact.moves ++ a.last);
      told = told_numbered begin.start (entries_in v) s ts xs a.exact.moves a.last a.exact.told;
      between = all_numbered (LiesBetween begin.rows (words_in u) (words_in v)) ts (a.exact.moves ++ a.last)
          a.exact.between;
      added = λ row.
          let h = a.exact.added row in let g = adds_numbered row ts (a.exact.moves ++ a.last) low in omega arith;
      made = a.made;
      made_is = a.made_is;
      within = within;
      reserves = λ place in'. drawn_numbered ts (a.exact.moves ++ a.last) (slice_get (log_of v) place) low
          (a.exact.reserves place in');
    }

-- ---- the lanes of a segment, at once

-- what the lanes' records moved the words by, as the last view knows it
record LanesMoved (begin : Begin) (base now last : View) (s : ℕ) (tasks : List Record) (parts : List Part) : Type 0
  where
    pub moves : List (ℕ × Move)
    pub few : (index : ℕ) → moves_of index moves ≤ indexed index (parts_tasks tasks parts)
    pub told : All (TellsOne begin.start (entries_in last) moves) (parts_deeds s tasks parts)
    pub between : All (λ (own : ℕ × Move). LiesBetween begin.rows (words_in base) (words_in last) own.1) moves
    pub added : (row : ℕ) → amount row (meeting_all now parts).numbers.added ≡ amount row now.numbers.added
        + moves_add row moves
    pub made : List ℕ
    pub made_is : (meeting_all now parts).turn.made ≡ now.turn.made ++ made
    pub within : (place : ℕ) → 0 < stands place made → place < length (log_of last)
    pub reserves : (place : ℕ) → 0 < stands place made → IsDrawnBy moves (slice_get (log_of last) place)

module _ (begin : Begin) (base last : View) (s : ℕ) (tasks : List Record) where
  -- a worker that was split from the base handled the lane's records
  abbrev pub LaneMoved : Part → Type 0
  LaneMoved part = MovesWords begin (starting base) part.knows (of_lane part.number tasks)
      (deeds_of s (of_lane part.number tasks) part.answers)

  lanes_moved : (parts : List Part) (now : View) → All LaneMoved parts
      → All (λ (part : Part). KnowsMore part.knows last) parts
      → LanesMoved begin base now last s tasks parts
  lanes_moved [] now did grows = record {
    moves = [];
    few = λ index. omega arith;
    told = λ k d low. absurd (omega arith);
    between = λ k d low. absurd (omega arith);
    added = λ row. omega arith;
    made = [];
    made_is = sym (append-nil now.turn.made);
    within = λ place h. absurd (omega arith);
    reserves = λ place h. absurd (omega arith);
  }
  lanes_moved (part ∷ parts) now did grows =
      let own : LaneMoved part = did 0 part (omega arith) in
      let more : KnowsMore part.knows last = grows 0 part (omega arith) in
      let rest = lanes_moved parts (meeting now part.knows) (λ k d low. did (suc k) d (omega arith))
      (λ k d low. grows (suc k) d (omega arith)) in
      let ts : List Record = of_lane part.number tasks in
      let ds : List Deed = deeds_of s (of_lane part.number tasks) part.answers in
      record {
        moves = own.moves ++ rest.moves;
        few = λ index.
            let p = own.few index in let q = rest.few index in
            let c = moves_both index own.moves rest.moves in
            let d = indexed_both index (of_lane part.number tasks) (parts_tasks tasks parts) in omega arith;
        told = All-append (TellsOne begin.start (entries_in last) (own.moves ++ rest.moves)) ds
            (parts_deeds s tasks parts)
            (λ k d low. told_left begin.start (entries_in last) own.moves rest.moves (slice_index_or ds k d)
            (told_on begin part.knows last more own.moves (slice_index_or ds k d) (own.told k d low)))
            (λ k d low. told_right begin.start (entries_in last) own.moves rest.moves
            (slice_index_or (parts_deeds s tasks parts) k d) (rest.told k d low));
        between = All-append (λ (own : ℕ × Move). LiesBetween begin.rows (words_in base) (words_in last) own.1)
            own.moves rest.moves
            (lie_on begin base (starting base) part.knows last (λ row. omega arith) more.nexts own.moves own.between)
            rest.between;
        added = λ row.
            let p : amount row part.knows.numbers.added ≡ 0 + moves_add row own.moves = own.added row in
            let q = rest.added row in
            let c = adds_both row own.moves rest.moves in
            let d = amount-append row now.numbers.added part.knows.numbers.added in omega arith;
        made = own.made ++ rest.made;
        made_is =
            let first : part.knows.turn.made ≡ own.made = own.made_is in
            rest.made_is ∙ append_assoc now.turn.made part.knows.turn.made rest.made
            ∙ ap (λ (l : List ℕ). now.turn.made ++ (l ++ rest.made)) first;
        within = λ place h.
            let both = stands_both place own.made rest.made in
            elim (either (stands place own.made) (stands place rest.made) (omega arith)) [
              | inl here ↦ let low = own.within place here in let longer = log_grows part.knows last more in omega arith
              | inr here ↦ rest.within place here
            ];
        reserves = λ place h.
            let both = stands_both place own.made rest.made in
            elim (either (stands place own.made) (stands place rest.made) (omega arith)) [
              | inl here ↦ drawn_left own.moves rest.moves (slice_get (log_of last) place)
                  (drawn_on part.knows last more own.moves place (own.within place here) (own.reserves place here))
              | inr here ↦ drawn_right own.moves rest.moves (slice_get (log_of last) place) (rest.reserves place here)
            ];
      }

  -- joined to the worker that they were split from; the answers may stand in any order, and some may be left out
  pub lanes_words : (now : View) (parts : List Part) (deeds : List Deed)
      → AllPairs (λ (p q : Part). p.number ≢ q.number) parts
      → All LaneMoved parts → All (λ (part : Part). KnowsMore part.knows last) parts
      → ((row : ℕ) → amount row now.numbers.added ≡ amount row base.numbers.added)
      → ((row : ℕ) → amount row last.numbers.added ≡ amount row (meeting_all now parts).numbers.added)
      → now.turn.made ≡ base.turn.made → last.turn.made ≡ (meeting_all now parts).turn.made
      → All (Contains (parts_deeds s tasks parts)) deeds → MovesWords begin base last tasks deeds
  lanes_words now parts deeds apart did grows from to made_from made_to among =
      let all = lanes_moved parts now did grows in
      record {
        moves = all.moves;
        few = λ index. let a = all.few index in let b = indexed_lanes index tasks parts apart in omega arith;
        told = λ k d low. All-contains (TellsOne begin.start (entries_in last) all.moves) (parts_deeds s tasks parts)
            (slice_index_or deeds k d) all.told (among k d low);
        between = all.between;
        added = λ row. let a = all.added row in let f = from row in let t = to row in omega arith;
        made = all.made;
        made_is = made_to ∙ all.made_is ∙ ap (λ (l : List ℕ). l ++ all.made) made_from;
        within = all.within;
        reserves = all.reserves;
      }

-- ---- the move of each record

-- the move of the record with this number, if it has one
abbrev pub move_in : List (ℕ × Move) → ℕ → Move
move_in [] index = Kept
move_in (own ∷ moves) index = cond (eqb own.0 index) own.1 (move_in moves index)

-- what holds of all moves, and of none, holds of the move of each number
pub all_moved : (P : Move → Type 0) (moves : List (ℕ × Move)) → P Kept → All (λ (own : ℕ × Move). P own.1) moves
    → (index : ℕ) → P (move_in moves index)
all_moved P [] none h index = none
all_moved P (own ∷ moves) none h index =
    go (eqb own.0 index) (h zero own (omega arith))
    (all_moved P moves none (λ k d low. h (suc k) d (omega arith)) index)
  where
    go : (b : Bool) → P own.1 → P (move_in moves index) → P (cond b own.1 (move_in moves index))
    go true first rest = first
    go false first rest = rest

none_moved : (moves : List (ℕ × Move)) (index : ℕ) → moves_of index moves ≡ 0 → move_in moves index ≡ Kept
none_moved [] index h = refl
none_moved (own ∷ moves) index h = go (eqb own.0 index) h (none_moved moves index)
  where
    go : (b : Bool) → cond b 1 0 + moves_of index moves ≡ 0 → (moves_of index moves ≡ 0 → move_in moves index ≡ Kept)
        → cond b own.1 (move_in moves index) ≡ Kept
    go true h rest = absurd (omega arith)
    go false h rest = rest (omega arith)

pub one_moved : (moves : List (ℕ × Move)) (index : ℕ) (move : Move) → Contains moves (index, move)
    → 1 ≤ moves_of index moves
one_moved [] index move (k, low, is) = absurd (omega arith)
one_moved (own ∷ moves) index move (zero, low, is) =
    let here : own ≡ (index, move) = is in
    let same : own.0 ≡ index = ap (λ (p : ℕ × Move). p.0) here in
    let t : eqb own.0 index ≡ true = grind (arith, nat_tests) in
    subst (λ (b : Bool). 1 ≤ cond b 1 0 + moves_of index moves) (sym t) (omega arith)
one_moved (own ∷ moves) index move (suc k, low, is) =
    let h = one_moved moves index move (k, omega arith, is) in omega arith

pub move_found : (moves : List (ℕ × Move)) (index : ℕ) (move : Move) → moves_of index moves ≤ 1
    → Contains moves (index, move) → move_in moves index ≡ move
move_found [] index move few (k, low, is) = absurd (omega arith)
move_found (own ∷ moves) index move few (zero, low, is) =
    let here : own ≡ (index, move) = is in
    let same : own.0 ≡ index = ap (λ (p : ℕ × Move). p.0) here in
    let t : eqb own.0 index ≡ true = grind (arith, nat_tests) in
    ap (λ (b : Bool). cond b own.1 (move_in moves index)) t ∙ ap (λ (p : ℕ × Move). p.1) here
move_found (own ∷ moves) index move few (suc k, low, is) =
    go (eqb own.0 index) few (one_moved moves index move (k, omega arith, is))
    (λ small. move_found moves index move small (k, omega arith, is))
  where
    go : (b : Bool) → cond b 1 0 + moves_of index moves ≤ 1 → 1 ≤ moves_of index moves
        → (moves_of index moves ≤ 1 → move_in moves index ≡ move)
        → cond b own.1 (move_in moves index) ≡ move
    go true h one rest = absurd (omega arith)
    go false h one rest = rest (omega arith)

nothing_added : (row : ℕ) (ts : List Record) → adds_each row (move_in []) ts ≡ 0
nothing_added row [] = refl
nothing_added row (t ∷ ts) = let h = nothing_added row ts in omega arith

-- where none of the records has the number of the first move
add_none : (row : ℕ) (own : ℕ × Move) (moves : List (ℕ × Move)) (ts : List Record) → indexed own.0 ts ≡ 0
    → adds_each row (move_in (own ∷ moves)) ts ≡ adds_each row (move_in moves) ts
add_none row own moves [] h = refl
add_none row own moves (t ∷ ts) h = elim (cases_eq own.0 t.index) [
  | inl is ↦
      let t1 : eqb t.index own.0 ≡ true = grind (arith, nat_tests) in
      absurd (let k : cond true 1 0 + indexed own.0 ts ≡ 0 =
      subst (λ (b : Bool). cond b 1 0 + indexed own.0 ts ≡ 0) t1 h in omega arith)
  | inr off ↦
      let f : eqb own.0 t.index ≡ false = grind (arith, nat_tests) in
      let g = add_none row own moves ts (omega arith) in
      let here : adds row (move_in (own ∷ moves) t.index) ≡ adds row (move_in moves t.index) =
      ap (λ (b : Bool). adds row (cond b own.1 (move_in moves t.index))) f in omega arith
]

-- where one of them has it, and no other move is of that number
add_one : (row : ℕ) (own : ℕ × Move) (moves : List (ℕ × Move)) (ts : List Record) → moves_of own.0 moves ≡ 0
    → indexed own.0 ts ≡ 1
    → adds_each row (move_in (own ∷ moves)) ts ≡ adds row own.1 + adds_each row (move_in moves) ts
add_one row own moves [] none h = absurd (omega arith)
add_one row own moves (t ∷ ts) none h = elim (cases_eq own.0 t.index) [
  | inl is ↦
      let t1 : eqb t.index own.0 ≡ true = grind (arith, nat_tests) in
      let t2 : eqb own.0 t.index ≡ true = grind (arith, nat_tests) in
      let k : cond true 1 0 + indexed own.0 ts ≡ 1 = subst (λ (b : Bool). cond b 1 0 + indexed own.0 ts ≡ 1) t1 h in
      let g = add_none row own moves ts (omega arith) in
      let here : adds row (move_in (own ∷ moves) t.index) ≡ adds row own.1 =
      ap (λ (b : Bool). adds row (cond b own.1 (move_in moves t.index))) t2 in
      let kept : move_in moves t.index ≡ Kept =
      none_moved moves t.index (subst (λ (i : ℕ). moves_of i moves ≡ 0) is none) in
      let zero_added : adds row (move_in moves t.index) ≡ 0 = ap (adds row) kept in omega arith
  | inr off ↦
      let f : eqb own.0 t.index ≡ false = grind (arith, nat_tests) in
      let f' : eqb t.index own.0 ≡ false = grind (arith, nat_tests) in
      let k : cond false 1 0 + indexed own.0 ts ≡ 1 = subst (λ (b : Bool). cond b 1 0 + indexed own.0 ts ≡ 1) f' h in
      let g = add_one row own moves ts none (omega arith) in
      let here : adds row (move_in (own ∷ moves) t.index) ≡ adds row (move_in moves t.index) =
      ap (λ (b : Bool). adds row (cond b own.1 (move_in moves t.index))) f in omega arith
]

-- what all moves add is what the records add, each by its move, where their numbers differ
pub moves_summed : (row : ℕ) (moves : List (ℕ × Move)) (ts : List Record)
    → ((index : ℕ) → moves_of index moves ≤ indexed index ts)
    → ((index : ℕ) → indexed index ts ≤ 1) → adds_each row (move_in moves) ts ≡ moves_add row moves
moves_summed row [] ts few once = nothing_added row ts
moves_summed row (own ∷ moves) ts few once =
    let t : eqb own.0 own.0 ≡ true = grind (arith, nat_tests) in
    let a : cond true 1 0 + moves_of own.0 moves ≤ indexed own.0 ts =
    subst (λ (b : Bool). cond b 1 0 + moves_of own.0 moves ≤ indexed own.0 ts) t (few own.0) in
    let b = once own.0 in
    let rest = moves_summed row moves ts (λ index. let h = few index in omega arith) once in
    let one = add_one row own moves ts (omega arith) (omega arith) in omega arith
