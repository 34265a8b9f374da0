-- Where all records are of one lane: how the words moved, segment by segment, and what is told of it at the end of a
-- run.
use Rattle.std.proofs.Common.{◌≡◌, ◌⊎◌, Bool, false, IsTrue, ℕ, zero, suc, ◌+◌, ◌<◌, ◌≤◌, List, [], ◌∷◌, ◌++◌, length}
use Rattle.std.proofs.Common.{Some, refl, sym, ◌∙◌, ap, subst, inl, inr, arith, append_assoc, append-nil, length-append}
use Rattle.std.proofs.Common.{take, drop, max}
use Rattle.std.specs.List.{All, slice_get, slice_index}
use Rattle.std.proofs.lemmas.Bool.Decides.{nat_tests}
use Rattle.std.proofs.lemmas.List.{append_cancel_left, take-append-drop, take-append-le, take_all}
use Rattle.std.proofs.lemmas.List.Elements.{All-nil, All-cons}
use Rattle.sdls_base.specs.declared.TheConstants.{MOST_KEYS}
use Rattle.sdls_base.specs.declared.entry.Entry.{Entry}
use Rattle.counter_table.specs.declared.view.Numbers.{Numbers}
use Rattle.counter_table.specs.declared.view.View.{View}
use Rattle.counter_table.specs.Numbers.{amount, top}
use Rattle.sdls_outside.specs.Faults.{Rose}
use Rattle.counter_table.specs.Turn.{stands}
use Rattle.key_book.specs.KeyBook.{place_of}
use Rattle.unit_plan.specs.PlanLines.{PlanLines}
use Rattle.unit_state.specs.History.{after_all, epoch_after}
use Rattle.run_promise.specs.Log.{entries_of}
use Rattle.run_promise.specs.Numbers.{mark_of, mark_at}
use Rattle.sdls_base.specs.Numbers.{tally}
use Rattle.counter_table.specs.Whole.{IsWhole, RowStands}
use Rattle.record_io.specs.declared.answers.Answer.{Answer}
use Rattle.std.proofs.Common.{◌≢◌}
use Rattle.record_io.specs.declared.reader.RecordKind.TheVariants.{Monitor}
use Rattle.record_io.specs.declared.item_cursor.Record.{Record}
use Rattle.record_io.specs.Places.{Place, records_of}
use Rattle.law_workers.specs.Counts.{count_at, is_of_none}
use Rattle.run_promise.specs.History.{is_none_index}
use Rattle.run_promise.specs.Call.{Begin, CallSeen}
use Rattle.law_workers.specs.Views.{entries_in, KnowsMore, log_of}
use Rattle.run_promise.specs.Deed.{Deed}
use Rattle.law_workers.specs.Deeds.{Does, deeds_of}
use Rattle.law_workers.proofs.Histories.{get_front, place_of_entry}
use Rattle.law_workers.proofs.Joining.{grows_further}
use Rattle.law_workers.proofs.Logs.{count_one, stands_both, times_both}
use Rattle.run_promise.specs.Words.{Move, Runs, TellAll}
use Rattle.run_promise.specs.OneLane.{ServesAll, failed_after, OneLane, IsExact}
use Rattle.law_workers.specs.InTurn.{MadeAllLines, IsClean, IsLeftBehind, IsLevel, AllStand, stood_in, IsBacked}
use Rattle.law_workers.specs.Exact.{words_in, Exact, IsOfMoves}
use Rattle.law_workers.specs.Alone.{MovedExactly, ServedAlone}
use Rattle.law_workers.proofs.Alone.{below_log, exact_seen, seen_moves}
use Rattle.law_workers.proofs.Machines.{alone, exact_nothing, exact_then, nothing_moves, runs_same, tell_more}
use Rattle.law_workers.proofs.Machines.{then_moves}
use Rattle.law_workers.proofs.Turns.{all_on, failed_both, level_on, log_low, made_first, made_rest, serves_both}
use Rattle.law_workers.proofs.Turns.{stood_is, stood_on}
use Rattle.law_workers.specs.Opened.{IsJustOpened}
use Rattle.law_workers.specs.Settles.{SettlesAt}
use Rattle.run_promise.specs.Account.{Account, begin_of, deeds_from, deeds_in}
use Rattle.law_runs.proofs.Placed.{deeds_both, deeds_of_segment, records_length}
use Rattle.law_runs.specs.Doing.{MovedAlone, PutsPieces, RunAlone}

-- ---- records of one lane

lane_first : (lane : ℕ) (places more : List Place)
    → All (λ (task : Record). task.kind ≢ Monitor → task.lane ≡ lane) (records_of (places ++ more))
    → All (λ (task : Record). task.kind ≢ Monitor → task.lane ≡ lane) (records_of places)
lane_first lane [] more all = All-nil (λ (task : Record). task.kind ≢ Monitor → task.lane ≡ lane)
lane_first lane (place ∷ places) more all =
    All-cons (λ (task : Record). task.kind ≢ Monitor → task.lane ≡ lane) place.task (records_of places)
    (all 0 place.task (omega arith))
    (lane_first lane places more (λ k d low. all (suc k) d (omega arith)))

lane_rest : (lane : ℕ) (places more : List Place)
    → All (λ (task : Record). task.kind ≢ Monitor → task.lane ≡ lane) (records_of (places ++ more))
    → All (λ (task : Record). task.kind ≢ Monitor → task.lane ≡ lane) (records_of more)
lane_rest lane [] more all = all
lane_rest lane (place ∷ places) more all = lane_rest lane places more (λ k d low. all (suc k) d (omega arith))

deeds_length : (places : List Place) (answers : List Answer) → length answers ≡ length places
    → length (deeds_from places answers) ≡ length places
deeds_length [] answers same = refl
deeds_length (place ∷ places) [] same = absurd (omega arith)
deeds_length (place ∷ places) (answer ∷ answers) same = ap suc (deeds_length places answers (omega arith))

-- ---- one segment more

either : (a b : ℕ) → 0 < a + b → (0 < a) ⊎ (0 < b)
either zero b h = inr (omega arith)
either (suc a) b h = inl (omega arith)

-- no line that was put is a reserve
none_reserved : (begin : Begin) (mid w : View) (puts : PutsPieces begin mid w) (moves : List Move) (place : ℕ)
    → 0 < stands place puts.does.gains.made
    → IsOfMoves moves (slice_get (log_of w) place)
none_reserved begin mid w puts moves place made entry is none =
    let test = ap is_of_none is ∙ ap is_none_index none in
    let a = count_one is_of_none (log_of w) place puts.does.gains.made made test in
    let b : count_at is_of_none (log_of w) puts.does.gains.made ≤ 0 = puts.does.works.reserves in
    absurd (omega arith)

-- answers that were put moved no word
moved_put : (begin : Begin) (v mid w : View) (tasks : List Record) (n : ℕ) (deeds : List Deed)
    → Does begin v mid tasks deeds → MovedExactly begin v mid n deeds
    → PutsPieces begin mid w → w.numbers ≡ mid.numbers → MovedExactly begin v w n deeds
moved_put begin v mid w tasks n deeds does a puts same =
    let amounts : (row : ℕ) → amount row w.numbers.added ≡ amount row mid.numbers.added =
    λ row. ap (λ (k : Numbers). amount row k.added) same in
    let e = exact_seen begin v mid v w a.made deeds a.last a.exact
    (below_log begin v mid tasks deeds does a.made a.made_is) puts.does.grows (λ row. refl)
    (λ row. ap (λ (k : Numbers). top row k.nexts) same) (λ row. let h = amounts row in omega arith) in
    record {
      made = a.made ++ puts.does.gains.made;
      made_is =
          puts.does.gained.made ∙ (ap (λ (l : List ℕ). l ++ puts.does.gains.made) a.made_is
          ∙ append_assoc v.turn.made a.made puts.does.gains.made);
      last = a.last;
      few = a.few;
      each = a.each;
      exact = record {
        moves = e.moves;
        told = e.told;
        reserves = λ place made.
            let s = stands_both place a.made puts.does.gains.made in
            elim (either (stands place a.made) (stands place puts.does.gains.made) (omega arith)) [
              | inl here ↦ e.reserves place here
              | inr there ↦ none_reserved begin mid w puts (e.moves ++ a.last) place there
            ];
        added = e.added;
        between = e.between;
        grown = e.grown;
        exact = e.exact;
      };
    }

-- the moves are those of the records
put_moves : (begin : Begin) (v mid w : View) (tasks : List Record) (n : ℕ) (deeds : List Deed)
    (does : Does begin v mid tasks deeds) (a : MovedExactly begin v mid n deeds)
    (puts : PutsPieces begin mid w) (same : w.numbers ≡ mid.numbers)
    → (moved_put begin v mid w tasks n deeds does a puts same).exact.moves ≡ a.exact.moves
unfolding moved_put
put_moves begin v mid w tasks n deeds does a puts same =
    seen_moves begin v mid v w a.made deeds a.last a.exact (below_log begin v mid tasks deeds does a.made a.made_is)
    puts.does.grows (λ row. refl)
    (λ row. ap (λ (k : Numbers). top row k.nexts) same)
    (λ row. let h : amount row w.numbers.added ≡ amount row mid.numbers.added =
    ap (λ (k : Numbers). amount row k.added) same in omega arith)

-- the lines that were made since a view stand behind its log
above_log : (begin : Begin) (u v : View) (ts : List Record) (ds : List Deed) → Does begin u v ts ds → (made : List ℕ)
    → v.turn.made ≡ u.turn.made ++ made
    → (place : ℕ) → 0 < stands place made → length (log_of u) ≤ place
above_log begin u v ts ds d made is place h =
    let same : made ≡ d.gains.made = append_cancel_left u.turn.made made d.gains.made (sym is ∙ d.gained.made) in
    (d.works.made place (subst (λ (l : List ℕ). 0 < stands place l) same h)).0

-- the answered records were served so, whether an append had failed before or not; and whether one has failed, the
-- answers tell
abbrev ServedSo : Begin → View → View → List Deed → List Move → List Entry → Type 0
ServedSo begin first now deeds moves own = (failed : Bool) → (¬ AllStand first → IsTrue failed)
    → ServesAll begin failed (stood_in first) deeds moves own × (¬ AllStand now → IsTrue (failed_after failed deeds))

module _ (begin : Begin) (first v mid w : View) (places more : List Place) (answers next : List Answer)
    (number stored entries lines : ℕ)
    (does : Does begin first v (records_of places) (deeds_from places answers)) (each : length answers ≡ length places)
    (here : Does begin v mid (records_of more) (deeds_from more next))
    (puts : PutsPieces begin mid w) (same : w.numbers ≡ mid.numbers)
    (settles : SettlesAt begin mid w stored entries lines)
    (a : RunAlone begin first v places answers) (b : ServedAlone begin v mid (length more) (deeds_from more next)) where
  c : MovedExactly begin v w (length more) (deeds_from more next)
  c = moved_put begin v mid w (records_of more) (length more) (deeds_from more next) here b.moved puts same

  grows : KnowsMore v w
  grows = grows_further v mid w here.grows puts.does.grows

  below : (place : ℕ) → 0 < stands place a.moved.made → place < length (log_of v)
  below = below_log begin first v (records_of places) (deeds_from places answers) does a.moved.made a.moved.made_is

  -- what was served before, once each record has its answer
  Before : List Move → Type 0
  Before last = (e : Exact begin first v a.moved.made (deeds_from places answers) last)
      × (MadeAllLines first v a.moved.made → IsLevel first
      → (own : List Entry) × (rest : List Entry) × (stood_in v ≡ stood_in first ++ (own ++ rest))
      × ServedSo begin first v (deeds_from places answers) e.moves own × IsLeftBehind v last rest)

  before : Before []
  unfolding Before
  before = subst Before (a.moved.each (deeds_length places answers each)) (a.moved.exact, a.served)

  above_rest : (place : ℕ) → 0 < stands place (b.moved.made ++ puts.does.gains.made) → length (log_of v) ≤ place
  above_rest place in' =
      let s = stands_both place b.moved.made puts.does.gains.made in
      elim (either (stands place b.moved.made) (stands place puts.does.gains.made) (omega arith)) [
        | inl one ↦ above_log begin v mid (records_of more) (deeds_from more next) here b.moved.made b.moved.made_is
            place one
        | inr two ↦ let p = (puts.does.works.made place two).0 in let l = log_low v mid here.grows in omega arith
      ]

  above_put : (place : ℕ) → 0 < stands place puts.does.gains.made → length (log_of mid) ≤ place
  above_put place in' = (puts.does.works.made place in').0

  -- what the segment spent and saw was backed when its answers were put
  backed_mid : IsLevel mid → IsBacked begin mid b.spent
  backed_mid level = record {
    marks = λ key row number few there in'.
        let t : tally row number mid.numbers.spent ≡ tally row number v.numbers.spent + tally row number b.spent =
        ap (tally row number) b.between.spent_is ∙ times_both row number v.numbers.spent b.spent in
        let found =
        settles.marks key row number few
        (subst (λ (es : List Entry). place_of (after_all begin.start es).keys key ≡ Some row) (sym puts.entries)
        there) (omega arith) in
        subst (λ (es : List Entry). number < mark_of (after_all begin.start es) key) stood found;
    epoch = let low = settles.epoch in let counted = ap epoch_after stood in omega arith;
  } where
    stood : take entries (entries_in w) ≡ stood_in mid
    stood = ap (take entries) puts.entries ∙ stood_is mid entries level settles.standing settles.stopped

  -- what stands is left so by the puts
  left_put : (last : List Move) (rest : List Entry) → IsLeftBehind mid last rest → IsLeftBehind w last rest
  left_put last rest (none, inl empty) = (none, inl empty)
  left_put last rest (none, inr (few, all)) =
      (none, inr (few, all_on mid w puts.does.grows.earlier puts.does.grows.opening puts.entries all))

  both_served : (e : Exact begin first v a.moved.made (deeds_from places answers) []) (moves : List Move)
      → moves ≡ e.moves ++ b.moved.exact.moves
      → (MadeAllLines first v a.moved.made → IsLevel first
      → (own : List Entry) × (rest : List Entry) × (stood_in v ≡ stood_in first ++ (own ++ rest))
      × ServedSo begin first v (deeds_from places answers) e.moves own × IsLeftBehind v [] rest)
      → MadeAllLines first w (a.moved.made ++ (b.moved.made ++ puts.does.gains.made)) → IsLevel first
      → (own : List Entry) × (rest : List Entry) × (stood_in w ≡ stood_in first ++ (own ++ rest))
      × ServedSo begin first w (deeds_from places answers ++ deeds_from more next) moves own
      × IsLeftBehind w b.moved.last rest
  both_served e moves is served all level =
      let level_v = a.level level in
      let level_mid = b.between.level level_v in
      let lines_rest = made_rest first v w a.moved.made (b.moved.made ++ puts.does.gains.made) does.grows below all in
      let (own, none, all_is, one, left) =
      served (made_first first v w a.moved.made (b.moved.made ++ puts.does.gains.made) grows above_rest all)
      level in
      let own_is : stood_in v ≡ stood_in first ++ own =
      all_is ∙ ap (λ (l : List Entry). stood_in first ++ (own ++ l)) (left.0 refl)
      ∙ ap (λ (l : List Entry). stood_in first ++ l) (append-nil own) in
      let (more_own, rest, more_is, two, behind) =
      b.between.served (made_first v mid w b.moved.made puts.does.gains.made puts.does.grows above_put lines_rest)
      level_v (backed_mid level_mid) in (
        own ++ more_own,
        rest,
        stood_on mid w puts.does.grows.earlier puts.does.grows.opening puts.entries level_mid
            ∙ more_is ∙ ap (λ (l : List Entry). l ++ (more_own ++ rest)) own_is ∙ append_assoc (stood_in first) own
            (more_own ++ rest)
            ∙ ap (λ (l : List Entry). stood_in first ++ l) (sym (append_assoc own more_own rest)),
        λ failed tells.
            let (first_part, told) = one failed tells in
            let (second, last_told) = two (failed_after failed (deeds_from places answers)) told in (
              subst (λ (l : List Move). ServesAll begin failed (stood_in first)
                  (deeds_from places answers ++ deeds_from more next) l (own ++ more_own)) (sym is)
                  (serves_both begin failed (stood_in first) (deeds_from places answers) (deeds_from more next) e.moves
                  b.moved.exact.moves own more_own first_part
                  (subst (λ (l : List Entry). ServesAll begin (failed_after failed (deeds_from places answers)) l
                  (deeds_from more next) b.moved.exact.moves more_own)
                  own_is second)),
              λ not. subst IsTrue (sym (failed_both failed (deeds_from places answers) (deeds_from more next)))
                  (last_told
                  (λ all. not (all_on mid w puts.does.grows.earlier puts.does.grows.opening puts.entries all))),
            ),
        left_put b.moved.last rest behind,
      )

  -- a segment behind those before
  alone_then : (moved : MovedExactly begin first w (length places + length more)
      (deeds_from places answers ++ deeds_from more next))
      × (IsLevel first → IsLevel w)
      × (MadeAllLines first w moved.made → IsLevel first
      → (own : List Entry) × (rest : List Entry) × (stood_in w ≡ stood_in first ++ (own ++ rest))
      × ServedSo begin first w (deeds_from places answers ++ deeds_from more next) moved.exact.moves own
      × IsLeftBehind w moved.last rest)
  unfolding before Before c moved_put
  alone_then =
      let (e, served) = before in (
        record {
          made = a.moved.made ++ c.made;
          made_is =
              c.made_is ∙ (ap (λ (l : List ℕ). l ++ c.made) a.moved.made_is ∙ append_assoc first.turn.made a.moved.made
              c.made);
          last = c.last;
          few = c.few;
          each = λ all. c.each (let both = length-append (deeds_from places answers) (deeds_from more next) in
              let d = deeds_length places answers each in omega arith);
          exact = exact_then begin first v w a.moved.made c.made (deeds_from places answers) (deeds_from more next)
              c.last e below grows c.exact;
        },
        λ level. level_on mid w puts.does.grows.earlier puts.does.grows.opening puts.entries puts.does.grows.epochs
            (b.between.level (a.level level)),
        both_served e
            (exact_then begin first v w a.moved.made c.made (deeds_from places answers) (deeds_from more next) c.last e
            below grows c.exact).moves
            (then_moves begin first v w a.moved.made c.made (deeds_from places answers) (deeds_from more next) c.last e
            below grows c.exact
            ∙ ap (λ (l : List Move). e.moves ++ l)
            (put_moves begin v mid w (records_of more) (length more) (deeds_from more next) here b.moved puts same))
            served,
      )

-- a run whose records are of one lane, with these deeds, where they are so many
alone_as : (begin : Begin) (first w : View) (places : List Place) (answers : List Answer) (n : ℕ) (deeds : List Deed)
    → length places ≡ n
    → deeds_from places answers ≡ deeds
    → (moved : MovedExactly begin first w n deeds) × (IsLevel first → IsLevel w)
    × (MadeAllLines first w moved.made → IsLevel first
    → (own : List Entry) × (rest : List Entry) × (stood_in w ≡ stood_in first ++ (own ++ rest))
    × ServedSo begin first w deeds moved.exact.moves own
    × IsLeftBehind w moved.last rest)
    → RunAlone begin first w places answers
alone_as begin first w places answers n deeds size is h =
    let (moved, level, served) =
    subst (λ (k : ℕ). (moved : MovedExactly begin first w k (deeds_from places answers))
    × (IsLevel first → IsLevel w)
    × (MadeAllLines first w moved.made → IsLevel first
    → (own : List Entry) × (rest : List Entry) × (stood_in w ≡ stood_in first ++ (own ++ rest))
    × ServedSo begin first w (deeds_from places answers) moved.exact.moves own
    × IsLeftBehind w moved.last rest)) (sym size)
    (subst (λ (ds : List Deed). (moved : MovedExactly begin first w n ds) × (IsLevel first → IsLevel w)
    × (MadeAllLines first w moved.made → IsLevel first
    → (own : List Entry) × (rest : List Entry) × (stood_in w ≡ stood_in first ++ (own ++ rest))
    × ServedSo begin first w ds moved.exact.moves own
    × IsLeftBehind w moved.last rest)) (sym is) h) in
    record { moved = moved; level = level; served = served }

pub moved_on : (begin : Begin) (first v mid w : View) (places more : List Place) (answers next : List Answer)
    (number stored entries lines : ℕ)
    → Does begin first v (records_of places) (deeds_from places answers) → length answers ≡ length places
    → All (λ (place : Place). place.segment ≡ number) more → Does begin v mid (records_of more) (deeds_from more next)
    → PutsPieces begin mid w → w.numbers ≡ mid.numbers → SettlesAt begin mid w stored entries lines
    → MovedAlone begin first v places answers
    → (OneLane (records_of more) → ServedAlone begin v mid (length (records_of more))
    (deeds_of number (records_of more) next))
    → MovedAlone begin first w (places ++ more) (answers ++ next)
moved_on begin first v mid w places more answers next number stored entries lines does each of here puts same settles
    earlier segment (lane, all) =
    let a = earlier (lane, lane_first lane places more all) in
    let b : ServedAlone begin v mid (length more) (deeds_from more next) =
    subst (λ (n : ℕ). ServedAlone begin v mid n (deeds_from more next)) (records_length more)
    (subst (ServedAlone begin v mid (length (records_of more))) (sym (deeds_of_segment number more next of))
    (segment (lane, lane_rest lane places more all))) in
    alone_as begin first w (places ++ more) (answers ++ next) (length places + length more)
    (deeds_from places answers ++ deeds_from more next)
    (length-append places more) (deeds_both places more answers next each)
    (alone_then begin first v mid w places more answers next number stored entries lines does each here puts same
    settles a b)

-- no segment yet
pub alone_nothing : (begin : Begin) (first : View) → RunAlone begin first first [] []
alone_nothing begin first = record {
  moved = record {
    made = [];
    made_is = sym (append-nil first.turn.made);
    last = [];
    few = omega arith;
    each = λ same. refl;
    exact = exact_nothing begin first;
  };
  level = λ level. level;
  served = λ all level. (
    [],
    [],
    sym (append-nil (stood_in first)),
    λ failed tells. (
      subst (λ (moves : List Move). ServesAll begin failed (stood_in first) [] moves [])
          (sym (nothing_moves begin first)) refl,
      tells,
    ),
    (λ none. refl, inl refl),
  );
}

-- ---- the end of a run

empty : {X : Type 0} (xs : List X) → length xs ≡ 0 → xs ≡ []
empty {X} [] none = refl
empty {X} (x ∷ xs) none = absurd (omega arith)

drop_size : {X : Type 0} (n : ℕ) (xs : List X) → length (drop n xs) + n ≡ max (length xs) n
drop_size {X} zero xs = omega arith
drop_size {X} (suc n) [] = omega arith
drop_size {X} (suc n) (x ∷ xs) = let h = drop_size n xs in omega arith

pub exact_call : (call : CallSeen) (account : Account) (plan : PlanLines) (begin : Begin) (first now : View)
    (words : List ℕ) (releases : List Entry)
    → begin ≡ begin_of call plan begin.start → IsJustOpened begin first → IsWhole begin.rows now
    → ((row : ℕ) → row < MOST_KEYS → RowStands row (slice_index words row) now.numbers)
    → RunAlone begin first now account.handled account.answers → call.entries ≡ entries_in now ++ releases
    → now.turn.known.opening.faults ≡ call.site.faults → now.turn.known.faults ≡ account.faults_when_put
    → IsExact call account plan begin.start words (length (entries_in now))
exact_call call account plan begin first now words releases begins opened whole stand alone_run is faults_before
    faults_last = record {
      moves = alone_run.moved.exact.moves;
      beyond = alone_run.moved.last;
      few = alone_run.moved.few;
      each = λ all. alone_run.moved.each (deeds_length account.handled account.answers all);
      told = subst (λ (l : List Entry). TellAll begin.start l (deeds_in account) alone_run.moved.exact.moves) (sym is)
          (tell_more begin.start (entries_in now) releases (deeds_in account) alone_run.moved.exact.moves
          alone_run.moved.exact.told);
      runs = subst (λ (n : ℕ). Runs n (mark_at begin.start) (alone_run.moved.exact.moves ++ alone_run.moved.last)) rows
          (runs_same begin.rows (words_in first) (mark_at begin.start) opened.nexts
          (alone_run.moved.exact.moves ++ alone_run.moved.last)
          (alone begin first now alone_run.moved.made (deeds_in account) alone_run.moved.last alone_run.moved.exact
          whole
          opened.added));
      reserves = λ p entry low there none.
          let here : slice_get (entries_in now) p ≡ Some entry =
          sym (get_front (entries_in now) releases p low) ∙ (ap (λ (l : List Entry). slice_get l p) (sym is) ∙ there) in
          let (place, inside, at, same) = place_of_entry (log_of now) p entry here in
          alone_run.moved.exact.reserves place (all_made place inside) entry at none;
      last = λ row low.
          let r = rows in
          let g = (stand row low).grown in
          let o = opened.added row (omega arith) in
          let n = opened.nexts row (omega arith) in
          let a = alone_run.moved.exact.added row in omega arith;
      served =
          let (own, rest, own_is, served, behind) =
          alone_run.served (λ place low high. all_made place high) level_first in
          let left : List Entry = drop now.turn.known.standing (entries_in now) in
          let whole_is : entries_in now ≡ own ++ (rest ++ left) =
          sym (take-append-drop now.turn.known.standing (entries_in now)) ∙ ap (λ (l : List Entry). l ++ left) own_is
          ∙ ap (λ (l : List Entry). (l ++ (own ++ rest)) ++ left) none_stood ∙ append_assoc own rest left in
          let front : take (length (entries_in now)) call.entries ≡ own ++ (rest ++ left) =
          ap (take (length (entries_in now))) is ∙ take-append-le (length (entries_in now)) (entries_in now) releases
          (omega arith)
          ∙ take_all (length (entries_in now)) (entries_in now) (omega arith) ∙ whole_is in (
            own,
            rest ++ left,
            front,
            subst (λ (b : Begin). ServesAll b false [] (deeds_in account) alone_run.moved.exact.moves own) begins
                (subst (λ (l : List Entry). ServesAll begin false l (deeds_in account) alone_run.moved.exact.moves own)
                none_stood
                (served false (λ not. absurd (not (let size = ap length none_first in omega arith)))).0),
            few_left rest behind,
            λ all quiet.
                let clean : IsClean now =
                (λ risen. quiet (subst (λ (n : ℕ). Rose n account.faults_when_put) faults_before
                (subst (λ (n : ℕ). Rose now.turn.known.opening.faults n) faults_last risen))) in
                ap (λ (l : List Entry). l ++ left)
                (behind.0 (alone_run.moved.each (deeds_length account.handled account.answers all)))
                ∙ none_left (level_now.all clean),
          );
    } where
      rows : begin.rows ≡ MOST_KEYS
      rows = ap (λ (b : Begin). b.rows) begins

      -- nothing stood in the first view
      none_first : entries_in first ≡ []
      none_first = ap entries_of opened.no_log

      none_stood : stood_in first ≡ []
      none_stood = take_all first.turn.known.standing (entries_in first) (let size = ap length none_first in
          omega arith)
          ∙ none_first

      level_first : IsLevel first
      level_first =
          let size = ap length none_first in
          let counted = ap epoch_after none_stood in
          record { few = omega arith; all = λ clean. omega arith; epoch = omega arith }

      level_now : IsLevel now
      level_now = alone_run.level level_first

      -- what does not stand: nothing, where all entries do, and one at most
      size_left : length (drop now.turn.known.standing (entries_in now)) + now.turn.known.standing
          ≡ max (length (entries_in now)) now.turn.known.standing
      size_left = drop_size now.turn.known.standing (entries_in now)

      none_left : AllStand now → drop now.turn.known.standing (entries_in now) ≡ []
      none_left all = let size = size_left in empty (drop now.turn.known.standing (entries_in now)) (omega arith)

      few_left : (rest : List Entry) → IsLeftBehind now alone_run.moved.last rest
          → length (rest ++ drop now.turn.known.standing (entries_in now)) ≤ 1
      few_left rest (none, inl is) =
          let size = size_left in
          let few = level_now.few in
          let whole = length-append rest (drop now.turn.known.standing (entries_in now)) in
          let zero_rest : length rest ≡ 0 = ap length is in omega arith
      few_left rest (none, inr (few, all)) =
          let whole = length-append rest (drop now.turn.known.standing (entries_in now)) in
          let zero_left : length (drop now.turn.known.standing (entries_in now)) ≡ 0 = ap length (none_left all) in
          omega arith

      all_made : (place : ℕ) → place < length (log_of now) → 0 < stands place alone_run.moved.made
      all_made place inside =
          let made_is : now.turn.made ≡ alone_run.moved.made =
          alone_run.moved.made_is ∙ ap (λ (l : List ℕ). l ++ alone_run.moved.made) opened.none_made in
          let made : 0 < stands place now.turn.made = (let once = whole.made place in grind (arith, nat_tests)) in
          subst (λ (l : List ℕ). 0 < stands place l) made_is made
