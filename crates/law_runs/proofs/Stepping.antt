-- One segment more of a run: its records were handled, and its answers put.
use Rattle.std.proofs.Common.{◌≡◌, ◌⊎◌, ℕ, suc, zero, ◌+◌, ◌-◌, ◌<◌, ◌≤◌, eqb, eq-eqb, IsTrue, Bool, true, false, List}
use Rattle.std.proofs.Common.{[], ◌∷◌, ◌++◌, length, Option, refl, sym, ◌∙◌, ap, subst, inl, inr, arith, cond}
use Rattle.std.proofs.Common.{append-nil, length-append, Some}
use Rattle.std.specs.Prelude.{◌&&◌, nat_le, map}
use Rattle.std.specs.List.{All, AllPairs, Contains, slice_index_or, slice_get}
use Rattle.std.proofs.lemmas.Bool.Decides.{nat_tests}
use Rattle.std.proofs.lemmas.List.Elements.{Contains-append_left, Contains-append_right}
use Rattle.std.proofs.lemmas.List.{take_all}
use Rattle.std.proofs.lemmas.Option.{slice_get_within}
use Rattle.sdls_base.specs.declared.entry.Entry.{Entry}
use Rattle.sdls_base.specs.declared.entry.Logged.{Logged}
use Rattle.sdls_base.specs.declared.entry.Logged.TheVariants as lines
use Rattle.counter_table.specs.declared.view.View.{View}
use Rattle.counter_table.specs.Turn.{stands}
use Rattle.counter_table.specs.Whole.{IsWhole}
use Rattle.record_io.specs.declared.answers.Answer.{Answer}
use Rattle.record_io.specs.declared.reader.RecordKind.{RecordKind}
use Rattle.record_io.specs.declared.reader.RecordKind.TheVariants.{Protect, Open, Command, Monitor}
use Rattle.record_io.specs.declared.item_cursor.Record.{Record}
use Rattle.record_io.specs.Answers.{answers_octets}
use Rattle.record_io.specs.Places.{Place, records_of}
use Rattle.record_io.specs.declared.code.TheConstants.{ACCEPTED, NUMBER}
use Rattle.unit_state.specs.History.{after_first}
use Rattle.run_promise.specs.Answers.{Accepts, IsCodeOf}
use Rattle.law_workers.specs.Counts.{count_at, is_index, is_of_record}
use Rattle.run_promise.specs.History.{drawers, AcceptsAt, HasNoEntry, IsLegalHistory, TurnIn}
use Rattle.run_promise.specs.Log.{entries_of}
use Rattle.run_promise.specs.Numbers.{kept_floor}
use Rattle.law_history.proofs.Accepting.{taken_kept}
use Rattle.law_history.proofs.Along.{of_places, accepted_taken}
use Rattle.law_history.proofs.Codes.{accepting_opening, accepts_at, fits_code}
use Rattle.run_promise.specs.Call.{Begin}
use Rattle.law_workers.specs.Views.{log_of, entries_in, KnowsMore, IsBetween}
use Rattle.law_workers.specs.Work.{indexed}
use Rattle.run_promise.specs.Deed.{Deed, is_entered, tells_entry}
use Rattle.law_workers.specs.Deeds.{Does, AllBoth, course_in, deeds_of}
use Rattle.law_workers.specs.Order.{Layout, LiesIn, TakeTurns, Lined, Handled, ComeBefore, is_line, is_piece}
use Rattle.law_workers.proofs.Histories.{entries_both, place_of_entry}
use Rattle.law_workers.proofs.Joining.{does_then, grows_further}
use Rattle.law_workers.proofs.Logs.{entries_low, stands_both, stands_head, stands_tail, count_at_both, count_kept}
use Rattle.law_workers.proofs.Logs.{count_one, drawers_both}
use Rattle.law_workers.proofs.Ordering.{lined_on, lined_then}
use Rattle.law_runs.specs.Settled.{AreSettled}
use Rattle.run_promise.specs.Sound.{deeds_octets}
use Rattle.law_workers.proofs.Counting.{none_failed, nothing_put}
use Rattle.law_runs.proofs.Settling.{settle, settled_later, settled_both}
use Rattle.run_promise.specs.Account.{deeds_from}
use Rattle.law_runs.specs.Doing.{HasDone, HasSettled, IsBefore, IsFounded, IsSegment, LieIn, PutsPieces, SettlesWork}
use Rattle.law_runs.specs.Doing.{octets_put}
use Rattle.law_runs.proofs.Placed.{deeds_all, deeds_both, deeds_of_segment, lane_at, lane_there, records_both}
use Rattle.law_runs.proofs.Placed.{records_length}
use Rattle.law_runs.proofs.Doing.{legal_so_far, lined_by, made_here}

-- ---- lines of a log

count_none : (test : Option Logged → Bool) (log : List Logged) (places : List ℕ)
    → ((x : ℕ) → 0 < stands x places → test (slice_get log x) ≡ false)
    → count_at test log places ≡ 0
count_none test log [] none = refl
count_none test log (place ∷ places) none =
    go (test (slice_get log place)) (none place (stands_head place places))
    (count_none test log places (λ x there. none x (stands_tail place x places there)))
  where
    go : (b : Bool) → b ≡ false → count_at test log places ≡ 0 → cond b 1 0 + count_at test log places ≡ 0
    go false is h = omega arith
    go true is h = absurd (let t : true ≡ false = is in cc)

all_pieces : (rest : List Logged) → entries_of rest ≡ [] → (k : ℕ) → is_line (slice_get rest k) ≡ false
all_pieces [] none k = refl
all_pieces (lines.Entry entry ∷ rest) none k = absurd (let s = ap length none in omega arith)
all_pieces (lines.Piece piece ∷ rest) none zero = refl
all_pieces (lines.Piece piece ∷ rest) none (suc k) = all_pieces rest none k

behind : (xs ys : List Logged) (k : ℕ) → slice_get (xs ++ ys) (length xs + k) ≡ slice_get ys k
behind [] ys k = let e : 0 + k ≡ k = omega arith in ap (slice_get ys) e
behind (x ∷ xs) ys k = let e : suc (length xs) + k ≡ suc (length xs + k) = omega arith in
    ap (slice_get (x ∷ xs ++ ys)) e ∙ behind xs ys k

empty_list : (es : List Entry) → length es ≡ 0 → es ≡ []
empty_list [] h = refl
empty_list (e ∷ es) h = absurd (omega arith)

-- the lines that were put are no entries
no_lines : (begin : Begin) (v w : View) (puts : PutsPieces begin v w)
    → count_at is_line (log_of w) puts.does.gains.made ≡ 0
no_lines begin v w puts =
    let rest : List Logged = puts.does.grows.earlier.log.0 in
    let is : log_of w ≡ log_of v ++ rest = puts.does.grows.earlier.log.1 in
    let split : entries_in w ≡ entries_in v ++ entries_of rest = ap entries_of is ∙ entries_both (log_of v) rest in
    let none : entries_of rest ≡ [] = empty_list (entries_of rest)
    (let a = ap length split in let b = length-append (entries_in v) (entries_of rest) in
    let c = ap length puts.entries in omega arith) in
    count_none is_line (log_of w) puts.does.gains.made (λ x made.
    let (low, high) = puts.does.works.made x made in
    let at : x ≡ length (log_of v) + (x - length (log_of v)) = omega arith in
    ap (λ (l : List Logged). is_line (slice_get l x)) is ∙ ap (λ (k : ℕ). is_line (slice_get (log_of v ++ rest) k)) at
    ∙ ap is_line (behind (log_of v) rest (x - length (log_of v))) ∙ all_pieces rest none (x - length (log_of v)))

-- ---- numbers of records

pub indexed_low : (n i : ℕ) (places : List Place) → All (λ (place : Place). n ≤ place.task.index) places
    → 0 < indexed i (records_of places) → n ≤ i
indexed_low n i [] all some = absurd (omega arith)
indexed_low n i (place ∷ places) all some =
    go (eqb place.task.index i) refl some (indexed_low n i places (λ k d low. all (suc k) d (omega arith)))
  where
    go : (b : Bool) → eqb place.task.index i ≡ b → 0 < cond b 1 0 + indexed i (records_of places)
        → (0 < indexed i (records_of places) → n ≤ i) → n ≤ i
    go true is h rest = let same : place.task.index ≡ i = grind (arith, nat_tests) in
        let a : n ≤ place.task.index = all zero place (omega arith) in omega arith
    go false is h rest = rest (omega arith)

pub indexed_high : (n i : ℕ) (places : List Place) → All (λ (place : Place). place.task.index < n) places
    → 0 < indexed i (records_of places) → i < n
indexed_high n i [] all some = absurd (omega arith)
indexed_high n i (place ∷ places) all some =
    go (eqb place.task.index i) refl some (indexed_high n i places (λ k d low. all (suc k) d (omega arith)))
  where
    go : (b : Bool) → eqb place.task.index i ≡ b → 0 < cond b 1 0 + indexed i (records_of places)
        → (0 < indexed i (records_of places) → i < n) → i < n
    go true is h rest = let same : place.task.index ≡ i = grind (arith, nat_tests) in
        let a : place.task.index < n = all zero place (omega arith) in omega arith
    go false is h rest = rest (omega arith)

none_indexed : (i : ℕ) → 0 < indexed i [] → ⊥
none_indexed i h = omega arith

-- the octets of the answers
answers_of : (places : List Place) (answers : List Answer) → length answers ≤ length places
    → map (λ (d : Deed). d.answer) (deeds_from places answers) ≡ answers
answers_of [] [] few = refl
answers_of [] (answer ∷ answers) few = absurd (omega arith)
answers_of (place ∷ places) [] few = refl
answers_of (place ∷ places) (answer ∷ answers) few =
    ap (λ (l : List Answer). answer ∷ l) (answers_of places answers (omega arith))

pub octets_of : (places : List Place) (answers : List Answer) → length answers ≤ length places
    → deeds_octets (deeds_from places answers) ≡ answers_octets answers
octets_of places answers few = ap answers_octets (answers_of places answers few)

-- an entry is made of each record that is answered as accepted
entered_code : (kind : RecordKind) → IsCodeOf kind ACCEPTED → IsTrue (is_entered kind)
entered_code Protect h = absurd (let t : false ≡ true = h in cc)
entered_code Open h = refl
entered_code Command h = refl
entered_code Monitor h = absurd (let t : false ≡ true = h in cc)

tells_accepted : (deed : Deed) → IsTrue (is_entered deed.task.kind) → deed.answer.code ≡ ACCEPTED
    → IsTrue (tells_entry deed)
tells_accepted deed opened accepted =
    ap (λ (b : Bool). b && (nat_le ACCEPTED deed.answer.code && nat_le deed.answer.code NUMBER)) opened
    ∙ ap (λ (c : ℕ). nat_le ACCEPTED c && nat_le c NUMBER) accepted

-- ---- the step

either : (a b : ℕ) → 0 < a + b → (0 < a) ⊎ (0 < b)
either zero b h = inr (omega arith)
either (suc a) b h = inl (omega arith)

module _ (begin : Begin) (first v mid w : View) (places more : List Place) (answers next : List Answer) (number : ℕ)
    (done : HasDone begin first v places answers) (each : length answers ≡ length places) (whole : IsWhole begin.rows v)
    (segment : IsSegment number places more)
    (handled : (layout : Layout) → LiesIn layout number (records_of more)
    → Handled layout begin v mid (records_of more) (deeds_of number (records_of more) next))
    (puts : PutsPieces begin mid w) where
  turns : AllBoth (λ (d e : Deed). d.task.index < e.task.index) (deeds_from places answers) (deeds_from more next)
  turns i d l j e m =
      let a = deeds_all (λ (t : Record). t.index < segment.next) places answers segment.low i d l in
      let b = deeds_all (λ (t : Record). segment.next ≤ t.index) more next segment.high j e m in
      omega arith

  before : ComeBefore (records_of places) (records_of more)
  before i j some others =
      let a = indexed_high segment.next i places segment.low some in
      let b = indexed_low segment.next j more segment.high others in
      omega arith

  -- what one layout tells of the segment
  module _ (layout : Layout) (lies : LiesIn layout number (records_of more)) where
    handles : Handled layout begin v mid (records_of more) (deeds_of number (records_of more) next)
    handles = handled layout lies

    here : Does begin v mid (records_of more) (deeds_from more next)
    here = subst (Does begin v mid (records_of more)) (sym (deeds_of_segment number more next segment.of)) handles.does

    both : Does begin first mid (records_of places ++ records_of more)
        (deeds_from places answers ++ deeds_from more next)
    both = does_then begin first v mid (records_of places) (records_of more) (deeds_from places answers)
        (deeds_from more next) done.does here turns

    all : Does begin first w (records_of (places ++ more)) (deeds_from (places ++ more) (answers ++ next))
    all =
        let behind : Does begin first w ((records_of places ++ records_of more) ++ [])
        ((deeds_from places answers ++ deeds_from more next) ++ []) =
        does_then begin first mid w (records_of places ++ records_of more) []
        (deeds_from places answers ++ deeds_from more next) [] both puts.does
        (λ i d l j e m. absurd (omega arith)) in
        subst (λ (l : List Record). Does begin first w l (deeds_from (places ++ more) (answers ++ next)))
        (append-nil (records_of places ++ records_of more) ∙ sym (records_both places more))
        (subst (Does begin first w ((records_of places ++ records_of more) ++ []))
        (append-nil (deeds_from places answers ++ deeds_from more next)
        ∙ sym (deeds_both places more answers next each)) behind)

    below_v : (x : ℕ) → 0 < stands x v.turn.made → x < length (log_of v)
    below_v x some = let a = whole.made x in grind (arith, nat_tests)

    rest : List Logged
    rest = handles.does.grows.earlier.log.0

    log_mid : log_of mid ≡ log_of v ++ handles.does.grows.earlier.log.0
    log_mid = handles.does.grows.earlier.log.1

    below_mid : (x : ℕ) → 0 < stands x mid.turn.made → x < length (log_of mid)
    below_mid x some =
        let s : stands x mid.turn.made ≡ stands x v.turn.made + stands x handles.does.gains.made =
        ap (stands x) handles.does.gained.made ∙ stands_both x v.turn.made handles.does.gains.made in
        let size : length (log_of mid) ≡ length (log_of v) + length handles.does.grows.earlier.log.0 =
        ap length log_mid ∙ length-append (log_of v) handles.does.grows.earlier.log.0 in
        elim (either (stands x v.turn.made) (stands x handles.does.gains.made) (omega arith)) [
          | inl old ↦ let a = below_v x old in omega arith
          | inr new ↦ (handles.does.works.made x new).1
        ]

    old_entries : (i : ℕ) → count_at (is_of_record i) (log_of mid) v.turn.made ≤ indexed i (records_of places)
    old_entries i =
        let a = done.does.works.one_entry i in
        let m : v.turn.made ≡ done.does.gains.made =
        made_here begin first v (records_of places) (deeds_from places answers) done.none_made done.does in
        let b : count_at (is_of_record i) (log_of v) v.turn.made ≡ count_at (is_of_record i) (log_of v)
        done.does.gains.made = ap (count_at (is_of_record i) (log_of v)) m in
        let c : count_at (is_of_record i) (log_of mid) v.turn.made ≡ count_at (is_of_record i) (log_of v) v.turn.made =
        ap (λ (l : List Logged). count_at (is_of_record i) l v.turn.made) log_mid
        ∙ count_kept (is_of_record i) (log_of v) handles.does.grows.earlier.log.0 v.turn.made below_v in
        omega arith

    lined_mid : (pieces : ℕ) → Lined (TakeTurns layout) (log_of v) v.turn.made
        (length (records_of places) + drawers (records_of places)) pieces
        → Lined (TakeTurns layout) (log_of mid) (v.turn.made ++ handles.does.gains.made)
        ((length (records_of places) + drawers (records_of places))
        + (length (records_of more) + drawers (records_of more))) (pieces + 0)
    lined_mid pieces lined =
        lined_then (TakeTurns layout) (log_of mid) (records_of places) (records_of more) v.turn.made
        handles.does.gains.made
        (length (records_of places) + drawers (records_of places)) pieces
        (length (records_of more) + drawers (records_of more)) 0
        old_entries handles.does.works.one_entry (length (log_of v)) below_v
        (λ x some. (handles.does.works.made x some).0) before
        (subst (λ (l : List Logged). Lined (TakeTurns layout) l v.turn.made
        (length (records_of places) + drawers (records_of places)) pieces) (sym log_mid)
        (lined_on (TakeTurns layout) (log_of v) handles.does.grows.earlier.log.0 v.turn.made
        (length (records_of places) + drawers (records_of places)) pieces below_v lined))
        handles.lined

    made_mid : mid.turn.made ≡ v.turn.made ++ handles.does.gains.made
    made_mid = handles.does.gained.made

    log_w : log_of w ≡ log_of mid ++ puts.does.grows.earlier.log.0
    log_w = puts.does.grows.earlier.log.1

    gains : List ℕ
    gains = puts.does.gains.made

    -- the lines put are of no record
    unrecorded : (x i : ℕ) → 0 < stands x puts.does.gains.made → is_of_record i (slice_get (log_of w) x) ≡ true → ⊥
    unrecorded x i some is =
        let a = count_one (is_of_record i) (log_of w) x puts.does.gains.made some is in
        let b : count_at (is_of_record i) (log_of w) puts.does.gains.made ≤ 0 = puts.does.works.one_entry i in
        omega arith

    lined_puts : Lined (TakeTurns layout) (log_of w) puts.does.gains.made 0
        (count_at is_piece (log_of w) puts.does.gains.made)
    lined_puts = record {
      in_order = λ x y i j in_x in_y is_i is_j lt turn. absurd (unrecorded x i in_x is_i);
      few_entries = let a = no_lines begin mid w puts in omega arith;
      few_pieces = omega arith;
    }

    mid_entries : (i : ℕ) → count_at (is_of_record i) (log_of w) mid.turn.made ≤ indexed i (records_of (places ++ more))
    mid_entries i =
        let m : mid.turn.made ≡ both.gains.made =
        made_here begin first mid (records_of places ++ records_of more)
        (deeds_from places answers ++ deeds_from more next) done.none_made both in
        let a = both.works.one_entry i in
        let b : count_at (is_of_record i) (log_of mid) mid.turn.made
        ≡ count_at (is_of_record i) (log_of mid) both.gains.made = ap (count_at (is_of_record i) (log_of mid)) m in
        let c : count_at (is_of_record i) (log_of w) mid.turn.made
        ≡ count_at (is_of_record i) (log_of mid) mid.turn.made =
        ap (λ (l : List Logged). count_at (is_of_record i) l mid.turn.made) log_w
        ∙ count_kept (is_of_record i) (log_of mid) puts.does.grows.earlier.log.0 mid.turn.made below_mid in
        let d : indexed i (records_of places ++ records_of more) ≡ indexed i (records_of (places ++ more)) =
        ap (indexed i) (sym (records_both places more)) in
        omega arith

    sizes : (length (records_of places) + drawers (records_of places))
        + (length (records_of more) + drawers (records_of more)) + 0
        ≡ length (records_of (places ++ more)) + drawers (records_of (places ++ more))
    sizes =
        let a = ap length (records_both places more) in
        let b = length-append (records_of places) (records_of more) in
        let c = ap drawers (records_both places more) in
        let d = drawers_both (records_of places) (records_of more) in
        omega arith

    lined_w : (pieces : ℕ) → Lined (TakeTurns layout) (log_of v) v.turn.made
        (length (records_of places) + drawers (records_of places)) pieces
        → (count : ℕ) × Lined (TakeTurns layout) (log_of w) w.turn.made
        (length (records_of (places ++ more)) + drawers (records_of (places ++ more))) count
    lined_w pieces lined =
        let n : ℕ = (length (records_of places) + drawers (records_of places))
        + (length (records_of more) + drawers (records_of more)) in
        let k : ℕ = count_at is_piece (log_of w) puts.does.gains.made in
        let now : Lined (TakeTurns layout) (log_of mid) mid.turn.made
        ((length (records_of places) + drawers (records_of places))
        + (length (records_of more) + drawers (records_of more))) (pieces + 0) =
        lined_by (TakeTurns layout) (TakeTurns layout) (log_of mid) (v.turn.made ++ handles.does.gains.made)
        mid.turn.made _ _ (pieces + 0) (λ i j t. t) (sym made_mid) refl (lined_mid pieces lined) in
        let later : Lined (TakeTurns layout) (log_of w) mid.turn.made
        ((length (records_of places) + drawers (records_of places))
        + (length (records_of more) + drawers (records_of more))) (pieces + 0) =
        subst (λ (l : List Logged). Lined (TakeTurns layout) l mid.turn.made
        ((length (records_of places) + drawers (records_of places))
        + (length (records_of more) + drawers (records_of more))) (pieces + 0)) (sym log_w)
        (lined_on (TakeTurns layout) (log_of mid) puts.does.grows.earlier.log.0 mid.turn.made _ (pieces + 0) below_mid
        now) in
        let whole : Lined (TakeTurns layout) (log_of w) (mid.turn.made ++ puts.does.gains.made)
        ((length (records_of places) + drawers (records_of places))
        + (length (records_of more) + drawers (records_of more)) + 0)
        ((pieces + 0) + count_at is_piece (log_of w) puts.does.gains.made) =
        lined_then (TakeTurns layout) (log_of w) (records_of (places ++ more)) [] mid.turn.made puts.does.gains.made
        _ (pieces + 0) 0
        (count_at is_piece (log_of w) puts.does.gains.made) mid_entries puts.does.works.one_entry (length (log_of mid))
        below_mid
        (λ x some. (puts.does.works.made x some).0) (λ i j some none. absurd (none_indexed j none)) later lined_puts in (
          (pieces + 0) + count_at is_piece (log_of w) puts.does.gains.made,
          lined_by (TakeTurns layout) (TakeTurns layout) (log_of w) (mid.turn.made ++ puts.does.gains.made) w.turn.made
              _ _ _ (λ i j t. t) (sym puts.does.gained.made) sizes whole,
        )

  -- a layout of the records of one segment, and of those before them
  lies_left : (layout : Layout) → LieIn layout (places ++ more) → LieIn layout places
  lies_left layout lies place there = lies place (Contains-append_left places more place there)

  lies_right : (layout : Layout) → LieIn layout (places ++ more) → LiesIn layout number (records_of more)
  lies_right layout lies task (k, low, is) =
      go more k low is (λ (place : Place) there. lies place (Contains-append_right places more place there)) segment.of
    where
      go : (rest : List Place) (k : ℕ) → k < length (records_of rest) → slice_index_or (records_of rest) k task ≡ task
          → ((place : Place) → Contains rest place → (layout.lane_of place.task.index ≡ place.task.lane)
          × (layout.segment_of place.task.index ≡ place.segment))
          → All (λ (place : Place). place.segment ≡ number) rest
          → (layout.lane_of task.index ≡ task.lane) × (layout.segment_of task.index ≡ number)
      go [] k low is lie of = absurd (omega arith)
      go (place ∷ rest) zero low is lie of =
          let h = lie place (zero, omega arith, refl) in (
            subst (λ (t : Record). layout.lane_of t.index ≡ t.lane) is h.0,
            ap (λ (t : Record). layout.segment_of t.index) (sym is) ∙ h.1 ∙ of zero place (omega arith),
          )
      go (place ∷ rest) (suc k) low is lie of =
          go rest k (omega arith) is (λ other (j, inside, same). lie other (suc j, omega arith, same))
          (λ j d inside. of (suc j) d (omega arith))

  -- the records of the segment lie so
  own_layout : Layout
  own_layout = record { lane_of = lane_at more; segment_of = λ index. number }

  own_lies : LiesIn (record { lane_of = lane_at more; segment_of = λ index. number }) number (records_of more)
  own_lies task (k, low, is) = (go more segment.up k low is, refl)
    where
      at : (rest : List Place) (k : ℕ) → slice_index_or (records_of rest) k task ≡ task → k < length (records_of rest)
          → (d : Place) → (slice_index_or rest k d).task ≡ task
      at [] k is low d = absurd (omega arith)
      at (place ∷ rest) zero is low d = is
      at (place ∷ rest) (suc k) is low d = at rest k is (omega arith) d

      count : (rest : List Place) → length (records_of rest) ≡ length rest
      count rest = records_length rest

      go : (rest : List Place) → AllPairs IsBefore rest → (k : ℕ) → k < length (records_of rest)
          → slice_index_or (records_of rest) k task ≡ task
          → lane_at rest task.index ≡ task.lane
      go [] up k low is = absurd (omega arith)
      go (place ∷ rest) up k low is =
          let size = count (place ∷ rest) in
          let here = at (place ∷ rest) k is low place in
          subst (λ (t : Record). lane_at (place ∷ rest) t.index ≡ t.lane) here
          (lane_there (place ∷ rest) up k place (omega arith))

  pub goes_on : HasDone begin first w (places ++ more) (answers ++ next)
  goes_on = record {
    none_made = done.none_made;
    does = all (record { lane_of = lane_at more; segment_of = λ index. number }) own_lies;
    lined = λ layout lies. lined_w layout (lies_right layout lies) (done.lined layout (lies_left layout lies)).0
        (done.lined layout (lies_left layout lies)).1;
  }

  -- the segment put nothing
  pub quiet : IsWhole begin.rows mid → octets_put mid ≡ octets_put v
  quiet whole_mid =
      let h : Handled (record { lane_of = lane_at more; segment_of = λ index. number }) begin v mid (records_of more)
      (deeds_of number (records_of more) next) =
      handled (record { lane_of = lane_at more; segment_of = λ index. number }) own_lies in
      nothing_put begin v mid (records_of more) (deeds_of number (records_of more) next) h.does whole_mid whole
      (let a = h.lined.few_pieces in omega arith)

  -- and no put failed
  pub unfailed : IsWhole begin.rows mid → mid.turn.known.put_faults ≡ v.turn.known.put_faults
  unfailed whole_mid =
      let h : Handled (record { lane_of = lane_at more; segment_of = λ index. number }) begin v mid (records_of more)
      (deeds_of number (records_of more) next) =
      handled (record { lane_of = lane_at more; segment_of = λ index. number }) own_lies in
      none_failed begin v mid (records_of more) (deeds_of number (records_of more) next) h.does whole_mid whole
      (let a = h.lined.few_pieces in omega arith)

  pub own_does : Does begin v mid (records_of more) (deeds_from more next)
  own_does = here (record { lane_of = lane_at more; segment_of = λ index. number }) own_lies

  -- a record of which the segment made no entry has none, since those before it have other numbers
  pub none_at_all : IsWhole begin.rows mid → (index : ℕ) → segment.next ≤ index
      → ((made : List ℕ) → mid.turn.made ≡ v.turn.made ++ made → count_at (is_of_record index) (log_of mid) made ≡ 0)
      → HasNoEntry (entries_in mid) index
  none_at_all whole_mid index high unmade p entry there is =
      let d : Does begin v mid (records_of more) (deeds_from more next) = own_does in
      let (x, low, at, same) = place_of_entry (log_of mid) p entry there in
      let all = whole_mid.made x in
      let stands_there : 0 < stands x mid.turn.made = grind (arith, nat_tests) in
      let one = count_one (is_of_record index) (log_of mid) x mid.turn.made stands_there
      (ap (is_of_record index) at ∙ (ap (is_index index) is ∙ eq-eqb index index refl)) in
      let split : count_at (is_of_record index) (log_of mid) mid.turn.made
      ≡ count_at (is_of_record index) (log_of mid) (v.turn.made ++ d.gains.made) =
      ap (count_at (is_of_record index) (log_of mid)) d.gained.made in
      let both = count_at_both (is_of_record index) (log_of mid) v.turn.made d.gains.made in
      let new = unmade d.gains.made d.gained.made in
      let old = old_entries (record { lane_of = lane_at more; segment_of = λ index. number }) own_lies index in
      let none : (0 < indexed index (records_of places)) → ⊥ =
      λ some. (let less = indexed_high segment.next index places segment.low some in omega arith) in
      none (omega arith)

  -- no entry that was known before is of a record of the segment
  pub none_known : (x : ℕ) (entry : Entry) (index : ℕ) → slice_get (log_of v) x ≡ Some (lines.Entry entry)
      → entry.index ≡ Some index → segment.next ≤ index → ⊥
  none_known x entry index at is high =
      let low = slice_get_within (log_of v) x (lines.Entry entry) at in
      let all = whole.made x in
      let stands_there : 0 < stands x v.turn.made = grind (arith, nat_tests) in
      let one = count_one (is_of_record index) (log_of v) x v.turn.made stands_there
      (ap (is_of_record index) at ∙ (ap (is_index index) is ∙ eq-eqb index index refl)) in
      let a = done.does.works.one_entry index in
      let m : v.turn.made ≡ done.does.gains.made =
      made_here begin first v (records_of places) (deeds_from places answers) done.none_made done.does in
      let b : count_at (is_of_record index) (log_of v) v.turn.made
      ≡ count_at (is_of_record index) (log_of v) done.does.gains.made =
      ap (count_at (is_of_record index) (log_of v)) m in
      let none : (0 < indexed index (records_of places)) → ⊥ =
      λ some. (let less = indexed_high segment.next index places segment.low some in omega arith) in
      none (omega arith)

  -- and its answers are settled at the first put behind it
  module _ (founded : IsFounded begin first) (whole_mid : IsWhole begin.rows mid) (whole_w : IsWhole begin.rows w)
      (up : AllPairs IsBefore (places ++ more))
      (known stored : ℕ) (settled : HasSettled begin v known places answers) (fewer : known ≤ stored)
      (put : octets_put v ≡ answers_octets answers) (inside : ℕ) (settles : SettlesWork begin mid w inside stored)
      (entered : All (λ (d : Deed). IsTrue (tells_entry d) → d.answer.position ≤ inside) (deeds_from more next)) where
    history : IsLegalHistory begin.plan begin.start (places ++ more) (entries_in w ++ [])
    history = legal_so_far begin first w (places ++ more) (answers ++ next) founded goes_on whole_w up

    grows : KnowsMore v w
    grows = grows_further v mid w own_does.grows puts.does.grows

    entries_within : settles.entries ≤ length (entries_in w)
    entries_within =
        let inside_log = settles.at.within in
        let a = entries_low (log_of w) settles.lines (length (log_of w)) inside_log in
        let b = ap (λ (l : List Logged). length (entries_of l))
        (take_all (length (log_of w)) (log_of w) (omega arith)) in
        let c = settles.at.low in omega arith

    floored_one : (k : ℕ) (d : Deed) → k < length (deeds_from more next) → (key number : ℕ)
        → Accepts (slice_index_or (deeds_from more next) k d).answer key number
        → number ≤ kept_floor (after_first begin.start (entries_in w) settles.entries) key
    floored_one k d low key number accepts =
        let x : Deed = slice_index_or (deeds_from more next) k d in
        let fits = own_does.answers.fit k d low in
        let opening = accepting_opening (IsBetween begin v mid) (course_in begin mid)
        (slice_index_or (deeds_from more next) k d).task (slice_index_or (deeds_from more next) k d).answer key
        number fits accepts in
        let at = accepts_at (course_in begin mid) (slice_index_or (deeds_from more next) k d).task
        (slice_index_or (deeds_from more next) k d).answer key number opening accepts in
        let code : IsCodeOf (slice_index_or (deeds_from more next) k d).task.kind 1 =
        subst (IsCodeOf (slice_index_or (deeds_from more next) k d).task.kind) accepts.0
        (fits_code (IsBetween begin v mid) (course_in begin mid) (slice_index_or (deeds_from more next) k d).task
        (slice_index_or (deeds_from more next) k d).answer fits) in
        let position = entered k d low (tells_accepted (slice_index_or (deeds_from more next) k d)
        (entered_code (slice_index_or (deeds_from more next) k d).task.kind code) accepts.0) in
        let least = opening.stands.least in
        let same : entries_in w ++ [] ≡ entries_in mid = append-nil (entries_in w) ∙ puts.entries in
        let there : AcceptsAt (entries_in w ++ []) ((slice_index_or (deeds_from more next) k d).answer.position - 1) key
        number =
        subst (λ (es : List Entry). AcceptsAt es ((slice_index_or (deeds_from more next) k d).answer.position - 1) key
        number) (sym same) at in
        let taken = accepted_taken begin.plan begin.start (records_of (places ++ more)) (TurnIn (places ++ more))
        (entries_in w ++ [])
        (of_places begin.plan begin.start (places ++ more) (entries_in w ++ []) history)
        ((slice_index_or (deeds_from more next) k d).answer.position - 1) settles.entries key number there
        (let a = settles.standing in omega arith) (let a = entries_within in
        let b = ap length (append-nil (entries_in w)) in omega arith) in
        subst (λ (es : List Entry). number ≤ kept_floor (after_first begin.start es settles.entries) key)
        (append-nil (entries_in w))
        (taken_kept (after_first begin.start (entries_in w ++ []) settles.entries) key number taken)

    pub settled_on : HasSettled begin w stored (places ++ more) (answers ++ next)
    settled_on =
        let ds : List Deed = deeds_from places answers in
        let size : deeds_octets (deeds_from places answers) ≡ answers_octets answers =
        octets_of places answers (omega arith) in
        let a = settled_later begin v w grows known stored fewer 0 (deeds_from places answers) settled in
        let b = settle begin v mid w (records_of more) (deeds_from more next) own_does puts.does.grows stored
        settles.entries settles.lines settles.at
        (λ k d low tells. let x = entered k d low tells in let y = settles.standing in omega arith) floored_one
        (length (deeds_octets (deeds_from places answers)))
        (let x = settles.before in let y = ap length (quiet whole_mid) in let z = ap length put in
        let t = ap length size in omega arith) in
        subst (λ (l : List Deed). AreSettled (course_in begin w) stored (log_of w) 0 l)
        (sym (deeds_both places more answers next each))
        (settled_both (course_in begin w) stored (log_of w) 0 (length (deeds_octets (deeds_from places answers)))
        (deeds_from places answers) (deeds_from more next)
        (omega arith) a b)
