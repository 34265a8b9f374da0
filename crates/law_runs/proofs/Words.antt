-- The words of the releases: what the records of a run moved them by, segment by segment, on however many lanes.
use Rattle.std.proofs.Common.{◌≡◌, ℕ, ◌<◌, ◌≤◌, List, [], ◌∷◌, ◌++◌, length, take, sym, ap, subst, arith, ◌∙◌, Some}
use Rattle.std.specs.List.{All, slice_index, slice_index_or, slice_get}
use Rattle.sdls_base.specs.declared.TheConstants.{MOST_KEYS}
use Rattle.sdls_base.specs.declared.entry.Entry.{Entry}
use Rattle.sdls_base.specs.declared.entry.Logged.TheVariants as lines
use Rattle.counter_table.specs.declared.view.Numbers.{Numbers}
use Rattle.counter_table.specs.declared.view.View.{View}
use Rattle.counter_table.specs.Numbers.{amount}
use Rattle.counter_table.specs.Whole.{RowStands, IsWhole}
use Rattle.record_io.specs.declared.answers.Answer.{Answer}
use Rattle.record_io.specs.declared.item_cursor.Record.{Record}
use Rattle.record_io.specs.Places.{Place, records_of}
use Rattle.run_promise.specs.Call.{Begin, CallSeen}
use Rattle.run_promise.specs.Words.{LiesBetween, Move, Drew, Tells, CountsEntry, MovedWords}
use Rattle.run_promise.specs.Numbers.{mark_at}
use Rattle.run_promise.specs.Account.{Account, deeds_from, deeds_in}
use Rattle.run_promise.specs.Log.{entries_of}
use Rattle.law_workers.specs.Views.{entries_in, log_of}
use Rattle.law_workers.specs.Work.{indexed}
use Rattle.law_workers.specs.Deeds.{deeds_of, Does}
use Rattle.law_workers.specs.Opened.{IsJustOpened}
use Rattle.law_workers.specs.Words.{MovesCounted}
use Rattle.law_workers.specs.Exact.{words_in}
use Rattle.law_workers.proofs.Machines.{lies_wider, tell_more}
use Rattle.law_workers.proofs.Words.{all_moved, move_found, move_in, moves_summed}
use Rattle.law_workers.proofs.Counted.{counted_on, counted_then}
use Rattle.law_runs.specs.Doing.{IsSegment}
use Rattle.law_runs.proofs.Placed.{deeds_all, deeds_both, deeds_of_segment, records_both}
use Rattle.law_runs.proofs.Stepping.{indexed_high, indexed_low}
use Rattle.std.proofs.lemmas.Bool.Decides.{nat_tests}
use Rattle.std.proofs.lemmas.List.{length-take-le}
use Rattle.counter_table.specs.Turn.{stands}
use Rattle.law_workers.proofs.Histories.{get_front, place_of_entry}

-- One segment more, handled from one view to the next, and its answers put, which added nothing.
pub words_segment : (begin : Begin) (first v mid w : View) (places more : List Place) (answers next : List Answer)
    (number : ℕ) (records : List Record)
    → records ≡ records_of more → IsSegment number places more → length answers ≡ length places
    → Does begin first v (records_of places) (deeds_from places answers)
    → MovesCounted begin first v (records_of places) (deeds_from places answers)
    → Does begin v mid (records_of more) (deeds_from more next)
    → MovesCounted begin v mid records (deeds_of number records next)
    → Does begin mid w [] [] → w.numbers ≡ mid.numbers
    → MovesCounted begin first w (records_of (places ++ more)) (deeds_from (places ++ more) (answers ++ next))
words_segment begin first v mid w places more answers next number records are segment each did before does counted put
    same =
    let here : MovesCounted begin v mid (records_of more) (deeds_of number (records_of more) next) =
    subst (λ (rs : List Record). MovesCounted begin v mid rs (deeds_of number rs next)) are counted in
    let own : MovesCounted begin v mid (records_of more) (deeds_from more next) =
    subst (MovesCounted begin v mid (records_of more)) (sym (deeds_of_segment number more next segment.of)) here in
    let both : MovesCounted begin first mid (records_of places ++ records_of more)
    (deeds_from places answers ++ deeds_from more next) =
    counted_then begin first v mid (records_of places) (records_of more) (deeds_from places answers)
    (deeds_from more next) did does before own segment.next
    (λ index some. indexed_high segment.next index places segment.low some)
    (λ index some. indexed_low segment.next index more segment.high some)
    (deeds_all (λ (task : Record). task.index < segment.next) places answers segment.low)
    (deeds_all (λ (task : Record). segment.next ≤ task.index) more next segment.high) in
    let on : MovesCounted begin first w (records_of places ++ records_of more)
    (deeds_from places answers ++ deeds_from more next) =
    counted_on begin first mid w (records_of places ++ records_of more)
    (deeds_from places answers ++ deeds_from more next) both put
    (λ row. ap (λ (n : Numbers). amount row n.added) same) in
    subst (λ (rs : List Record). MovesCounted begin first w rs (deeds_from (places ++ more) (answers ++ next)))
    (sym (records_both places more))
    (subst (MovesCounted begin first w (records_of places ++ records_of more))
    (sym (deeds_both places more answers next each)) on)

-- The words at the end, where no two records have one number, and releases stand behind.
pub moved_call : (call : CallSeen) (account : Account) (begin : Begin) (first now : View) (words : List ℕ)
    (releases : List Entry)
    → begin.rows ≡ MOST_KEYS → first.turn.made ≡ [] → IsWhole MOST_KEYS now → IsJustOpened begin first
    → ((row : ℕ) → row < MOST_KEYS → RowStands row (slice_index words row) now.numbers)
    → ((index : ℕ) → indexed index (records_of account.handled) ≤ 1)
    → MovesCounted begin first now (records_of account.handled) (deeds_in account)
    → call.entries ≡ entries_in now ++ releases → MovedWords call account begin.start (length (entries_in now)) words
moved_call call account begin first now words releases rows none whole opened stand once m is = record {
  move_of = move_in m.moved.moves;
  told = λ k d low.
      let (move, there, tells) = m.moved.told k d low in
      let one = m.moved.few (slice_index_or (deeds_in account) k d).task.index in
      let most = once (slice_index_or (deeds_in account) k d).task.index in
      let found : move_in m.moved.moves (slice_index_or (deeds_in account) k d).task.index ≡ move =
      move_found m.moved.moves (slice_index_or (deeds_in account) k d).task.index move (omega arith) there in
      let later : Tells begin.start (entries_in now ++ releases) (slice_index_or (deeds_in account) k d) move =
      (tell_more begin.start (entries_in now) releases (slice_index_or (deeds_in account) k d ∷ []) (move ∷ [])
      (tells, tt)).0 in
      subst (λ (mv : Move). Tells begin.start call.entries (slice_index_or (deeds_in account) k d) mv) (sym found)
      (subst (λ (es : List Entry). Tells begin.start es (slice_index_or (deeds_in account) k d) move) (sym is) later);
  between = λ index.
      let of : LiesBetween begin.rows (words_in first) (words_in now) (move_in m.moved.moves index) =
      all_moved (LiesBetween begin.rows (words_in first) (words_in now)) m.moved.moves tt m.moved.between index in
      subst (λ (n : ℕ). LiesBetween n (mark_at begin.start) (slice_index words) (move_in m.moved.moves index)) rows
      (lies_wider begin.rows (words_in first) (words_in now) (mark_at begin.start) (slice_index words)
      (λ row low. let n = opened.nexts row low in omega arith)
      (λ row low. let r = rows in let s = (stand row (omega arith)).seen in omega arith) (move_in m.moved.moves index)
      of);
  entries = λ p entry index low there of.
      let (place, made, at, before) = place_made p entry low there in
      subst (λ (n : ℕ). All (CountsEntry n index) (deeds_in account)) before (m.entries place made entry index at of);
  reserves = λ p entry low there of_none.
      let (place, made, at, before) = place_made p entry low there in
      let (index, row, number, seen, among, counts) = m.reserves place made entry at of_none in
      let one = m.moved.few index in let most = once index in (
        index,
        row,
        number,
        seen,
        move_found m.moved.moves index (Drew row number) (omega arith) among,
        subst (λ (n : ℕ). All (CountsEntry n index) (deeds_in account)) before counts,
      );
  word = λ row low.
      let r = rows in
      let g = (stand row low).grown in
      let o = opened.added row (omega arith) in
      let n = opened.nexts row (omega arith) in
      let a = m.moved.added row in
      let s = moves_summed row m.moved.moves (records_of account.handled) m.moved.few once in omega arith;
}
  where
    -- the worker made the line of each entry
    place_made : (p : ℕ) (entry : Entry) → p < length (entries_in now) → slice_get call.entries p ≡ Some entry
        → (place : ℕ) × (0 < stands place m.moved.made) × (slice_get (log_of now) place ≡ Some (lines.Entry entry))
        × (length (entries_of (take place (log_of now))) ≡ p)
    place_made p entry low there =
        let here : slice_get (entries_in now) p ≡ Some entry =
        sym (get_front (entries_in now) releases p low) ∙ ap (λ (es : List Entry). slice_get es p) (sym is) ∙ there in
        let (place, below, at, same) = place_of_entry (log_of now) p entry here in
        let all : now.turn.made ≡ m.moved.made = m.moved.made_is ∙ ap (λ (l : List ℕ). l ++ m.moved.made) none in
        let once_made = whole.made place in
        let made : 0 < stands place m.moved.made =
        subst (λ (l : List ℕ). 0 < stands place l) all (grind (arith, nat_tests)) in
        (place, made, at, ap length same ∙ length-take-le p (entries_in now) (omega arith))
