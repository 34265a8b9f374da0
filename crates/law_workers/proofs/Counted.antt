-- Counts that answers tell: each has the entries of the records before its own, and no other.
use Rattle.std.proofs.Common.{◌≡◌, ℕ, zero, suc, ◌<◌, ◌≤◌, IsTrue, List, [], ◌∷◌, ◌++◌, length, take, Option, Some}
use Rattle.std.proofs.Common.{None, refl, sym, ◌∙◌, ap, subst, inl, inr, arith, eq-eqb}
use Rattle.std.specs.List.{All, slice_get, slice_index_or}
use Rattle.std.proofs.lemmas.List.{take-append-le, take_all}
use Rattle.std.proofs.lemmas.List.Elements.{All-append, Contains-append_left, Contains-append_right}
use Rattle.sdls_base.specs.declared.entry.Entry.{Entry}
use Rattle.sdls_base.specs.declared.entry.Logged.{Logged}
use Rattle.sdls_base.specs.declared.entry.Logged.TheVariants as lines
use Rattle.record_io.specs.declared.item_cursor.Record.{Record}
use Rattle.counter_table.specs.declared.view.View.{View}
use Rattle.counter_table.specs.Numbers.{amount}
use Rattle.counter_table.specs.Turn.{stands}
use Rattle.run_promise.specs.Call.{Begin}
use Rattle.law_workers.specs.Counts.{is_index, is_of_record}
use Rattle.run_promise.specs.Deed.{Deed, tells_count}
use Rattle.run_promise.specs.Log.{entries_of}
use Rattle.run_promise.specs.Words.{Move, Drew, CountsEntry}
use Rattle.law_workers.specs.Views.{KnowsMore, entries_in, log_of}
use Rattle.law_workers.specs.Work.{indexed}
use Rattle.law_workers.specs.Deeds.{Does}
use Rattle.law_workers.specs.Words.{IsCountedInTurn, IsDrawnInTurn, MovesCounted, MovesWords}
use Rattle.law_workers.proofs.Logs.{count_one, entries_low, same_behind, stands_both}
use Rattle.law_workers.proofs.Words.{either, line_stays, no_reserve, on_parts, one_moved, then_parts, words_nothing}
use Rattle.law_workers.proofs.Words.{words_on, words_then}

-- before an entry there are fewer than all
entry_within : (log : List Logged) (place : ℕ) (entry : Entry) → slice_get log place ≡ Some (lines.Entry entry)
    → length (entries_of (take place log)) < length (entries_of log)
entry_within [] place entry there = absurd (let t : ◌≡◌ {A = Option Logged} None (Some (lines.Entry entry)) = there in
    cc)
entry_within (lines.Entry own ∷ log) zero entry there = omega arith
entry_within (lines.Entry own ∷ log) (suc place) entry there = let h = entry_within log place entry there in omega arith
entry_within (lines.Piece own ∷ log) zero entry there =
    absurd (let t : ◌≡◌ {A = Option Logged} (Some (lines.Piece own)) (Some (lines.Entry entry)) = there in cc)
entry_within (lines.Piece own ∷ log) (suc place) entry there = entry_within log place entry there

-- the lines before a place stay in a longer log
front_stays : (v w : View) → KnowsMore v w → (place : ℕ) → place ≤ length (log_of v)
    → take place (log_of w) ≡ take place (log_of v)
front_stays v w grows place low =
    ap (take place) grows.earlier.log.1 ∙ take-append-le place (log_of v) grows.earlier.log.0 low

counts_on : (v w : View) → KnowsMore v w → (place index : ℕ) → place ≤ length (log_of v) → (deeds : List Deed)
    → All (CountsEntry (length (entries_of (take place (log_of v)))) index) deeds
    → All (CountsEntry (length (entries_of (take place (log_of w)))) index) deeds
counts_on v w grows place index low deeds counts =
    subst (λ (l : List Logged). All (CountsEntry (length (entries_of l)) index) deeds)
    (sym (front_stays v w grows place low)) counts

drawn_in_turn : (v w : View) → KnowsMore v w → (moves : List (ℕ × Move)) (deeds : List Deed) (place : ℕ)
    → place < length (log_of v)
    → IsDrawnInTurn moves deeds (log_of v) place → IsDrawnInTurn moves deeds (log_of w) place
drawn_in_turn v w grows moves deeds place low drawn entry is none =
    let (index, row, number, seen, there, counts) = drawn entry (sym (line_stays v w grows place low) ∙ is) none in
    (index, row, number, seen, there, counts_on v w grows place index (omega arith) deeds counts)

counted_in_turn : (v w : View) → KnowsMore v w → (deeds : List Deed) (place : ℕ) → place < length (log_of v)
    → IsCountedInTurn deeds (log_of v) place → IsCountedInTurn deeds (log_of w) place
counted_in_turn v w grows deeds place low counted entry index is own =
    counts_on v w grows place index (omega arith) deeds
    (counted entry index (sym (line_stays v w grows place low) ∙ is) own)

-- the lines made are those that were gained
made_gained : (begin : Begin) (u v : View) (ts : List Record) (ds : List Deed) (does : Does begin u v ts ds)
    (m : MovesWords begin u v ts ds) (place : ℕ)
    → 0 < stands place m.made → 0 < stands place does.gains.made
made_gained begin u v ts ds does m place made =
    subst (λ (l : List ℕ). 0 < stands place l)
    (same_behind u.turn.made m.made does.gains.made (sym m.made_is ∙ does.gained.made)) made

-- an entry of a record is of one of those that were handled
of_records : (begin : Begin) (u v : View) (ts : List Record) (ds : List Deed) (does : Does begin u v ts ds)
    (place index : ℕ) (entry : Entry)
    → 0 < stands place does.gains.made → slice_get (log_of v) place ≡ Some (lines.Entry entry)
    → entry.index ≡ Some index → 0 < indexed index ts
of_records begin u v ts ds does place index entry made is own =
    let one = count_one (is_of_record index) (log_of v) place does.gains.made made
    (ap (is_of_record index) is ∙ (ap (is_index index) own ∙ eq-eqb index index refl)) in
    let few = does.works.one_entry index in omega arith

-- none of the answers tells a count
pub counted_plain : (begin : Begin) (u v : View) (ts : List Record) (ds : List Deed)
    → All (λ (d : Deed). IsTrue (tells_count d) → ⊥) ds
    → MovesWords begin u v ts ds → MovesCounted begin u v ts ds
counted_plain begin u v ts ds plain moved = record {
  moved = moved;
  entries = λ place made entry index is own k d low told. absurd (plain k d low told);
  reserves = λ place made entry is none.
      let (index, row, number, seen, there) = moved.reserves place made entry is none in
      (index, row, number, seen, there, λ k d low told. absurd (plain k d low told));
}

pub counted_nothing : (begin : Begin) (v : View) (tasks : List Record) → MovesCounted begin v v tasks []
counted_nothing begin v tasks =
    counted_plain begin v v tasks [] (λ k d low told. omega arith) (words_nothing begin v tasks)

-- to a view that knows more, to whose words nothing was added, and who had no records since
pub counted_on : (begin : Begin) (u v w : View) (ts : List Record) (ds : List Deed) → MovesCounted begin u v ts ds
    → Does begin v w [] []
    → ((row : ℕ) → amount row w.numbers.added ≡ amount row v.numbers.added) → MovesCounted begin u w ts ds
counted_on begin u v w ts ds a does same =
    let (made_are, moves_are) = on_parts begin u v w ts ds a.moved does same in
    record {
      moved = words_on begin u v w ts ds a.moved does same;
      entries = λ place made.
          let here : 0 < stands place (a.moved.made ++ does.gains.made) =
          subst (λ (l : List ℕ). 0 < stands place l) made_are made in
          let both = stands_both place a.moved.made does.gains.made in
          elim (either (stands place a.moved.made) (stands place does.gains.made) (omega arith)) [
            | inl own ↦ counted_in_turn v w does.grows ds place (a.moved.within place own) (a.entries place own)
            | inr own ↦ λ entry index is of.
                absurd (let some = of_records begin v w [] [] does place index entry own is of in omega arith)
          ];
      reserves = λ place made. subst (λ (moves : List (ℕ × Move)). IsDrawnInTurn moves ds (log_of w) place)
          (sym moves_are)
          (let here : 0 < stands place (a.moved.made ++ does.gains.made) =
          subst (λ (l : List ℕ). 0 < stands place l) made_are made in
          let both = stands_both place a.moved.made does.gains.made in
          elim (either (stands place a.moved.made) (stands place does.gains.made) (omega arith)) [
            | inl own ↦ drawn_in_turn v w does.grows a.moved.moves ds place (a.moved.within place own)
                (a.reserves place own)
            | inr own ↦ λ entry is none. absurd (no_reserve begin v w does place entry own is none)
          ]);
    }

-- one part after the other, the records of the first below a number, and those of the second from it on
module _ (begin : Begin) (u v w : View) (ts us : List Record) (ds es : List Deed) (first : Does begin u v ts ds)
    (next : Does begin v w us es)
    (a : MovesCounted begin u v ts ds) (b : MovesCounted begin v w us es) (bound : ℕ)
    (low : (index : ℕ) → 0 < indexed index ts → index < bound) (high : (index : ℕ) → 0 < indexed index us
    → bound ≤ index)
    (low_deeds : All (λ (d : Deed). d.task.index < bound) ds) (high_deeds : All (λ (e : Deed). bound ≤ e.task.index) es)
  where
    -- a count that was told later has an entry that was made before
    has_early : (place index : ℕ) (entry : Entry) → slice_get (log_of v) place ≡ Some (lines.Entry entry)
        → 0 < indexed index ts
        → All (CountsEntry (length (entries_of (take place (log_of v)))) index) es
    has_early place index entry is some k e inside told =
        let less = low index some in
        let more : bound ≤ (slice_index_or es k e).task.index = high_deeds k e inside in
        let below = entry_within (log_of v) place entry is in
        let at = (next.answers.stand k e inside).counted told in
        (λ has. omega arith, λ comes. omega arith)

    -- and one that was told before has none that was made later
    lacks_late : (place index : ℕ) → length (log_of v) ≤ place → 0 < indexed index us
        → All (CountsEntry (length (entries_of (take place (log_of w)))) index) ds
    lacks_late place index from some k d inside told =
        let more = high index some in
        let less : (slice_index_or ds k d).task.index < bound = low_deeds k d inside in
        let known : length (entries_of (take (length (log_of v)) (log_of w))) ≡ length (entries_in v) =
        ap (λ (l : List Logged). length (entries_of l))
        (front_stays v w next.grows (length (log_of v)) (omega arith) ∙ take_all (length (log_of v)) (log_of v)
        (omega arith)) in
        let above = entries_low (log_of w) (length (log_of v)) place from in
        let at = (first.answers.stand k d inside).counted told in
        (λ has. absurd (omega arith), λ comes. absurd (omega arith))

    made_late : (place : ℕ) → 0 < stands place b.moved.made → length (log_of v) ≤ place
    made_late place made = (next.works.made place (made_gained begin v w us es next b.moved place made)).0

    early_entry : (place : ℕ) → 0 < stands place a.moved.made → IsCountedInTurn (ds ++ es) (log_of w) place
    early_entry place made entry index is own =
        let inside = a.moved.within place made in
        let here = sym (line_stays v w next.grows place inside) ∙ is in
        counts_on v w next.grows place index (omega arith) (ds ++ es)
        (All-append (CountsEntry (length (entries_of (take place (log_of v)))) index) ds es
        (a.entries place made entry index here own)
        (has_early place index entry here
        (of_records begin u v ts ds first place index entry (made_gained begin u v ts ds first a.moved place made) here
        own)))

    late_entry : (place : ℕ) → 0 < stands place b.moved.made → IsCountedInTurn (ds ++ es) (log_of w) place
    late_entry place made entry index is own =
        All-append (CountsEntry (length (entries_of (take place (log_of w)))) index) ds es
        (lacks_late place index (made_late place made)
        (of_records begin v w us es next place index entry (made_gained begin v w us es next b.moved place made) is
        own))
        (b.entries place made entry index is own)

    early_reserve : (place : ℕ) → 0 < stands place a.moved.made
        → IsDrawnInTurn (a.moved.moves ++ b.moved.moves) (ds ++ es) (log_of w) place
    early_reserve place made entry is none =
        let inside = a.moved.within place made in
        let here = sym (line_stays v w next.grows place inside) ∙ is in
        let (index, row, number, seen, there, counts) = a.reserves place made entry here none in
        let one = one_moved a.moved.moves index (Drew row number) there in
        let few = a.moved.few index in (
          index,
          row,
          number,
          seen,
          Contains-append_left a.moved.moves b.moved.moves (index, Drew row number) there,
          counts_on v w next.grows place index (omega arith) (ds ++ es)
              (All-append (CountsEntry (length (entries_of (take place (log_of v)))) index) ds es counts
              (has_early place index entry here (omega arith))),
        )

    late_reserve : (place : ℕ) → 0 < stands place b.moved.made
        → IsDrawnInTurn (a.moved.moves ++ b.moved.moves) (ds ++ es) (log_of w) place
    late_reserve place made entry is none =
        let (index, row, number, seen, there, counts) = b.reserves place made entry is none in
        let one = one_moved b.moved.moves index (Drew row number) there in
        let few = b.moved.few index in (
          index,
          row,
          number,
          seen,
          Contains-append_right a.moved.moves b.moved.moves (index, Drew row number) there,
          All-append (CountsEntry (length (entries_of (take place (log_of w)))) index) ds es
              (lacks_late place index (made_late place made) (omega arith)) counts,
        )

    -- each line was made in the first part or in the second
    by_part : (P : ℕ → Type 0) → ((place : ℕ) → 0 < stands place a.moved.made → P place)
        → ((place : ℕ) → 0 < stands place b.moved.made → P place)
        → (place : ℕ) → 0 < stands place (a.moved.made ++ b.moved.made) → P place
    by_part P one other place made =
        let both = stands_both place a.moved.made b.moved.made in
        elim (either (stands place a.moved.made) (stands place b.moved.made) (omega arith)) [
          | inl own ↦ one place own
          | inr own ↦ other place own
        ]

    pub counted_then : MovesCounted begin u w (ts ++ us) (ds ++ es)
    counted_then =
        let (made_are, moves_are) = then_parts begin u v w ts us ds es first.grows a.moved next.grows b.moved in
        record {
          moved = words_then begin u v w ts us ds es first.grows a.moved next.grows b.moved;
          entries = λ place made. by_part (IsCountedInTurn (ds ++ es) (log_of w)) early_entry late_entry place
              (subst (λ (l : List ℕ). 0 < stands place l) made_are made);
          reserves = λ place made. subst (λ (moves : List (ℕ × Move)). IsDrawnInTurn moves (ds ++ es) (log_of w) place)
              (sym moves_are)
              (by_part (IsDrawnInTurn (a.moved.moves ++ b.moved.moves) (ds ++ es) (log_of w)) early_reserve late_reserve
              place
              (subst (λ (l : List ℕ). 0 < stands place l) made_are made));
        }
