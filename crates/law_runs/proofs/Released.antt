-- The history of a whole run with its releases is legal, and each number used lies below the words that they saw.
use Rattle.std.proofs.Common.{◌≡◌, ℕ, ◌+◌, ◌<◌, ◌≤◌, min, cond, Bool, true, false, List, [], ◌++◌, length, take, Some}
use Rattle.std.proofs.Common.{None, Option, refl, sym, ◌∙◌, ap, subst, inl, inr, arith, length-append}
use Rattle.std.specs.List.{slice_get, All, slice_index_or}
use Rattle.std.proofs.lemmas.Bool.{cases_lt}
use Rattle.std.proofs.lemmas.List.{take-append-le, take_all}
use Rattle.std.proofs.lemmas.Option.{none-some, same_Some}
use Rattle.sdls_base.specs.declared.TheConstants.{MOST_KEYS}
use Rattle.sdls_base.specs.declared.entry.Change.TheVariants.{Marks}
use Rattle.sdls_base.specs.declared.entry.Entry.{Entry}
use Rattle.sdls_base.specs.declared.entry.Seen.TheVariants as seens
use Rattle.sdls_outside.specs.Faults.{Rose}
use Rattle.counter_table.specs.declared.view.View.{View}
use Rattle.counter_table.specs.Turn.{stands}
use Rattle.counter_table.specs.Whole.{RowStands, IsWhole}
use Rattle.record_io.specs.declared.item_cursor.Record.{Record}
use Rattle.key_book.specs.declared.key_row.KeyRow.{KeyRow}
use Rattle.key_book.specs.KeyBook.{place_of}
use Rattle.unit_state.specs.declared.state.State.{State}
use Rattle.unit_state.specs.State.{KeepsRules}
use Rattle.unit_state.specs.History.{after_all, after_first}
use Rattle.run_promise.specs.Numbers.{release_of, is_released, released_floor}
use Rattle.run_promise.specs.History.{AsksFor, IsLegal, IsRelease, NearWord, LegalRun, HasNoEntry, drawers, reserves_of}
use Rattle.run_promise.specs.Answers.{Uses}
use Rattle.run_promise.specs.Fits.{Course, Fits}
use Rattle.law_history.specs.Laws.{IsBelowReleases}
use Rattle.law_history.proofs.Marks.{release_entry}
use Rattle.run_promise.specs.Call.{Begin}
use Rattle.law_workers.specs.Views.{log_of, entries_in}
use Rattle.law_workers.specs.Work.{indexed}
use Rattle.run_promise.specs.Deed.{Deed}
use Rattle.law_workers.specs.Deeds.{Does}
use Rattle.law_workers.specs.Order.{Lined}
use Rattle.law_workers.proofs.Histories.{get_front}
use Rattle.law_workers.proofs.Logs.{legal_wider}
use Rattle.law_workers.proofs.Fitting.{fits_more}
use Rattle.law_workers.specs.Opened.{IsJustOpened}
use Rattle.law_runs.specs.Release.{AreReleases}
use Rattle.law_workers.proofs.WholeRun.{IsHistory, row_opened, near, legal}
use Rattle.law_workers.proofs.Counting.{few_reserves, few_entries, entries_in_order}

-- a release is of no record
unrecorded : (state : State) (word : ℕ) (held : KeyRow) (b : Bool) (made entry : Entry) → made.index ≡ None
    → cond b None (Some made) ≡ Some entry → entry.index ≡ None
unrecorded state word held true made entry made_is is = absurd (none-some entry is)
unrecorded state word held false made entry made_is is =
    ap (λ (e : Entry). e.index) (sym (same_Some made entry is)) ∙ made_is

pub release_unrecorded : (state : State) (word : ℕ) (held : KeyRow) (entry : Entry)
    → release_of state word held ≡ Some entry → entry.index ≡ None
release_unrecorded state word held entry is = unrecorded state word held (is_released state held word) _ entry refl is

pub state_same : (start : State) (es rest : List Entry) (p : ℕ) → p ≤ length es
    → after_first start (es ++ rest) p ≡ after_first start es p
state_same start es rest p low = ap (after_all start) (take-append-le p es rest low)

-- what is near stays near while the history grows
pub near_more : (start : State) (es rest : List Entry) (records : List Record) (key n : ℕ)
    → NearWord start es records key n → NearWord start (es ++ rest) records key n
near_more start es rest records key n h = record {
  least = h.least;
  base = h.base;
  is_base = elim h.is_base [
    | inl is ↦ inl is
    | inr a ↦ inr (record {
      p = a.p;
      within = let w = a.within in let s = length-append es rest in omega arith;
      task = a.task;
      there = a.there;
      kind_is = a.kind_is;
      asks = subst (λ (s : State). AsksFor s a.task.octets key h.base) (sym (state_same start es rest a.p a.within))
          a.asks;
    })
  ];
  most = h.most;
}

pub none_some : (i : ℕ) (o : Option ℕ) → o ≡ None → o ≡ Some i → ⊥
none_some i o a b = let c : ◌≡◌ {A = Option ℕ} None (Some i) = sym a ∙ b in cc

module _ (begin : Begin) (first now : View) (records : List Record) (deeds : List Deed)
    (opened : IsJustOpened begin first)
    (d : Does begin first now records deeds) (whole : IsWhole begin.rows now) (rows : begin.rows ≡ MOST_KEYS)
    (started : KeepsRules begin.start) (kept : KeepsRules (after_all begin.start (entries_in now)))
    (words : ℕ → ℕ) (stand : (row : ℕ) → row < begin.rows → RowStands row (words row) now.numbers)
    (releases : List Entry) (are : AreReleases words begin.start (entries_in now) releases) where
  abbrev pub whole_entries : List Entry
  whole_entries = entries_in now ++ releases

  pub word_near : (key row : ℕ) → place_of (after_all begin.start (entries_in now)).keys key ≡ Some row
      → NearWord begin.start whole_entries records key (words row)
  word_near key row is =
      let o = row_opened begin first now opened rows started kept key row is in
      let r = stand row o.few in
      let grows = d.grows.nexts row in
      let seen = r.seen in
      near_more begin.start (entries_in now) releases records key (words row)
      (near begin first now records deeds opened d whole rows started kept key (words row) (record {
        row = row;
        row_is = is;
        least = omega arith;
        most = elim r.last [ inl a ↦ omega arith | inr b ↦ omega arith ];
      }))

  pub release_at : (p : ℕ) (entry : Entry) → length (entries_in now) ≤ p → slice_get whole_entries p ≡ Some entry
      → IsRelease (NearWord begin.start whole_entries records) (after_first begin.start whole_entries p) entry
  release_at p entry high there =
      let r = are p entry high there in
      record {
        held = r.held;
        word = words r.row;
        there = r.there;
        is_near = word_near r.held.id r.row r.row_is;
        releases = r.releases;
      }

  -- an entry of a record is one of the lanes
  pub of_lanes : (p index : ℕ) (entry : Entry) → slice_get whole_entries p ≡ Some entry → entry.index ≡ Some index
      → (p < length (entries_in now)) × (slice_get (entries_in now) p ≡ Some entry)
  of_lanes p index entry there own = elim (cases_lt p (length (entries_in now))) [
    | inl lt ↦ (lt, sym (get_front (entries_in now) releases p lt) ∙ there)
    | inr ge ↦ let r = are p entry ge there in
        absurd (none_some index entry.index
        (release_unrecorded (after_first begin.start whole_entries p) (words r.row) r.held entry r.releases) own)
  ]

  -- so a record that has no entry of the lanes has none
  pub none_of_lanes : (index : ℕ) → HasNoEntry (entries_in now) index → HasNoEntry whole_entries index
  none_of_lanes index none p entry there own = let x = of_lanes p index entry there own in none p entry x.1 own

  -- the history of the whole run is legal
  unfoldable pub legal_run : (in_turn : ℕ → ℕ → Type 0) (pieces : ℕ)
      → Lined in_turn (log_of now) d.gains.made (length records + drawers records) pieces
      → ((i : ℕ) → indexed i records ≤ 1) → LegalRun begin.plan begin.start records in_turn whole_entries
  legal_run in_turn pieces lined few =
      let old : IsHistory (NearWord begin.start (entries_in now) records) begin records (entries_in now) =
      legal begin first now records deeds opened d whole rows started kept few in
      let none : (x : ℕ) → stands x first.turn.made ≡ 0 = λ x. ap (stands x) opened.none_made in
      record {
        ends = length (entries_in now);
        within = let s = length-append (entries_in now) releases in omega arith;
        each = λ p entry lt there.
            let low : p ≤ length (entries_in now) = omega arith in
            let h = old.each p entry (sym (get_front (entries_in now) releases p lt) ∙ there) in
            subst (λ (s : State). IsLegal (NearWord begin.start whole_entries records) begin.plan s records entry)
            (sym (state_same begin.start (entries_in now) releases p low))
            (legal_wider (NearWord begin.start (entries_in now) records) (NearWord begin.start whole_entries records)
            (λ k n. near_more begin.start (entries_in now) releases records k n) begin.plan begin.start records records
            (λ t c. c)
            (after_first begin.start (entries_in now) p) entry h);
        releases = release_at;
        once = λ p q a b index lt at_p at_q is_a is_b.
            let x = of_lanes p index a at_p is_a in let y = of_lanes q index b at_q is_b in
            old.once p q a b index lt x.1 y.1 is_a is_b;
        few_entries = few_entries begin first now records deeds d whole none (length records + drawers records)
            lined.few_entries;
        few_reserves =
            let same : take (length (entries_in now)) whole_entries ≡ entries_in now =
            take-append-le (length (entries_in now)) (entries_in now) releases (omega arith)
            ∙ take_all (length (entries_in now)) (entries_in now) (omega arith) in
            let f = few_reserves begin first now records deeds d whole none in
            subst (λ (es : List Entry). reserves_of es ≤ drawers records) (sym same) f;
        in_order = λ p q i j a b at_p at_q is_a is_b lt turn.
            let x = of_lanes p i a at_p is_a in let y = of_lanes q j b at_q is_b in
            entries_in_order begin first now records deeds d whole in_turn (length records + drawers records) pieces
            lined none p q i j a b x.1 y.1 is_a is_b lt turn;
      }

  -- each number used is below each word that a release of its key saw
  pub below_releases : All (λ (deed : Deed). (key number : ℕ) → Uses deed.answer key number
      → IsBelowReleases whole_entries (length (entries_in now)) key number) deeds
  below_releases k x low key number uses_it p entry word mark floor high there seen_is change_is =
      let (row, few, is, in') = d.answers.used k x low key number uses_it in
      let s = d.works.spent row number in
      let below = (d.works.drawn row number (omega arith)).1 in
      let q = are p entry high there in
      let e = release_entry (after_first begin.start whole_entries p) (words q.row) q.held entry q.releases in
      let change : Marks key mark floor ≡ Marks q.held.id (min q.held.mark (words q.row))
      (released_floor (after_first begin.start whole_entries p) q.held) = sym change_is ∙ e.change_is in
      let keys : key ≡ q.held.id = (let c = change in cc) in
      let one : Some row ≡ Some q.row =
      sym is ∙ (ap (λ (id : ℕ). place_of (after_all begin.start (entries_in now)).keys id) keys ∙ q.row_is) in
      let rows_are : row ≡ q.row = (let o = one in cc) in
      let seen : seens.Word word ≡ seens.Word (words q.row) = sym seen_is ∙ e.seen_is in
      let word_is : word ≡ words q.row = (let o = seen in cc) in
      let to : words row ≡ words q.row = ap words rows_are in
      let st = (stand row few).seen in
      omega arith

  -- each number used is below the word of its key's row
  pub used_below : All (λ (deed : Deed). (key number row : ℕ) → Uses deed.answer key number
      → place_of (after_all begin.start (entries_in now)).keys key ≡ Some row → number < words row) deeds
  used_below k x low key number row uses_it at =
      let (own, few, is, in') = d.answers.used k x low key number uses_it in
      let s = d.works.spent own number in
      let below = (d.works.drawn own number (omega arith)).1 in
      let one : Some own ≡ Some row = sym is ∙ at in
      let rows_are : own ≡ row = (let o = one in cc) in
      let to : words own ≡ words row = ap words rows_are in
      let st = (stand own few).seen in
      omega arith

-- Each answer fits at the end, where no entry was added once the count of faults had risen.
pub fits_ended : (records : List Record) (course : Course) (faults : ℕ) (releases : List Entry) (deeds : List Deed)
    → course.faults ≤ faults
    → (Rose course.faults_before course.faults → releases ≡ [])
    → All (λ (a : Deed). Fits (NearWord course.begin.start course.entries records) course a.task a.answer) deeds
    → All (λ (a : Deed). Fits (NearWord course.begin.start (course.entries ++ releases) records)
    (record course { faults = faults; entries = course.entries ++ releases }) a.task a.answer) deeds
fits_ended records course faults releases deeds fewer stopped fit i e low =
    fits_more (NearWord course.begin.start course.entries records)
    (NearWord course.begin.start (course.entries ++ releases) records)
    (λ k n. near_more course.begin.start course.entries releases records k n) course.begin course.faults_before
    course.faults faults
    course.entries releases fewer (λ risen. let h = ap length (stopped risen) in
    let s = length-append course.entries releases in omega arith)
    (slice_index_or deeds i e).task (slice_index_or deeds i e).answer (fit i e low)
