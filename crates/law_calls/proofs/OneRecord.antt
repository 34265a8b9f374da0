-- What was done for one record, put together: numbers, entries behind the log that was found, and the answer.
use Rattle.std.proofs.Common.{◌≡◌, ◌≢◌, ◌⊎◌, Some, ℕ, zero, suc, ◌+◌, ◌<◌, ◌≤◌, ◌==◌, Bool, false, List, [], ◌∷◌, ◌++◌}
use Rattle.std.proofs.Common.{length, Option, refl, sym, ◌∙◌, ap, subst, arith, inl, inr, length-append, if◌then◌else◌}
use Rattle.std.proofs.Common.{eqb, eq-eqb, true}
use Rattle.std.specs.List.{All}
use Rattle.std.proofs.lemmas.Bool.{cases_eq}
use Rattle.std.proofs.lemmas.Bool.Decides.{nat_tests}
use Rattle.sdls_base.specs.Numbers.{tally}
use Rattle.sdls_base.specs.declared.entry.Entry.{Entry}
use Rattle.sdls_base.specs.declared.entry.Logged.{Logged}
use Rattle.record_io.specs.declared.item_cursor.Record.{Record}
use Rattle.record_io.specs.declared.answers.Answer.{Answer}
use Rattle.record_io.specs.declared.code.TheConstants.{SITE_FAULT, NO_MEMORY}
use Rattle.unit_state.specs.History.{after_all}
use Rattle.counter_table.specs.declared.view.Turn.{Turn}
use Rattle.counter_table.specs.declared.view.View.{View}
use Rattle.counter_table.specs.Known.{Earlier, IsSparing}
use Rattle.counter_table.specs.Numbers.{count_of, top}
use Rattle.counter_table.specs.Turn.{places, epoch_seen}
use Rattle.run_promise.specs.Log.{entries_of}
use Rattle.run_promise.specs.Answers.{IsUnmade}
use Rattle.law_history.specs.Entries.{IsLegalAt}
use Rattle.law_workers.specs.Counts.{is_of_record, is_of_none, count_at}
use Rattle.run_promise.specs.History.{drawers}
use Rattle.run_promise.specs.Fits.{Fits}
use Rattle.run_promise.specs.Call.{Begin}
use Rattle.law_workers.specs.Views.{Gains, Gained, KnowsMore, IsBetween, log_of, entries_in}
use Rattle.law_workers.specs.Work.{indexed, IsAsked, Works}
use Rattle.run_promise.specs.Deed.{Deed, deed_of}
use Rattle.law_workers.specs.Deeds.{course_in, StandsWithin, Agree, IsSpent, MadeLast, IsWithoutEntry}
use Rattle.law_workers.specs.Order.{Layout, TakeTurns, is_line, is_piece, Lined, Handled}
use Rattle.law_workers.proofs.Logs.{count_one, same_behind}
use Rattle.law_calls.specs.Answering.{Answered}
use Rattle.law_calls.proofs.Behind.{lines_of, tested, lines_length, places_within, count_behind, all_lines, no_pieces}
use Rattle.law_calls.proofs.Behind.{LegalInTurn, legal_behind}

pub one_all : {X : Type 0} (P : X → Type 0) (x : X) → P x → All P (x ∷ [])
one_all {X} P x p zero e low = p
one_all {X} P x p (suc i) e low = absurd (omega arith)

pub none_all : {X : Type 0} (P : X → Type 0) → All P []
none_all {X} P i e low = absurd (omega arith)

-- What became of the turn: nothing that was known is forgotten, and these entries stand behind the log that was found.
pub record Turned (log : List Logged) (es : List Entry) (v w : Turn) : Type 0 where
  pub earlier : Earlier v.known w.known
  pub sparing : IsSparing v.known w.known
  pub opening : w.known.opening ≡ v.known.opening
  pub epochs : epoch_seen v ≤ epoch_seen w
  pub low : length v.known.log ≤ length log
  pub log_is : w.known.log ≡ log ++ lines_of es
  pub made : w.made ≡ v.made ++ places (length log) (length es)
  pub holds : w.holds ≡ v.holds
  pub filled : w.filled ≡ v.filled

pub own_index : (own i : ℕ) → 1 ≤ (if own == i then 1 else 0) + 0 → own ≡ i
own_index own i h = elim (cases_eq own i) [
  | inl is ↦ is
  | inr off ↦
      let f : eqb own i ≡ false = grind (arith, nat_tests) in
      let k : 1 ≤ (if false then 1 else 0) + 0 = subst (λ (b : Bool). 1 ≤ (if b then 1 else 0) + 0) f h in
      absurd (omega arith)
]

module _ (begin : Begin) (task : Record) (v w : View) where
  -- what became of the numbers
  pub record Counted (drawn spent raised added : List (ℕ × ℕ)) : Type 0 where
    pub drawn_is : w.numbers.drawn ≡ v.numbers.drawn ++ drawn
    pub spent_is : w.numbers.spent ≡ v.numbers.spent ++ spent
    pub raised_is : w.numbers.raised ≡ v.numbers.raised ++ raised
    pub added_is : w.numbers.added ≡ v.numbers.added ++ added
    pub shares : w.numbers.shares ≡ v.numbers.shares
    pub nexts : (row : ℕ) → top row v.numbers.nexts ≤ top row w.numbers.nexts
    pub few : (row : ℕ) → count_of row drawn ≤ drawers (task ∷ [])
    pub between : (row number : ℕ) → 0 < tally row number drawn → (top row v.numbers.nexts ≤ number)
        × (number < top row w.numbers.nexts)
    pub of_drawn : (row number : ℕ) → tally row number spent ≤ tally row number drawn
    pub raised_by : All (λ pair. (pair.1 ≤ 1) ⊎ IsAsked begin (entries_in w) (task ∷ []) pair.0 pair.1) raised

  module _ (layout : Layout) (segment : ℕ) (log : List Logged) (es : List Entry)
      (drawn spent raised added : List (ℕ × ℕ))
      (turned : Turned log es v.turn w.turn) (counted : Counted drawn spent raised added)
      (legal : LegalInTurn (IsBetween begin v w) begin.plan begin.start (task ∷ [])
      (after_all begin.start (entries_of log))
      es)
      (one : (index : ℕ) → tested (is_of_record index) es ≤ indexed index (task ∷ []))
      (reserve : tested is_of_none es ≤ drawers (task ∷ []))
      (few : length es ≤ length (task ∷ []) + drawers (task ∷ [])) where
    abbrev pub gains : Gains
    gains = record {
      drawn = drawn;
      spent = spent;
      raised = raised;
      added = added;
      made = places (length log) (length es);
    }

    gained : Gained v w gains
    gained = record {
      drawn = counted.drawn_is;
      spent = counted.spent_is;
      raised = counted.raised_is;
      added = counted.added_is;
      made = turned.made;
      shares = counted.shares;
      holds = turned.holds;
      filled = turned.filled;
    }

    grows : KnowsMore v w
    grows = record { nexts = counted.nexts; earlier = turned.earlier; opening = turned.opening; epochs = turned.epochs }

    count_is : (test : Option Logged → Bool) → count_at test (log_of w) (places (length log) (length es))
        ≡ tested test es
    count_is test = ap (λ (l : List Logged). count_at test l (places (length log) (length es))) turned.log_is
        ∙ count_behind test log es

    pub works : Works begin v w gains (task ∷ [])
    works = record {
      made = λ x in'.
          let (low, high) = places_within (length log) (length es) x in' in
          let size : length (log_of w) ≡ length log + length es =
          ap length turned.log_is ∙ length-append log (lines_of es) ∙ ap (λ (n : ℕ). length log + n)
          (lines_length es) in
          let before = turned.low in (omega arith, omega arith);
      legal = λ x in'.
          subst (λ (l : List Logged). IsLegalAt (IsBetween begin v w) begin.plan begin.start (task ∷ []) l x)
          (sym turned.log_is)
          (legal_behind (IsBetween begin v w) begin.plan begin.start (task ∷ []) log es legal x in');
      one_entry = λ i. let c = count_is (is_of_record i) in let o = one i in omega arith;
      reserves = let c = count_is is_of_none in omega arith;
      few_drawn = counted.few;
      drawn = counted.between;
      spent = counted.of_drawn;
      raised = counted.raised_by;
    }

    lined : Lined (TakeTurns layout) (log_of w) (places (length log) (length es))
        (length (task ∷ []) + drawers (task ∷ [])) 0
    lined = record {
      in_order = λ x y i j in_x in_y is_i is_j less turn.
          let made : List ℕ = places (length log) (length es) in
          let a = count_one (is_of_record i) (log_of w) x made in_x is_i in
          let b = count_one (is_of_record j) (log_of w) y made in_y is_j in
          let c = works.one_entry i in
          let d = works.one_entry j in
          let p = own_index task.index i (omega arith) in
          let q = own_index task.index j (omega arith) in
          absurd (omega arith);
      few_entries = let c = count_is is_line in let all = all_lines es in omega arith;
      few_pieces = let c = count_is is_piece in let none = no_pieces es in omega arith;
    }

    -- none of the entries is the record's
    without : tested (is_of_record task.index) es ≡ 0 → IsWithoutEntry w gains (task ∷ []) task.index
    without none =
        let c = count_is (is_of_record task.index) in
        let own : eqb task.index task.index ≡ true = eq-eqb task.index task.index refl in
        let alone : indexed task.index (task ∷ []) ≡ 1 = ap (λ (b : Bool). (if b then 1 else 0) + 0) own in omega arith

    pub none_made : tested (is_of_record task.index) es ≡ 0 → (made : List ℕ) → w.turn.made ≡ v.turn.made ++ made
        → count_at (is_of_record task.index) (log_of w) made ≡ 0
    none_made none made is =
        let same : made ≡ places (length log) (length es) =
        same_behind v.turn.made made (places (length log) (length es)) (sym is ∙ turned.made) in
        ap (count_at (is_of_record task.index) (log_of w)) same ∙ count_is (is_of_record task.index) ∙ none

    -- the record was handled, and has no answer
    pub handled_unanswered : Handled layout begin v w (task ∷ []) []
    handled_unanswered = record {
      does = record {
        gains = gains;
        gained = gained;
        grows = grows;
        sparing = turned.sparing;
        works = works;
        answers = record {
          fit = none_all _;
          stand = none_all _;
          agree = none_all _;
          used = none_all _;
          failed = none_all _;
        };
        unmade = none_all _;
      };
      lined = lined;
    }

    -- the record was handled, and has this answer
    pub handled_answered : (answer : Answer) → Fits (IsBetween begin v w) (course_in begin w) task answer
        → StandsWithin begin v w (deed_of segment task answer) → IsSpent begin w gains (deed_of segment task answer)
        → (answer.code ≡ SITE_FAULT → MadeLast w gains)
        → (IsUnmade answer.code → tested (is_of_record task.index) es ≡ 0)
        → Handled layout begin v w (task ∷ []) (deed_of segment task answer ∷ [])
    handled_answered answer fits stands_there used failed unmade = record {
      does = record {
        gains = gains;
        gained = gained;
        grows = grows;
        sparing = turned.sparing;
        works = works;
        answers = record {
          fit = one_all (λ (d : Deed). Fits (IsBetween begin v w) (course_in begin w) d.task d.answer)
              (deed_of segment task answer) fits;
          stand = one_all (StandsWithin begin v w) (deed_of segment task answer) stands_there;
          agree = one_all (λ (d : Deed). All (Agree begin (entries_in w) d) (deed_of segment task answer ∷ []))
              (deed_of segment task answer)
              (one_all (Agree begin (entries_in w) (deed_of segment task answer)) (deed_of segment task answer)
              (record {
                pairs = λ apart. absurd (apart refl);
                faults = λ apart. absurd (apart refl);
                order = λ less. absurd (omega arith);
              }));
          used = one_all (IsSpent begin w gains) (deed_of segment task answer) used;
          failed = one_all (λ (d : Deed). d.answer.code ≡ SITE_FAULT → MadeLast w gains) (deed_of segment task answer)
              failed;
        };
        unmade = one_all (λ (d : Deed). IsUnmade d.answer.code → IsWithoutEntry w gains (task ∷ []) d.task.index)
            (deed_of segment task answer)
            (λ code. without (unmade code));
      };
      lined = lined;
    }

-- an answer that does not say that memory ran out
pub answered_so : (begin : Begin) (layout : Layout) (segment : ℕ) (v w : View) (task : Record) (answer : Answer)
    → answer.code ≢ NO_MEMORY
    → Handled layout begin v w (task ∷ []) (deed_of segment task answer ∷ [])
    → Answered layout begin segment v w task (Some answer)
answered_so begin layout segment v w task answer other handled = (handled, λ code. absurd (other code))
