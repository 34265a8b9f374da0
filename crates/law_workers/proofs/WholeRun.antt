-- What a worker that did all knows of the whole run.
use Rattle.std.proofs.Common.{◌≡◌, ◌≢◌, ◌⊎◌, ℕ, suc, ◌<◌, ◌≤◌, eqb, List, [], ◌∷◌, ◌++◌, length, take, Some, Bool, true}
use Rattle.std.proofs.Common.{false, refl, sym, ◌∙◌, ap, subst, inl, inr, ⊎_elim, arith, append-nil, max, eq-eqb}
use Rattle.std.proofs.Common.{if◌then◌else◌, zero}
use Rattle.std.specs.List.{slice_get, All, AllPairs, slice_index_or}
use Rattle.std.proofs.lemmas.Bool.{cases_lt}
use Rattle.std.proofs.lemmas.Bool.Decides.{nat_tests}
use Rattle.std.proofs.lemmas.List.{length-take, take_all}
use Rattle.std.proofs.lemmas.Option.{slice_get_within}
use Rattle.sdls_base.specs.declared.TheConstants.{MOST_KEYS}
use Rattle.sdls_base.specs.declared.entry.Entry.{Entry}
use Rattle.counter_table.specs.declared.view.View.{View}
use Rattle.counter_table.specs.Numbers.{count_of, top}
use Rattle.counter_table.specs.Turn.{stands}
use Rattle.counter_table.specs.Whole.{IsWhole}
use Rattle.record_io.specs.declared.item_cursor.Record.{Record}
use Rattle.record_io.specs.declared.code.TheConstants.{SITE_FAULT}
use Rattle.sdls_base.specs.declared.states.KeyState.TheVariants.{PreActive}
use Rattle.unit_state.specs.State.{KeepsRules}
use Rattle.unit_state.specs.History.{after_all, after_first}
use Rattle.run_promise.specs.Log.{entries_of}
use Rattle.run_promise.specs.Numbers.{mark_of, mark_at}
use Rattle.run_promise.specs.History.{AsksFor, IsLegal, IsAskedFor, NearWord, HasNoEntry}
use Rattle.law_workers.specs.Counts.{is_index, is_of_record}
use Rattle.run_promise.specs.Answers.{Uses, IsUnmade}
use Rattle.run_promise.specs.Fits.{Course, Fits}
use Rattle.run_promise.specs.Call.{Begin}
use Rattle.law_workers.specs.Views.{log_of, entries_in, IsRow, IsBetween}
use Rattle.law_workers.specs.Work.{IsAsked, indexed}
use Rattle.run_promise.specs.Deed.{Deed, InTurn, StandsBehind, Differ}
use Rattle.law_workers.specs.Deeds.{Does, course_in}
use Rattle.law_workers.proofs.Histories.{row_kept_first, place_of_entry}
use Rattle.law_workers.proofs.Fitting.{fits_more}
use Rattle.law_workers.proofs.Logs.{count_one, count_two, legal_wider}
use Rattle.law_workers.proofs.Joining.{top_both}
use Rattle.law_workers.specs.Opened.{IsJustOpened}
use Rattle.law_workers.proofs.Rows.{row_named, row_one, mark_known}
use Rattle.record_io.specs.Places.{Place, records_of}
use Rattle.unit_plan.specs.PlanRules.{IsPlan}
use Rattle.unit_state.proofs.RulesKept.{rules_kept}
use Rattle.law_history.proofs.Legal.{legal_allowed}
use Rattle.law_history.proofs.Along.{along_to}

-- The entries of a history are each legal, and no two are of one record.
pub record IsHistory (near : ℕ → ℕ → Type 0) (begin : Begin) (records : List Record) (entries : List Entry) : Type 0
  where
    pub each : (p : ℕ) (entry : Entry) → slice_get entries p ≡ Some entry
        → IsLegal near begin.plan (after_first begin.start entries p) records entry
    pub once : (p q : ℕ) (a b : Entry) (index : ℕ) → p < q → slice_get entries p ≡ Some a → slice_get entries q ≡ Some b
        → a.index ≡ Some index → b.index ≡ Some index → ⊥

-- the greatest number of a row is one of them
top_found : (P : ℕ × ℕ → Type 0) (row : ℕ) (ps : List (ℕ × ℕ)) → All P ps → 0 < top row ps → P (row, top row ps)
top_found P row [] all h = absurd (omega arith)
top_found P row (p ∷ ps) all h = go (eqb p.0 row) refl (top_found P row ps (λ k d l. all (suc k) d (omega arith))) h
  where
    go : (t : Bool) → eqb p.0 row ≡ t → (0 < top row ps → P (row, top row ps))
        → 0 < max (if t then p.1 else 0) (top row ps)
        → P (row, max (if t then p.1 else 0) (top row ps))
    go true is later pos =
        let same : p.0 ≡ row = grind (arith, nat_tests) in
        elim (cases_lt p.1 (top row ps)) [
          | inl lt ↦ subst P (ap (λ (n : ℕ). (row, n)) (omega arith)) (later (omega arith))
          | inr ge ↦ subst P (ap (λ (n : ℕ). (row, n)) (omega arith))
              (subst (λ (r : ℕ). P (r, p.1)) same (all 0 p (omega arith)))
        ]
    go false is later pos = subst P (ap (λ (n : ℕ). (row, n)) (omega arith)) (later (omega arith))

-- each place of the log was made since the opening
pub made_since : (begin : Begin) (v w : View) (tasks : List Record) (deeds : List Deed) → IsJustOpened begin v
    → (d : Does begin v w tasks deeds)
    → IsWhole begin.rows w → (x : ℕ) → x < length (log_of w) → 0 < stands x d.gains.made
made_since begin v w tasks deeds opened d whole x low =
    let all = whole.made x in
    let same : stands x w.turn.made ≡ stands x d.gains.made =
    ap (stands x) (d.gained.made ∙ ap (λ (l : List ℕ). l ++ d.gains.made) opened.none_made) in
    grind (arith, nat_tests)

-- each entry of the log that one worker made is allowed in the state before it, so the last state keeps the rules
pub rules_at_end : (begin : Begin) (first now : View) (places : List Place) (deeds : List Deed)
    → IsJustOpened begin first
    → Does begin first now (records_of places) deeds → IsWhole begin.rows now → IsPlan begin.plan
    → KeepsRules begin.start
    → KeepsRules (after_all begin.start (entries_in now))
rules_at_end begin first now places deeds opened d whole plan_is rules =
    let all : take (length (entries_in now)) (entries_in now) ≡ entries_in now =
    take_all (length (entries_in now)) (entries_in now) (omega arith) in
    subst (λ (es : List Entry). KeepsRules (after_all begin.start es)) all
    (along_to KeepsRules begin.start (entries_in now) zero (length (entries_in now)) (omega arith) (omega arith) rules
    (λ k entry least below there kept.
    let (place, low, at, same) = place_of_entry (log_of now) k entry there in
    let legal : IsLegal (IsBetween begin first now) begin.plan (after_first begin.start (entries_in now) k)
    (records_of places) entry =
    subst (λ (es : List Entry). IsLegal (IsBetween begin first now) begin.plan (after_all begin.start es)
    (records_of places) entry) same
    (d.works.legal place (made_since begin first now (records_of places) deeds opened d whole place low) entry at) in
    rules_kept (after_first begin.start (entries_in now) k) entry.change kept
    (legal_allowed (IsBetween begin first now) begin.plan (after_first begin.start (entries_in now) k)
    (records_of places) entry plan_is kept legal)))

-- a row of a key is one of the rows, and its word was raised to the key's mark at the start
pub record RowOpened (begin : Begin) (v : View) (key row : ℕ) : Type 0 where
  pub few : row < begin.rows
  pub nexts : top row v.numbers.nexts ≡ mark_of begin.start key
  pub raised : top row v.numbers.raised ≤ mark_of begin.start key

pub row_opened : (begin : Begin) (v w : View) (opened : IsJustOpened begin v) → begin.rows ≡ MOST_KEYS
    → KeepsRules begin.start
    → KeepsRules (after_all begin.start (entries_in w)) → (key row : ℕ) → IsRow begin w key row
    → RowOpened begin v key row
row_opened begin v w opened rows started kept key row is =
    let low =
    (row_named (after_all begin.start (entries_in w)).keys key row
    (record { id = 0; state = PreActive; bytes = []; digest = []; mark = 0; floor = 0 }) is).0 in
    let most = kept.keys.most in
    let same : mark_at begin.start row ≡ mark_of begin.start key =
    mark_known begin.start (entries_in w) key row started is in
    let few : row < begin.rows = omega arith in
    let raised = opened.raised row (omega arith) in
    record {
      few = omega arith;
      nexts = opened.nexts row (omega arith) ∙ same;
      raised = omega arith;
    }

module _ (begin : Begin) (v w : View) (tasks : List Record) (deeds : List Deed) (opened : IsJustOpened begin v)
    (d : Does begin v w tasks deeds)
    (whole : IsWhole begin.rows w) (rows : begin.rows ≡ MOST_KEYS) (started : KeepsRules begin.start)
    (kept : KeepsRules (after_all begin.start (entries_in w))) where
  at_row : (key row : ℕ) → IsRow begin w key row → RowOpened begin v key row
  at_row = row_opened begin v w opened rows started kept

  -- what was between the two views is near
  pub near : (k n : ℕ) → IsBetween begin v w k n → NearWord begin.start (entries_in w) tasks k n
  near k n h =
      let o = row_opened begin v w opened rows started kept k h.row h.row_is in let few = o.few in let low = o.nexts in
      let high = o.raised in
      let (next, r) = whole.rows h.row few in
      let drawn : count_of h.row w.numbers.drawn ≡ count_of h.row d.gains.drawn =
      ap (count_of h.row) (d.gained.drawn ∙ ap (λ (l : List (ℕ × ℕ)). l ++ d.gains.drawn) opened.none_drawn) in
      let raised : top h.row w.numbers.raised ≡ max (top h.row v.numbers.raised) (top h.row d.gains.raised) =
      ap (top h.row) d.gained.raised ∙ top_both h.row v.numbers.raised d.gains.raised in
      let few_drawn = d.works.few_drawn h.row in
      let bound = r.bound in let seen = r.seen in let most = h.most in let least = h.least in
      elim (cases_lt (mark_of begin.start k) (top h.row d.gains.raised)) [
        | inl above ↦
            let asked = top_found (λ (p : ℕ × ℕ). (p.1 ≤ 1) ⊎ IsAsked begin (entries_in w) tasks p.0 p.1) h.row
            d.gains.raised d.works.raised (omega arith) in
            record {
              least = omega arith;
              base = top h.row d.gains.raised;
              is_base = inr (⊎_elim (λ z. absurd (omega arith)) (λ z. asked_for z) asked);
              most = omega arith;
            }
        | inr below ↦ record {
          least = omega arith;
          base = mark_of begin.start k;
          is_base = inl refl;
          most = omega arith;
        }
      ]
    where
      asked_for : IsAsked begin (entries_in w) tasks h.row (top h.row d.gains.raised)
          → IsAskedFor begin.start (entries_in w) tasks k (top h.row d.gains.raised)
      asked_for z =
          let same : z.key ≡ k = row_one (after_all begin.start (entries_in w)).keys z.key k h.row
          (row_kept_first begin.start (entries_in w) z.p z.key h.row z.row_is) h.row_is in
          record {
            p = z.p;
            within = z.within;
            task = z.task;
            there = z.there;
            kind_is = z.is_command;
            asks = subst (λ (key : ℕ). AsksFor (after_first begin.start (entries_in w) z.p) z.task.octets key
                (top h.row d.gains.raised)) same z.asks;
          }

  pub legal : ((i : ℕ) → indexed i tasks ≤ 1)
      → IsHistory (NearWord begin.start (entries_in w) tasks) begin tasks (entries_in w)
  legal few = record {
    each = λ p e there.
        let (place, low, at, same) = place_of_entry (log_of w) p e there in
        legal_wider (IsBetween begin v w) (NearWord begin.start (entries_in w) tasks) near begin.plan begin.start tasks
        tasks (λ t c. c) (after_first begin.start (entries_in w) p) e
        (subst (λ (es : List Entry). IsLegal (IsBetween begin v w) begin.plan (after_all begin.start es) tasks e) same
        (d.works.legal place (made_since begin v w tasks deeds opened d whole place low) e at));
    once = λ p q a b i lt at_p at_q is_a is_b.
        let (x, low_x, here_x, same_x) = place_of_entry (log_of w) p a at_p in
        let (y, low_y, here_y, same_y) = place_of_entry (log_of w) q b at_q in
        let in_p = slice_get_within (entries_in w) p a at_p in
        let in_q = slice_get_within (entries_in w) q b at_q in
        let size_p = length-take p (entries_in w) in
        let size_q = length-take q (entries_in w) in
        let apart : x ≢ y = λ e.
        let z : length (take p (entries_in w)) ≡ length (take q (entries_in w)) =
        ap length (sym same_x) ∙ (ap (λ (n : ℕ). length (entries_of (take n (log_of w)))) e ∙ ap length same_y) in
        omega arith in
        let two = count_two (is_of_record i) (log_of w) x y d.gains.made apart
        (made_since begin v w tasks deeds opened d whole x low_x)
        (made_since begin v w tasks deeds opened d whole y low_y)
        (ap (is_of_record i) here_x ∙ (ap (is_index i) is_a ∙ eq-eqb i i refl))
        (ap (is_of_record i) here_y ∙ (ap (is_index i) is_b ∙ eq-eqb i i refl)) in
        let one = d.works.one_entry i in let f = few i in omega arith;
  }

  -- the numbers used differ, and none is below the key's mark at the start
  pub used_once : AllPairs (λ (a b : Deed). a.task.index < b.task.index) deeds → AllPairs (Differ Uses) deeds
  used_once up i j e lt within k n =
      (d.answers.agree i e (omega arith) j e within).pairs (λ same. let l = up i j e lt within in omega arith) k n

  pub used_above : All (λ (a : Deed). (key number : ℕ) → Uses a.answer key number → mark_of begin.start key ≤ number)
      deeds
  used_above i e l k n u =
      let (row, few, is, in') = d.answers.used i e l k n u in
      let s = d.works.spent row n in
      let low = (d.works.drawn row n (omega arith)).0 in
      let o = (row_opened begin v w opened rows started kept k row is).nexts in omega arith

  pub one_fault : AllPairs (λ (a b : Deed). a.task.index < b.task.index) deeds
      → AllPairs (λ (a b : Deed). a.answer.code ≡ SITE_FAULT → b.answer.code ≢ SITE_FAULT) deeds
  one_fault up i j e lt within =
      (d.answers.agree i e (omega arith) j e within).faults (λ same. let l = up i j e lt within in omega arith)

  pub order : AllPairs (λ (a b : Deed). a.task.index < b.task.index) deeds
      → AllPairs (λ (a b : Deed). InTurn a b → StandsBehind begin (entries_in w) a b) deeds
  order up i j e lt within turn = (d.answers.agree i e (omega arith) j e within).order (up i j e lt within) turn

  -- no entry is of a record whose answer says that none was made
  pub none_made : ((i : ℕ) → indexed i tasks ≤ 1)
      → All (λ (a : Deed). IsUnmade a.answer.code → HasNoEntry (entries_in w) a.task.index) deeds
  none_made few k e l code p entry there is =
      let index : ℕ = (slice_index_or deeds k e).task.index in
      let (place, low, at, same) = place_of_entry (log_of w) p entry there in
      let one = count_one (is_of_record index) (log_of w) place d.gains.made
      (made_since begin v w tasks deeds opened d whole place low)
      (ap (is_of_record index) at ∙ (ap (is_index index) is ∙ eq-eqb index index refl)) in
      let less = d.unmade k e l code in let alone = few index in omega arith

  -- each answer fits its record, by the numbers that are near in the whole run
  pub answers_fit : All (λ (a : Deed). Fits (NearWord begin.start (entries_in w) tasks) (course_in begin w) a.task
      a.answer) deeds
  answers_fit i e l =
      let a : Deed = slice_index_or deeds i e in
      let c : Course = course_in begin w in
      let more : Fits (NearWord begin.start (entries_in w) tasks) (record c { entries = c.entries ++ [] }) a.task
      a.answer =
      fits_more (IsBetween begin v w) (NearWord begin.start (entries_in w) tasks) near c.begin c.faults_before c.faults
      c.faults
      c.entries [] (omega arith) (λ r. ap length (append-nil c.entries)) a.task a.answer (d.answers.fit i e l) in
      subst (λ (es : List Entry). Fits (NearWord begin.start (entries_in w) tasks) (record c { entries = es }) a.task
      a.answer) (append-nil c.entries) more
