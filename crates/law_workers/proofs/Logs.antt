-- What stays so of the lines of a log while it grows.
use Rattle.std.proofs.Common.{◌≡◌, ℕ, zero, suc, ◌+◌, ◌<◌, ◌≤◌, List, [], ◌∷◌, ◌++◌, length, take, Option, Bool, IsTrue}
use Rattle.std.proofs.Common.{true, false, refl, sym, ◌∙◌, ap, inl, inr, arith, eq-eqb, eqb, ◌≢◌, subst, if◌then◌else◌}
use Rattle.std.proofs.Common.{◌&&◌, ◌||◌}
use Rattle.std.specs.List.{slice_get, Contains}
use Rattle.std.proofs.lemmas.List.{take-append-le}
use Rattle.std.proofs.lemmas.Bool.{cases_lt, cases_eq}
use Rattle.std.proofs.lemmas.Bool.Decides.{nat_tests}
use Rattle.sdls_base.specs.Numbers.{tally}
use Rattle.sdls_base.specs.declared.entry.Entry.{Entry}
use Rattle.sdls_base.specs.declared.entry.Logged.{Logged}
use Rattle.sdls_base.specs.declared.entry.Logged.TheVariants as lines
use Rattle.counter_table.specs.Known.{pieces}
use Rattle.counter_table.specs.Turn.{stands}
use Rattle.counter_table.specs.Numbers.{count_of}
use Rattle.record_io.specs.declared.item_cursor.Record.{Record}
use Rattle.record_io.specs.declared.reader.RecordKind.{RecordKind}
use Rattle.record_io.specs.declared.reader.RecordKind.TheVariants.{Protect, Open, Command, Monitor}
use Rattle.unit_plan.specs.PlanLines.{PlanLines}
use Rattle.unit_state.specs.declared.state.State.{State}
use Rattle.unit_state.specs.History.{after_all, epoch_after}
use Rattle.run_promise.specs.Log.{entries_of}
use Rattle.run_promise.specs.History.{IsLegal, drawers}
use Rattle.law_history.specs.Entries.{IsLegalAt}
use Rattle.law_workers.specs.Counts.{count_at}
use Rattle.law_workers.specs.Work.{indexed}
use Rattle.run_promise.specs.Deed.{is_entered, is_protected}
use Rattle.law_workers.specs.Deeds.{IsLastAt}
use Rattle.law_workers.proofs.Histories.{get_front}
use Rattle.law_workers.proofs.Fitting.{seen_nearer}

-- what stands behind the same front is the same
pub same_behind : {X : Type 0} (front one other : List X) → front ++ one ≡ front ++ other → one ≡ other
same_behind [] one other is = is
same_behind {X} (x ∷ front) one other is = same_behind front one other (ap rest is)
  where
    rest : List X → List X
    rest [] = []
    rest (y ∷ ys) = ys

pub stands_both : (x : ℕ) (a b : List ℕ) → stands x (a ++ b) ≡ stands x a + stands x b
stands_both x [] b = omega arith
stands_both x (y ∷ a) b = let h = stands_both x a b in omega arith

pub times_both : (row x : ℕ) (a b : List (ℕ × ℕ)) → tally row x (a ++ b) ≡ tally row x a + tally row x b
times_both row x [] b = omega arith
times_both row x (p ∷ a) b = let h = times_both row x a b in omega arith

pub count_of_both : (row : ℕ) (a b : List (ℕ × ℕ)) → count_of row (a ++ b) ≡ count_of row a + count_of row b
count_of_both row [] b = omega arith
count_of_both row (p ∷ a) b = let h = count_of_both row a b in omega arith

pub drawers_both : (a b : List Record) → drawers (a ++ b) ≡ drawers a + drawers b
drawers_both [] b = omega arith
drawers_both (t ∷ a) b = let h = drawers_both a b in omega arith

pub indexed_both : (i : ℕ) (a b : List Record) → indexed i (a ++ b) ≡ indexed i a + indexed i b
indexed_both i [] b = omega arith
indexed_both i (t ∷ a) b = let h = indexed_both i a b in omega arith

pub count_at_both : (test : Option Logged → Bool) (log : List Logged) (a b : List ℕ)
    → count_at test log (a ++ b) ≡ count_at test log a + count_at test log b
count_at_both test log [] b = omega arith
count_at_both test log (p ∷ a) b = let h = count_at_both test log a b in omega arith

pub piece_count_both : (a b : List Logged) → pieces (a ++ b) ≡ pieces a + pieces b
piece_count_both [] b = omega arith
piece_count_both (line ∷ a) b = let h = piece_count_both a b in omega arith

pub stands_head : (p : ℕ) (places : List ℕ) → 0 < stands p (p ∷ places)
stands_head p places = rw (eq-eqb p p refl) (omega arith)

pub stands_tail : (p x : ℕ) (places : List ℕ) → 0 < stands x places → 0 < stands x (p ∷ places)
stands_tail p x places h = omega arith

pub more_stands : (p x : ℕ) (places : List ℕ) → eqb p x ≡ false → 0 < stands x (p ∷ places) → 0 < stands x places
more_stands p x places f h = let k : 0 < (if false then 1 else 0) + stands x places =
    subst (λ (b : Bool). 0 < (if b then 1 else 0) + stands x places) f h in omega arith

-- a place that is among others is one of those that the test takes
pub count_one : (test : Option Logged → Bool) (log : List Logged) (x : ℕ) (places : List ℕ) → 0 < stands x places
    → test (slice_get log x) ≡ true → 1 ≤ count_at test log places
count_one test log x [] a s = absurd (omega arith)
count_one test log x (p ∷ places) a s = elim (cases_eq p x) [
  | inl is ↦ let t : test (slice_get log p) ≡ true = ap (λ (z : ℕ). test (slice_get log z)) is ∙ s in rw t (omega arith)
  | inr off ↦ let f : eqb p x ≡ false = grind (arith, nat_tests) in
      let a' : 0 < stands x places = more_stands p x places f a in
      let h = count_one test log x places a' s in omega arith
]

pub count_two : (test : Option Logged → Bool) (log : List Logged) (x y : ℕ) (places : List ℕ) → x ≢ y
    → 0 < stands x places → 0 < stands y places
    → test (slice_get log x) ≡ true → test (slice_get log y) ≡ true → 2 ≤ count_at test log places
count_two test log x y [] apart a b s t = absurd (omega arith)
count_two test log x y (p ∷ places) apart a b s t = elim (cases_eq p x) [
  | inl is ↦
      let f : eqb p y ≡ false = let off : p ≢ y = λ e. apart (sym is ∙ e) in grind (arith, nat_tests) in
      let b' : 0 < stands y places = more_stands p y places f b in
      let h = count_one test log y places b' t in
      let s' : test (slice_get log p) ≡ true = ap (λ (z : ℕ). test (slice_get log z)) is ∙ s in rw s' (omega arith)
  | inr off ↦
      let f : eqb p x ≡ false = grind (arith, nat_tests) in
      let a' : 0 < stands x places = more_stands p x places f a in
      elim (cases_eq p y) [
        | inl is ↦
            let h = count_one test log x places a' s in
            let t' : test (slice_get log p) ≡ true = ap (λ (z : ℕ). test (slice_get log z)) is ∙ t in
            rw t' (omega arith)
        | inr off' ↦
            let g : eqb p y ≡ false = grind (arith, nat_tests) in
            let b' : 0 < stands y places = more_stands p y places g b in
            let h = count_two test log x y places apart a' b' s t in omega arith
      ]
]

pub count_kept : (test : Option Logged → Bool) (log rest : List Logged) (places : List ℕ)
    → ((x : ℕ) → 0 < stands x places → x < length log) → count_at test (log ++ rest) places ≡ count_at test log places
count_kept test log rest [] low = refl
count_kept test log rest (p ∷ places) low =
    let h = count_kept test log rest places (λ x in'. low x (stands_tail p x places in')) in
    rw (get_front log rest p (low p (stands_head p places)), h) refl

-- an entry stays legal where more is known to be near, and among more records
module _ (near far : ℕ → ℕ → Type 0) (more : (k n : ℕ) → near k n → far k n) (plan : PlanLines) (start : State)
    (tasks others : List Record)
    (wider : (t : Record) → Contains tasks t → Contains others t) where
  pub legal_wider : (s : State) (e : Entry) → IsLegal near plan s tasks e → IsLegal far plan s others e
  legal_wider s e (inl h) = inl (record {
    task = h.task;
    there = wider h.task h.there;
    kind_is = h.kind_is;
    reply = h.reply;
    field = h.field;
    replies = h.replies;
    entry_is = h.entry_is;
  })
  legal_wider s e (inr (inl h)) = inr (inl (record {
    task = h.task;
    there = wider h.task h.there;
    kind_is = h.kind_is;
    index_is = h.index_is;
    reply = h.reply;
    sees = h.sees;
    step = h.step;
    is_near = λ k o. seen_nearer near far more k e.seen (h.is_near k o);
  }))
  legal_wider s e (inr (inr h)) = inr (inr (record {
    key = h.key;
    number = h.number;
    there = h.there;
    is_near = more h.key h.number h.is_near;
    unmarked = h.unmarked;
    below = h.below;
    entry_is = h.entry_is;
  }))

  pub legal_more : (log rest : List Logged) (place : ℕ) → place < length log → IsLegalAt near plan start tasks log place
      → IsLegalAt far plan start others (log ++ rest) place
  legal_more log rest place low h e there =
      let low' : place ≤ length log = omega arith in
      rw (take-append-le place log rest low')
      (legal_wider (after_all start (entries_of (take place log))) e (h e (sym (get_front log rest place low) ∙ there)))

-- the epoch that an ordered answer tells stays
pub told_kept : (kind : RecordKind) (c h : Bool) (p : ℕ) (es rest : List Entry)
    → (IsTrue (is_entered kind && c) → p ≤ length es)
    → IsTrue ((is_entered kind && c) || (is_protected kind && h))
    → (if is_protected kind then p else epoch_after (take p (es ++ rest)))
    ≡ (if is_protected kind then p else epoch_after (take p es))
told_kept Protect c h p es rest low ordered = refl
told_kept Open true h p es rest low ordered = ap epoch_after (take-append-le p es rest (low ordered))
told_kept Open false h p es rest low ordered = (let o : false ≡ true = ordered in cc)
told_kept Command true h p es rest low ordered = ap epoch_after (take-append-le p es rest (low ordered))
told_kept Command false h p es rest low ordered = (let o : false ≡ true = ordered in cc)
told_kept Monitor c h p es rest low ordered = (let o : false ≡ true = ordered in cc)

-- the entries before a place
pub entries_low : (log : List Logged) (p q : ℕ) → p ≤ q → length (entries_of (take p log))
    ≤ length (entries_of (take q log))
entries_low [] zero zero h = omega arith
entries_low [] zero (suc q) h = omega arith
entries_low [] (suc p) zero h = absurd (omega arith)
entries_low [] (suc p) (suc q) h = omega arith
entries_low (x ∷ log) zero q h = omega arith
entries_low (x ∷ log) (suc p) zero h = absurd (omega arith)
entries_low (lines.Entry e ∷ log) (suc p) (suc q) h = let k = entries_low log p q (omega arith) in omega arith
entries_low (lines.Piece e ∷ log) (suc p) (suc q) h = entries_low log p q (omega arith)

pub last_once : (log : List Logged) (p q : ℕ) → IsLastAt log p → IsLastAt log q → p ≡ q
last_once log p q a b = elim (cases_lt p q) [
  | inl lt ↦ let h = entries_low log (p + 1) q (omega arith) in absurd (omega (arith, a.0, a.1, b.0, b.1))
  | inr ge ↦ elim (cases_lt q p) [
    | inl lt ↦ let h = entries_low log (q + 1) p (omega arith) in absurd (omega (arith, a.0, a.1, b.0, b.1))
    | inr le ↦ omega arith
  ]
]

-- once no entry comes any more
pub last_kept : (log rest : List Logged) (p : ℕ) → p < length log
    → length (entries_of (log ++ rest)) ≡ length (entries_of log) → IsLastAt log p → IsLastAt (log ++ rest) p
last_kept log rest p low same h =
    let low' : p ≤ length log = omega arith in
    let low'' : p + 1 ≤ length log = omega arith in
    rw (take-append-le p log rest low', take-append-le (p + 1) log rest low'', same) h
