-- Records of one segment, handled one after the other and at once.
use Rattle.std.proofs.Common.{◌≡◌, ◌≢◌, ◌⊎◌, ℕ, suc, Bool, ◌+◌, ◌<◌, ◌≤◌, List, [], ◌∷◌, ◌++◌, length, true, false}
use Rattle.std.proofs.Common.{refl, sym, ◌∙◌, subst, inl, inr, arith, length-append, eqb, if◌then◌else◌}
use Rattle.std.specs.List.{Contains, All}
use Rattle.std.proofs.lemmas.List.Elements.{All-contains}
use Rattle.std.proofs.lemmas.Bool.{cases_eq}
use Rattle.std.proofs.lemmas.Bool.Decides.{nat_tests}
use Rattle.sdls_base.specs.declared.entry.Logged.{Logged}
use Rattle.counter_table.specs.declared.view.View.{View}
use Rattle.counter_table.specs.Turn.{stands}
use Rattle.record_io.specs.declared.item_cursor.Record.{Record}
use Rattle.law_workers.specs.Counts.{is_of_record, count_at}
use Rattle.run_promise.specs.History.{drawers}
use Rattle.run_promise.specs.Call.{Begin}
use Rattle.law_workers.specs.Views.{Gains, keeping, starting, meeting, Meets, log_of}
use Rattle.law_workers.specs.Work.{indexed}
use Rattle.run_promise.specs.Deed.{Deed}
use Rattle.law_workers.specs.Deeds.{AllBoth, AtOnce}
use Rattle.law_workers.specs.Order.{Layout, TakeTurns, LiesIn, Lined, ComeBefore, AreAside, Handled}
use Rattle.law_workers.proofs.Logs.{count_kept, drawers_both}
use Rattle.law_workers.proofs.Joining.{does_nothing, nothing_gains, does_then, then_gains, does_beside, beside_gains}
use Rattle.law_workers.proofs.Ordering.{lined_on, lined_then, lined_beside}

pub handled_nothing : (layout : Layout) (begin : Begin) (v : View) (tasks : List Record)
    → Handled layout begin v v tasks []
handled_nothing layout begin v tasks = record {
  does = does_nothing begin v tasks;
  lined = subst (λ (g : Gains). Lined (TakeTurns layout) (log_of v) g.made (length tasks + drawers tasks) 0)
      (sym (nothing_gains begin v tasks)) (record {
        in_order = λ x y i j a b is_i is_j lt turn. absurd (omega arith);
        few_entries = omega arith;
        few_pieces = omega arith;
      });
}

-- so many entries at most
many : (in_turn : ℕ → ℕ → Type 0) (log : List Logged) (made : List ℕ) (ts us : List Record)
    → Lined in_turn log made ((length ts + drawers ts) + (length us + drawers us)) (0 + 0)
    → Lined in_turn log made (length (ts ++ us) + drawers (ts ++ us)) 0
many in_turn log made ts us h = record {
  in_order = h.in_order;
  few_entries = let a = h.few_entries in let l = length-append ts us in let d = drawers_both ts us in omega arith;
  few_pieces = let a = h.few_pieces in omega arith;
}

module _ (layout : Layout) (begin : Begin) where
  pub handled_then : (u v w : View) (ts us : List Record) (ds es : List Deed) → Handled layout begin u v ts ds
      → Handled layout begin v w us es
      → ComeBefore ts us → AllBoth (λ (d e : Deed). d.task.index < e.task.index) ds es
      → Handled layout begin u w (ts ++ us) (ds ++ es)
  handled_then u v w ts us ds es a b come turns =
      let rest : List Logged = b.does.grows.earlier.log.0 in
      let log_is : log_of w ≡ log_of v ++ rest = b.does.grows.earlier.log.1 in
      let m : List ℕ = a.does.gains.made in let n : List ℕ = b.does.gains.made in
      let below : (x : ℕ) → 0 < stands x m → x < length (log_of v) = λ x h. (a.does.works.made x h).1 in
      let first : Lined (TakeTurns layout) (log_of w) m (length ts + drawers ts) 0 =
      subst (λ (l : List Logged). Lined (TakeTurns layout) l m (length ts + drawers ts) 0) (sym log_is)
      (lined_on (TakeTurns layout) (log_of v) rest m (length ts + drawers ts) 0 below a.lined) in
      let of_first : (i : ℕ) → count_at (is_of_record i) (log_of w) m ≤ indexed i ts =
      λ i. subst (λ (l : List Logged). count_at (is_of_record i) l m ≤ indexed i ts) (sym log_is)
      (let c = count_kept (is_of_record i) (log_of v) rest m below in let o = a.does.works.one_entry i in
      omega arith) in
      record {
        does = does_then begin u v w ts us ds es a.does b.does turns;
        lined = subst (λ (g : Gains). Lined (TakeTurns layout) (log_of w) g.made
            (length (ts ++ us) + drawers (ts ++ us)) 0)
            (sym (then_gains begin u v w ts us ds es a.does b.does turns))
            (many (TakeTurns layout) (log_of w) (m ++ n) ts us
            (lined_then (TakeTurns layout) (log_of w) ts us m n (length ts + drawers ts) 0 (length us + drawers us) 0
            of_first (λ i. b.does.works.one_entry i)
            (length (log_of v)) below (λ x h. (b.does.works.made x h).0) come first b.lined));
      }

  pub handled_beside : (u v w : View) (ts us : List Record) (ds es : List Deed)
      → Handled layout begin (keeping u) v ts ds
      → Handled layout begin (starting u) w us es → 1 < u.numbers.shares → u.turn.holds ≡ false → u.turn.filled ≡ true
      → Meets begin.rows v w
      → AreAside (TakeTurns layout) ts us → AllBoth AtOnce ds es
      → Handled layout begin u (meeting v w) (ts ++ us) (ds ++ es)
  handled_beside u v w ts us ds es a b two free filled meet aside lanes =
      let z : View = meeting v w in
      let more : List Logged = meet.earlier.log.0 in let rest : List Logged = meet.other_earlier.log.0 in
      let log_is : log_of z ≡ log_of v ++ more = meet.earlier.log.1 in
      let log_too : log_of z ≡ log_of w ++ rest = meet.other_earlier.log.1 in
      let m : List ℕ = a.does.gains.made in let n : List ℕ = b.does.gains.made in
      let below : (x : ℕ) → 0 < stands x m → x < length (log_of v) = λ x h. (a.does.works.made x h).1 in
      let below_too : (x : ℕ) → 0 < stands x n → x < length (log_of w) = λ x h. (b.does.works.made x h).1 in
      let first : Lined (TakeTurns layout) (log_of z) m (length ts + drawers ts) 0 =
      subst (λ (l : List Logged). Lined (TakeTurns layout) l m (length ts + drawers ts) 0) (sym log_is)
      (lined_on (TakeTurns layout) (log_of v) more m (length ts + drawers ts) 0 below a.lined) in
      let second : Lined (TakeTurns layout) (log_of z) n (length us + drawers us) 0 =
      subst (λ (l : List Logged). Lined (TakeTurns layout) l n (length us + drawers us) 0) (sym log_too)
      (lined_on (TakeTurns layout) (log_of w) rest n (length us + drawers us) 0 below_too b.lined) in
      let of_first : (i : ℕ) → count_at (is_of_record i) (log_of z) m ≤ indexed i ts =
      λ i. subst (λ (l : List Logged). count_at (is_of_record i) l m ≤ indexed i ts) (sym log_is)
      (let c = count_kept (is_of_record i) (log_of v) more m below in let o = a.does.works.one_entry i in
      omega arith) in
      let of_second : (i : ℕ) → count_at (is_of_record i) (log_of z) n ≤ indexed i us =
      λ i. subst (λ (l : List Logged). count_at (is_of_record i) l n ≤ indexed i us) (sym log_too)
      (let c = count_kept (is_of_record i) (log_of w) rest n below_too in let o = b.does.works.one_entry i in
      omega arith) in
      record {
        does = does_beside begin u v w ts us ds es a.does b.does two free filled meet lanes;
        lined = subst (λ (g : Gains). Lined (TakeTurns layout) (log_of z) g.made
            (length (ts ++ us) + drawers (ts ++ us)) 0)
            (sym (beside_gains begin u v w ts us ds es a.does b.does two free filled meet lanes))
            (many (TakeTurns layout) (log_of z) (m ++ n) ts us
            (lined_beside (TakeTurns layout) (log_of z) ts us m n (length ts + drawers ts) 0 (length us + drawers us) 0
            of_first of_second aside first second));
      }

-- an index that stands among records is one's
pub record_indexed : (i : ℕ) (ts : List Record) → 0 < indexed i ts → (t : Record) × Contains ts t × (t.index ≡ i)
record_indexed i [] h = absurd (omega arith)
record_indexed i (t ∷ ts) h = elim (cases_eq t.index i) [
  | inl is ↦ (t, (0, omega arith, refl), is)
  | inr off ↦
      let f : eqb t.index i ≡ false = grind (arith, nat_tests) in
      let k : 0 < (if false then 1 else 0) + indexed i ts =
      subst (λ (b : Bool). 0 < (if b then 1 else 0) + indexed i ts) f h in
      let (u, (p, low, is), same) = record_indexed i ts (omega arith) in (u, (suc p, omega arith, is), same)
]

-- records of one segment on different lanes are not handled in turn
pub set_aside : (layout : Layout) (s : ℕ) (tasks ts us : List Record) → LiesIn layout s tasks → All (Contains tasks) ts
    → All (Contains tasks) us
    → ((t u : Record) → Contains ts t → Contains us u → t.lane ≢ u.lane) → AreAside (TakeTurns layout) ts us
set_aside layout s tasks ts us lies in_ts in_us apart i j a b =
    let (t, there, is) = record_indexed i ts a in let (u, there', is') = record_indexed j us b in
    let of_t = lies t (All-contains (Contains tasks) ts t in_ts there) in
    let of_u = lies u (All-contains (Contains tasks) us u in_us there') in
    let lane_t : layout.lane_of i ≡ t.lane = subst (λ (n : ℕ). layout.lane_of n ≡ t.lane) is of_t.0 in
    let lane_u : layout.lane_of j ≡ u.lane = subst (λ (n : ℕ). layout.lane_of n ≡ u.lane) is' of_u.0 in
    let segment_t : layout.segment_of i ≡ s = subst (λ (n : ℕ). layout.segment_of n ≡ s) is of_t.1 in
    let segment_u : layout.segment_of j ≡ s = subst (λ (n : ℕ). layout.segment_of n ≡ s) is' of_u.1 in
    let off : t.lane ≢ u.lane = apart t u there there' in
    (one off lane_t lane_u segment_t segment_u, two off lane_t lane_u segment_t segment_u)
  where
    one : {p q a b c d e : ℕ} → p ≢ q → a ≡ p → b ≡ q → c ≡ e → d ≡ e → (a ≡ b) ⊎ (c ≢ d) → ⊥
    one off la lb sc sd (inl same) = off (sym la ∙ (same ∙ lb))
    one off la lb sc sd (inr other) = other (sc ∙ sym sd)

    two : {p q a b c d e : ℕ} → p ≢ q → a ≡ p → b ≡ q → c ≡ e → d ≡ e → (b ≡ a) ⊎ (d ≢ c) → ⊥
    two off la lb sc sd (inl same) = off (sym la ∙ (sym same ∙ lb))
    two off la lb sc sd (inr other) = other (sd ∙ sym sc)
