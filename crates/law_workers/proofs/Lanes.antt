-- A worker that takes in all lanes handled their records.
use Rattle.std.proofs.Common.{◌≡◌, ◌≢◌, ℕ, suc, ◌+◌, ◌<◌, ◌≤◌, eqb, List, [], ◌∷◌, ◌++◌, length, Bool, true, false}
use Rattle.std.proofs.Common.{cond, refl, sym, ◌∙◌, ap, subst, arith, append_assoc, append-nil, if◌then◌else◌, ◌||◌}
use Rattle.std.specs.List.{Contains, All, AllPairs, slice_index_or}
use Rattle.std.proofs.lemmas.Bool.Decides.{nat_tests}
use Rattle.std.proofs.lemmas.List.Elements.{All-nil, All-cons, All-append, All-filter, All-contains}
use Rattle.std.proofs.lemmas.List.Elements.{All-contains_itself}
use Rattle.counter_table.specs.declared.view.View.{View}
use Rattle.record_io.specs.declared.item_cursor.Record.{Record}
use Rattle.record_io.specs.declared.answers.Answer.{Answer}
use Rattle.run_promise.specs.History.{draws, drawers}
use Rattle.run_promise.specs.Call.{Begin}
use Rattle.law_workers.specs.Views.{Gains, KnowsMore, IsBetween, starting, keeping, meeting, Meets}
use Rattle.law_workers.specs.Work.{Works, indexed}
use Rattle.run_promise.specs.Deed.{Deed, deed_of}
use Rattle.law_workers.specs.Deeds.{Does, deeds_of, AtOnce, AllBoth}
use Rattle.law_workers.specs.Order.{Layout, LiesIn, Handled}
use Rattle.law_workers.specs.Lanes.{is_of_lane, of_lane, giving_shares, Part, DidPart, meeting_all, MeetAll}
use Rattle.law_workers.specs.Lanes.{parts_deeds, parts_tasks}
use Rattle.law_workers.proofs.Logs.{legal_wider}
use Rattle.law_workers.proofs.Working.{raised_among, reorder, unmade_among}
use Rattle.law_workers.proofs.Joining.{top_both, grows_itself, grows_further, known_after}
use Rattle.law_workers.proofs.Handling.{handled_nothing, handled_beside, set_aside}

-- each answered record of a lane is of the lane, and of the segment
abbrev IsOf : ℕ → ℕ → Deed → Type 0
IsOf segment number deed = (deed.segment ≡ segment) × (deed.task.lane ≡ number)

deeds_are : (s n : ℕ) (ts : List Record) (xs : List Answer)
    → All (λ (d : Deed). IsOf s n d) (deeds_of s (of_lane n ts) xs)
deeds_are s n [] xs = All-nil (λ (d : Deed). IsOf s n d)
deeds_are s n (t ∷ ts) xs = go (is_of_lane n t) refl xs (λ ys. deeds_are s n ts ys)
  where
    go : (b : Bool) → is_of_lane n t ≡ b → (ys : List Answer)
        → ((zs : List Answer) → All (λ (d : Deed). IsOf s n d) (deeds_of s (of_lane n ts) zs))
        → All (λ (d : Deed). IsOf s n d) (deeds_of s (cond b (t ∷ of_lane n ts) (of_lane n ts)) ys)
    go false is ys rest = rest ys
    go true is [] rest = All-nil (λ (d : Deed). IsOf s n d)
    go true is (y ∷ ys) rest = let own : t.lane ≡ n = grind (arith, nat_tests) in
        All-cons (λ (d : Deed). IsOf s n d) (deed_of s t y) (deeds_of s (of_lane n ts) ys) (refl, own) (rest ys)

pub tasks_are : (n : ℕ) (ts : List Record) → All (λ (t : Record). t.lane ≡ n) (of_lane n ts)
tasks_are n [] = All-nil (λ (t : Record). t.lane ≡ n)
tasks_are n (t ∷ ts) = go (is_of_lane n t) refl (tasks_are n ts)
  where
    go : (b : Bool) → is_of_lane n t ≡ b → All (λ (t : Record). t.lane ≡ n) (of_lane n ts)
        → All (λ (t : Record). t.lane ≡ n) (cond b (t ∷ of_lane n ts) (of_lane n ts))
    go false is rest = rest
    go true is rest = let own : t.lane ≡ n = grind (arith, nat_tests) in
        All-cons (λ (t : Record). t.lane ≡ n) t (of_lane n ts) own rest

pub of_lane_within : (n : ℕ) (tasks : List Record) → All (Contains tasks) (of_lane n tasks)
of_lane_within n tasks = All-filter (is_of_lane n) (Contains tasks) tasks (All-contains_itself tasks)

-- the answered records are of the segment and of none of these lanes, and so are the records
abbrev AreElsewhere : ℕ → List Part → List Deed → Type 0
AreElsewhere s parts deeds = All (λ (d : Deed). (d.segment ≡ s) × All (λ (p : Part). d.task.lane ≢ p.number) parts)
    deeds

abbrev AreOther : List Record → List Part → List Record → Type 0
AreOther tasks parts ts = All (λ (t : Record). Contains tasks t × All (λ (p : Part). t.lane ≢ p.number) parts) ts

module _ (layout : Layout) (begin : Begin) (base : View) (s : ℕ) (tasks : List Record) (lies : LiesIn layout s tasks)
    (free : base.turn.holds ≡ false)
    (filled : base.turn.filled ≡ true) where
  all_joined : (parts : List Part) (now : View) (ts : List Record) (ds : List Deed) → length parts < base.numbers.shares
      → Handled layout begin (giving_shares (length parts) base) now ts ds
      → All (DidPart layout begin base s tasks) parts → MeetAll begin.rows now parts
      → AreElsewhere s parts ds → AreOther tasks parts ts → AllPairs (λ (p q : Part). p.number ≢ q.number) parts
      → Handled layout begin base (meeting_all now parts) (ts ++ parts_tasks tasks parts)
      (ds ++ parts_deeds s tasks parts)
  all_joined [] now ts ds few x did meet elsewhere other apart =
      let same : giving_shares 0 base ≡ base =
      ap (λ (n : ℕ). record { numbers = record base.numbers { shares = n }; turn = base.turn }) (omega arith) in
      subst (λ (l : List Record). Handled layout begin base now l (ds ++ [])) (sym (append-nil ts))
      (subst (Handled layout begin base now ts) (sym (append-nil ds))
      (subst (λ (v : View). Handled layout begin v now ts ds) same x))
  all_joined (p ∷ parts) now ts ds few x did meet elsewhere other apart =
      let u : View = giving_shares (length parts) base in
      let us : List Record = of_lane p.number tasks in
      let es : List Deed = deeds_of s us p.answers in
      let same : giving_shares (suc (length parts)) base ≡ keeping u =
      ap (λ (n : ℕ). record { numbers = record base.numbers { shares = n }; turn = base.turn }) (omega arith) in
      let here : Handled layout begin (keeping u) now ts ds =
      subst (λ (v : View). Handled layout begin v now ts ds) same x in
      let there : Handled layout begin (starting u) p.knows us es = did 0 p (omega arith) in
      let own : All (λ (d : Deed). IsOf s p.number d) es = deeds_are s p.number tasks p.answers in
      let lane : All (λ (t : Record). t.lane ≡ p.number) us = tasks_are p.number tasks in
      let at_once : AllBoth AtOnce ds es = λ i d l j e m.
      let a = elsewhere i d l in let b = own j e m in let c = a.1 0 p (omega arith) in
      (λ k. c (k ∙ b.1), a.0 ∙ sym b.0) in
      let aside = set_aside layout s tasks ts us lies (λ i d l. (other i d l).0) (of_lane_within p.number tasks)
      (λ t r c c' k.
      let a = All-contains (λ (t : Record). Contains tasks t × All (λ (p : Part). t.lane ≢ p.number) (p ∷ parts)) ts t
      other c in
      let b = All-contains (λ (t : Record). t.lane ≡ p.number) us r lane c' in a.1 0 p (omega arith) (k ∙ b)) in
      let both : Handled layout begin u (meeting now p.knows) (ts ++ us) (ds ++ es) =
      handled_beside layout begin u now p.knows ts us ds es here there (omega arith) free filled meet.0 aside at_once in
      let elsewhere' : AreElsewhere s parts (ds ++ es) =
      All-append (λ (d : Deed). (d.segment ≡ s) × All (λ (q : Part). d.task.lane ≢ q.number) parts) ds es
      (λ i d l. let a = elsewhere i d l in (a.0, λ k q h. a.1 (suc k) q (omega arith)))
      (λ j e m. let b = own j e m in
      (b.0, λ k q h. let c = apart 0 (suc k) q (omega arith) (omega arith) in λ z. c (sym b.1 ∙ z))) in
      let other' : AreOther tasks parts (ts ++ us) =
      All-append (λ (t : Record). Contains tasks t × All (λ (q : Part). t.lane ≢ q.number) parts) ts us
      (λ i d l. let a = other i d l in (a.0, λ k q h. a.1 (suc k) q (omega arith)))
      (λ j e m. let b = lane j e m in (
        of_lane_within p.number tasks j e m,
        λ k q h. let c = apart 0 (suc k) q (omega arith) (omega arith) in
            λ z. c (sym b ∙ z),
      )) in
      let rest = all_joined parts (meeting now p.knows) (ts ++ us) (ds ++ es) (omega arith) both
      (λ k q h. did (suc k) q (omega arith)) meet.1 elsewhere' other'
      (λ i j q lt h. apart (suc i) (suc j) q (omega arith) (omega arith)) in
      subst (λ (l : List Record). Handled layout begin base (meeting_all (meeting now p.knows) parts) l
      (ds ++ (es ++ parts_deeds s tasks parts)))
      (append_assoc ts us (parts_tasks tasks parts))
      (subst (Handled layout begin base (meeting_all (meeting now p.knows) parts)
      ((ts ++ us) ++ parts_tasks tasks parts))
      (append_assoc ds es (parts_deeds s tasks parts)) rest)

-- what each lane's worker knew, the worker knows that took them in
module _ (begin : Begin) where
  grows_left : (v w : View) → v.turn.holds ≡ false → v.turn.filled ≡ true → Meets begin.rows v w
      → KnowsMore v (meeting v w)
  grows_left v w free filled meet = record {
    nexts = λ r. let t = top_both r v.numbers.nexts w.numbers.nexts in omega arith;
    earlier = meet.earlier;
    opening = ap (λ k. k.opening) (known_after v w free filled);
    epochs = let c = ap (λ k. k.changes) (known_after v w free filled) in omega arith;
  }

  grows_right : (v w : View) → v.turn.holds ≡ false → v.turn.filled ≡ true → w.turn.known.opening ≡ v.turn.known.opening
      → Meets begin.rows v w
      → KnowsMore w (meeting v w)
  grows_right v w free filled same meet = record {
    nexts = λ r. let t = top_both r v.numbers.nexts w.numbers.nexts in omega arith;
    earlier = meet.other_earlier;
    opening = ap (λ k. k.opening) (known_after v w free filled) ∙ sym same;
    epochs = let c = ap (λ k. k.changes) (known_after v w free filled) in omega arith;
  }

  -- the worker's own knowledge
  grows_all : (now : View) (parts : List Part) → now.turn.holds ≡ false → now.turn.filled ≡ true
      → MeetAll begin.rows now parts → KnowsMore now (meeting_all now parts)
  grows_all now [] free filled meet = grows_itself now
  grows_all now (p ∷ parts) free filled meet =
      grows_further now (meeting now p.knows) (meeting_all (meeting now p.knows) parts)
      (grows_left now p.knows free filled meet.0)
      (grows_all (meeting now p.knows) parts free (ap (λ (b : Bool). b || p.knows.turn.filled) filled) meet.1)

  -- and that of each lane's
  pub lanes_grow : (now : View) (parts : List Part) → now.turn.holds ≡ false → now.turn.filled ≡ true
      → All (λ (p : Part). p.knows.turn.known.opening ≡ now.turn.known.opening) parts → MeetAll begin.rows now parts
      → All (λ (p : Part). KnowsMore p.knows (meeting_all now parts)) parts
  lanes_grow now [] free filled same meet = All-nil (λ (p : Part). KnowsMore p.knows now)
  lanes_grow now (p ∷ parts) free filled same meet =
      let next : View = meeting now p.knows in
      let filled' : next.turn.filled ≡ true = ap (λ (b : Bool). b || p.knows.turn.filled) filled in
      let opening : next.turn.known.opening ≡ now.turn.known.opening =
      ap (λ k. k.opening) (known_after now p.knows free filled) in
      All-cons (λ (q : Part). KnowsMore q.knows (meeting_all next parts)) p parts
      (grows_further p.knows next (meeting_all next parts)
      (grows_right now p.knows free filled (same 0 p (omega arith)) meet.0)
      (grows_all next parts free filled' meet.1))
      (lanes_grow next parts free filled' (λ k d l. same (suc k) d (omega arith) ∙ sym opening) meet.1)

-- the same with other records, that are no fewer
works_among : (begin : Begin) (u v : View) (g : Gains) (ts us : List Record) → drawers ts ≤ drawers us
    → ((i : ℕ) → indexed i ts ≤ indexed i us)
    → ((t : Record) → Contains ts t → Contains us t) → Works begin u v g ts → Works begin u v g us
works_among begin u v g ts us few each wider d =
    let near : ℕ → ℕ → Type 0 = IsBetween begin u v in
    record {
      made = d.made;
      legal = λ p m e there. legal_wider near near (λ k n q. q) begin.plan begin.start ts us wider _ e
          (d.legal p m e there);
      one_entry = λ i. let a = d.one_entry i in let b = each i in omega arith;
      reserves = let a = d.reserves in omega arith;
      few_drawn = λ r. let a = d.few_drawn r in omega arith;
      drawn = d.drawn;
      spent = d.spent;
      raised = λ k e l. raised_among begin u v ts us wider (slice_index_or g.raised k e) (d.raised k e l);
    }

-- a sum over records
abbrev sum_of : (Record → ℕ) → List Record → ℕ
sum_of g [] = 0
sum_of g (t ∷ ts) = g t + sum_of g ts

-- what one record adds to the sums over the lanes
abbrev share : (Record → ℕ) → Record → List Part → ℕ
share g t [] = 0
share g t (p ∷ parts) = (if is_of_lane p.number t then g t else 0) + share g t parts

module _ (g : Record → ℕ) where
  sum_both : (a b : List Record) → sum_of g (a ++ b) ≡ sum_of g a + sum_of g b
  sum_both [] b = omega arith
  sum_both (t ∷ a) b = let h = sum_both a b in omega arith

  sum_lane : (n : ℕ) (t : Record) (ts : List Record) → sum_of g (of_lane n (t ∷ ts))
      ≡ (if is_of_lane n t then g t else 0) + sum_of g (of_lane n ts)
  sum_lane n t ts = go (is_of_lane n t)
    where
      go : (b : Bool) → sum_of g (cond b (t ∷ of_lane n ts) (of_lane n ts)) ≡ (if b then g t else 0)
          + sum_of g (of_lane n ts)
      go true = refl
      go false = omega arith

  sum_parts : (t : Record) (ts : List Record) (parts : List Part)
      → sum_of g (parts_tasks (t ∷ ts) parts) ≡ share g t parts + sum_of g (parts_tasks ts parts)
  sum_parts t ts [] = omega arith
  sum_parts t ts (p ∷ parts) =
      let a = sum_both (of_lane p.number (t ∷ ts)) (parts_tasks (t ∷ ts) parts) in
      let b = sum_both (of_lane p.number ts) (parts_tasks ts parts) in
      let c = sum_lane p.number t ts in let h = sum_parts t ts parts in omega arith

  share_none : (t : Record) (parts : List Part) → All (λ (p : Part). t.lane ≢ p.number) parts → share g t parts ≡ 0
  share_none t [] h = refl
  share_none t (p ∷ parts) h =
      let off : t.lane ≢ p.number = h 0 p (omega arith) in
      let f : is_of_lane p.number t ≡ false = grind (arith, nat_tests) in
      let k = share_none t parts (λ i d l. h (suc i) d (omega arith)) in
      rw f (omega arith)

  share_one : (t : Record) (parts : List Part) → AllPairs (λ (p q : Part). p.number ≢ q.number) parts
      → share g t parts ≤ g t
  share_one t [] h = omega arith
  share_one t (p ∷ parts) h =
      go (is_of_lane p.number t) refl
      (share_one t parts (λ i j d lt l. h (suc i) (suc j) d (omega arith) (omega arith)))
    where
      go : (b : Bool) → is_of_lane p.number t ≡ b → share g t parts ≤ g t
          → (if b then g t else 0) + share g t parts ≤ g t
      go true is k =
          let own : t.lane ≡ p.number = grind (arith, nat_tests) in
          let none = share_none t parts (λ i d l e. h 0 (suc i) d (omega arith) (omega arith) (sym own ∙ e)) in
          omega arith
      go false is k = omega arith

  -- the sums over different lanes are no more than the sum over all
  sum_lanes : (ts : List Record) (parts : List Part) → AllPairs (λ (p q : Part). p.number ≢ q.number) parts
      → sum_of g (parts_tasks ts parts) ≤ sum_of g ts
  sum_lanes [] parts h = let z = none parts in omega arith
    where
      none : (ps : List Part) → sum_of g (parts_tasks [] ps) ≡ 0
      none [] = refl
      none (p ∷ ps) = none ps
  sum_lanes (t ∷ ts) parts h = let a = sum_parts t ts parts in let b = share_one t parts h in
      let c = sum_lanes ts parts h in omega arith

drawers_sum : (ts : List Record) → drawers ts ≡ sum_of (λ (t : Record). if draws t.kind then 1 else 0) ts
drawers_sum [] = refl
drawers_sum (t ∷ ts) = let h = drawers_sum ts in omega arith

indexed_sum : (i : ℕ) (ts : List Record) → indexed i ts ≡ sum_of (λ (t : Record). if eqb t.index i then 1 else 0) ts
indexed_sum i [] = refl
indexed_sum i (t ∷ ts) = let h = indexed_sum i ts in omega arith

-- no more of the lanes' records have a number than of all
pub indexed_lanes : (i : ℕ) (tasks : List Record) (parts : List Part)
    → AllPairs (λ (p q : Part). p.number ≢ q.number) parts
    → indexed i (parts_tasks tasks parts) ≤ indexed i tasks
indexed_lanes i tasks parts apart =
    let a = indexed_sum i (parts_tasks tasks parts) in let b = indexed_sum i tasks in
    let c = sum_lanes (λ (t : Record). if eqb t.index i then 1 else 0) tasks parts apart in omega arith

length_sum : (ts : List Record) → length ts ≡ sum_of (λ (t : Record). 1) ts
length_sum [] = refl
length_sum (t ∷ ts) = let h = length_sum ts in omega arith

parts_within : (tasks : List Record) (parts : List Part) → All (Contains tasks) (parts_tasks tasks parts)
parts_within tasks [] = All-nil (Contains tasks)
parts_within tasks (p ∷ parts) =
    All-append (Contains tasks) (of_lane p.number tasks) (parts_tasks tasks parts) (of_lane_within p.number tasks)
    (parts_within tasks parts)

-- The lanes of a segment, run at once and joined: what was done is of the segment's records, and the answers may stand
-- in any
-- order.
pub lanes_handled : (layout : Layout) (begin : Begin) (base now : View) (s : ℕ) (tasks : List Record)
    (parts : List Part) (deeds : List Deed)
    → LiesIn layout s tasks → length parts < base.numbers.shares → base.turn.holds ≡ false → base.turn.filled ≡ true
    → now ≡ giving_shares (length parts) base
    → All (DidPart layout begin base s tasks) parts → MeetAll begin.rows now parts
    → AllPairs (λ (p q : Part). p.number ≢ q.number) parts
    → All (Contains (parts_deeds s tasks parts)) deeds → Handled layout begin base (meeting_all now parts) tasks deeds
lanes_handled layout begin base now s tasks parts deeds lies few free filled is did meet apart in' =
    let first : Handled layout begin (giving_shares (length parts) base) now [] [] =
    subst (λ (v : View). Handled layout begin v now [] []) is (handled_nothing layout begin now []) in
    let all : Handled layout begin base (meeting_all now parts) (parts_tasks tasks parts) (parts_deeds s tasks parts) =
    all_joined layout begin base s tasks lies free filled parts now [] [] few first did meet
    (λ k d l. absurd (omega arith)) (λ k d l. absurd (omega arith)) apart in
    let d : Does begin base (meeting_all now parts) (parts_tasks tasks parts) (parts_deeds s tasks parts) = all.does in
    let drawn : drawers (parts_tasks tasks parts) ≤ drawers tasks =
    (let a = drawers_sum (parts_tasks tasks parts) in let b = drawers_sum tasks in
    let c = sum_lanes (λ (t : Record). if draws t.kind then 1 else 0) tasks parts apart in omega arith) in
    let each : (i : ℕ) → indexed i (parts_tasks tasks parts) ≤ indexed i tasks =
    λ i. indexed_lanes i tasks parts apart in
    let size : length (parts_tasks tasks parts) ≤ length tasks =
    (let a = length_sum (parts_tasks tasks parts) in let b = length_sum tasks in
    let c = sum_lanes (λ (t : Record). 1) tasks parts apart in omega arith) in
    record {
      does = record {
        gains = d.gains;
        gained = d.gained;
        grows = d.grows;
        sparing = d.sparing;
        works = works_among begin base (meeting_all now parts) d.gains (parts_tasks tasks parts) tasks drawn
            each (λ t c. All-contains (Contains tasks) (parts_tasks tasks parts) t (parts_within tasks parts) c)
            d.works;
        answers = reorder begin base (meeting_all now parts) d.gains (parts_deeds s tasks parts) deeds in' d.answers;
        unmade = unmade_among (meeting_all now parts) d.gains (parts_tasks tasks parts) tasks
            (parts_deeds s tasks parts) deeds each in' d.unmade;
      };
      lined = record {
        in_order = all.lined.in_order;
        few_entries = let a = all.lined.few_entries in omega arith;
        few_pieces = all.lined.few_pieces;
      };
    }
