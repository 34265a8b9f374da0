-- All lanes of a segment, split off, run and joined.
use Rattle.std.proofs.Common.{◌≡◌, ◌≢◌, ℕ, zero, suc, ◌+◌, ◌-◌, ◌<◌, ◌≤◌, ◌==◌, ◌⊎◌, List, [], ◌∷◌, ◌++◌, length, take}
use Rattle.std.proofs.Common.{drop, get_or, Bool, true, false, cond, if◌then◌else◌, ◌||◌, Some, None, Option, refl, sym}
use Rattle.std.proofs.Common.{◌∙◌, ap, subst, inl, inr, arith, length-append, append-nil, append_assoc}
use Rattle.std.specs.List.{All, AllPairs, Contains, list_any, slice_get, slice_index_or}
use Rattle.std.proofs.lemmas.Bool.{cases_eq, cases_lt}
use Rattle.std.proofs.lemmas.Bool.Decides.{nat_tests}
use Rattle.std.proofs.lemmas.List.{take_all, drop_all, length-take, get_or_default}
use Rattle.std.proofs.lemmas.List.Elements.{All-contains}
use Rattle.sdls_base.specs.declared.TheConstants.{MOST_KEYS}
use Rattle.sdls_base.specs.declared.entry.Logged.{Logged}
use Rattle.counter_table.specs.declared.counters.Worker.{Worker}
use Rattle.counter_table.specs.declared.view.View.{View}
use Rattle.counter_table.specs.Worker.{view}
use Rattle.counter_table.specs.Numbers.{amount}
use Rattle.record_io.specs.declared.item_cursor.Record.{Record}
use Rattle.record_io.specs.declared.answers.Answer.{Answer}
use Rattle.record_io.specs.declared.reader.TheConstants.{LANES}
use Rattle.run_promise.specs.Call.{Begin}
use Rattle.law_workers.specs.Counts.{is_of_record, count_at}
use Rattle.law_workers.specs.Views.{KnowsMore, keeping, starting, meeting, Meets, log_of}
use Rattle.law_workers.specs.Work.{indexed}
use Rattle.law_workers.specs.Deeds.{deeds_of, Ascend}
use Rattle.law_workers.specs.Order.{Layout, LiesIn, Handled}
use Rattle.law_workers.specs.Lanes.{is_of_lane, of_lane, giving_shares, Part, DidPart, meeting_all, MeetAll}
use Rattle.law_workers.specs.Lanes.{parts_deeds}
use Rattle.law_workers.proofs.Joining.{grows_itself, grows_further}
use Rattle.law_workers.proofs.Logs.{count_at_both, count_kept, same_behind}
use Rattle.law_workers.proofs.Handling.{handled_nothing, record_indexed}
use Rattle.law_workers.proofs.Lanes.{lanes_handled, lanes_grow, tasks_are, of_lane_within}
use Rattle.law_workers.proofs.Machines.{amount-append}
use Rattle.law_workers.proofs.Words.{lanes_words, words_exactly}
use Rattle.frame_workers.specs.declared.lane.Lane.{Lane}
use Rattle.law_workers.specs.Alone.{MovedInTurn, ServedAlone}
use Rattle.law_workers.specs.Words.{MovesWords}
use Rattle.law_workers.specs.Ends.{IsFullFor, EndsSegment}
use Rattle.law_workers.specs.Began.{BeganWith}
use Rattle.frame_workers.specs.Lanes.{HasRun, IsSplit, part_of, parts_of, answers_of, HaveOwnNumbers, IsThere, StopsAt}
use Rattle.frame_workers.proofs.Keeping.{begun_at, began_at}
use Rattle.frame_workers.proofs.Kept.{all_met}
use Rattle.frame_workers.proofs.Steps.{lane_next, lane_whole, none_of_it}
use Rattle.frame_workers.proofs.Fulls.{full_stays, looked_back}
use Rattle.frame_workers.proofs.Exactly.{looked, none_exactly, joined_exactly}
use Rattle.frame_workers.proofs.Joins.{parts_all, parts_apart, parts_counted, part_among, answers_found}
use Rattle.counter_table.specs.Turn.{stands}

-- one worker took in those of lanes that have a share each
pub shares_met : (now : View) (parts : List Part) → All (λ (p : Part). p.knows.numbers.shares ≡ 1) parts
    → (meeting_all now parts).numbers.shares ≡ now.numbers.shares + length parts
shares_met now [] h = omega arith
shares_met now (p ∷ parts) h =
    let one = h 0 p (omega arith) in let rest =
    shares_met (meeting now p.knows) parts (λ k d l. h (suc k) d (omega arith)) in omega arith

pub free_met : (now : View) (parts : List Part) → (meeting_all now parts).turn.holds ≡ now.turn.holds
free_met now [] = refl
free_met now (p ∷ parts) = free_met (meeting now p.knows) parts

pub filled_met : (now : View) (parts : List Part) → now.turn.filled ≡ true → (meeting_all now parts).turn.filled ≡ true
filled_met now [] h = h
filled_met now (p ∷ parts) h = filled_met (meeting now p.knows) parts (ap (λ (b : Bool). b || p.knows.turn.filled) h)

-- a slice of a whole list, given back
abbrev pub IsGivenBack : {X : Type 0} → ℕ → List X → List X → Type 0
IsGivenBack n new old = take n (new ++ drop (length new) old) ≡ new

pub slice_whole : {X : Type 0} (n : ℕ) (new old : List X) → length new ≡ length old → n ≡ length old
    → IsGivenBack n new old
slice_whole {X} n new old same is =
    let none : drop (length new) old ≡ [] = drop_all (length new) old (omega arith) in
    ap (λ (l : List X). take n (new ++ l)) none ∙ (ap (take n) (append-nil new) ∙ take_all n new (omega arith))

-- answers that end, or do not
pub by_flag : (begin : Begin) (old new : View) (tasks : List Record) (answers : List Answer) (full : Bool)
    → (full ≡ false → length answers ≡ length tasks)
    → (full ≡ true → EndsSegment begin old new tasks answers true) → EndsSegment begin old new tasks answers full
by_flag begin old new tasks answers false all stops = all refl
by_flag begin old new tasks answers true all stops = stops refl

pub by_end : {P Q : Type 0} (full : Bool) → (full ≡ false → P) → (full ≡ true → Q) → P ⊎ Q
by_end false one other = inl (one refl)
by_end true one other = inr (other refl)

pub stops_same : (tasks : List Record) (place : ℕ) (one other : ℕ → List Answer) → ((n : ℕ) → one n ≡ other n)
    → StopsAt tasks one place → StopsAt tasks other place
stops_same tasks place one other same stop = record {
  task = stop.task;
  there = stop.there;
  none_left = ap length (sym (same stop.task.lane)) ∙ stop.none_left;
}

-- the element at a place
found : {X : Type 0} (xs : List X) (k : ℕ) (x : X) → slice_get xs k ≡ Some x → (k < length xs) × (x ≡ get_or xs k x)
found [] k x is = absurd (let n : ◌≡◌ {A = Option _} None (Some x) = is in cc)
found (y ∷ xs) zero x is = (omega arith, (let e : Some y ≡ Some x = is in cc))
found (y ∷ xs) (suc k) x is = let (low, same) = found xs k x is in (omega arith, same)

used : (rs : List Record) (k : ℕ) (r : Record) → slice_get rs k ≡ Some r → list_any (is_of_lane r.lane) rs ≡ true
used [] k r is = absurd (let n : ◌≡◌ {A = Option _} None (Some r) = is in cc)
used (t ∷ rs) zero r is = (let e : Some t ≡ Some r = is in let same : t ≡ r = cc in
    let own : is_of_lane r.lane t ≡ true =
    subst (λ (x : Record). is_of_lane r.lane x ≡ true) (sym same) (itself r.lane) in
    ap (λ (b : Bool). b || list_any (is_of_lane r.lane) rs) own)
  where
    itself : (n : ℕ) → (n == n) ≡ true
    itself n = grind (arith, nat_tests)
used (t ∷ rs) (suc k) r is = let rest = used rs k r is in
    or_right (is_of_lane r.lane t) (list_any (is_of_lane r.lane) rs) rest
  where
    or_right : (a b : Bool) → b ≡ true → (a || b) ≡ true
    or_right true b h = refl
    or_right false b h = h

-- the records of one lane, where all are
one_of : (lane : ℕ) (rs : List Record) → All (λ (t : Record). t.lane ≡ lane) rs → of_lane lane rs ≡ rs
one_of lane [] all = refl
one_of lane (r ∷ rs) all =
    let is : r.lane ≡ lane = all 0 r (omega arith) in
    let own : is_of_lane lane r ≡ true = grind (arith, nat_tests) in
    ap (λ (b : Bool). cond b (r ∷ of_lane lane rs) (of_lane lane rs)) own ∙ ap (λ (l : List Record). r ∷ l)
    (one_of lane rs (λ k d l. all (suc k) d (omega arith)))

-- no other lane has a record then
used_lane : (n lane : ℕ) (rs : List Record) → All (λ (t : Record). t.lane ≡ lane) rs → list_any (is_of_lane n) rs ≡ true
    → n ≡ lane
used_lane n lane [] all some = absurd (let e : ◌≡◌ {A = Bool} false true = some in cc)
used_lane n lane (r ∷ rs) all some = elim (cases_eq r.lane n) [
  | inl is ↦ sym is ∙ all 0 r (omega arith)
  | inr off ↦
      let f : is_of_lane n r ≡ false = grind (arith, nat_tests) in
      used_lane n lane rs (λ k d l. all (suc k) d (omega arith))
      (subst (λ (b : Bool). (b || list_any (is_of_lane n) rs) ≡ true) f some)
]

short_lane : (n : ℕ) (rs : List Record) → length (of_lane n rs) ≤ length rs
short_lane n [] = omega arith
short_lane n (r ∷ rs) = let h = short_lane n rs in go (is_of_lane n r) h
  where
    go : (b : Bool) → length (of_lane n rs) ≤ length rs → length (cond b (r ∷ of_lane n rs) (of_lane n rs))
        ≤ suc (length rs)
    go true h = omega arith
    go false h = omega arith

few_of : (begin : Begin) (v w : View) (ts : List Record) (xs : List Answer) (full : Bool)
    → EndsSegment begin v w ts xs full → length xs ≤ length ts
few_of begin v w ts xs false same = omega arith
few_of begin v w ts xs true (task, there, is) = let low = (found ts (length xs) task there).0 in omega arith

none_of : (xs : List Answer) → length xs ≡ 0 → xs ≡ []
none_of [] h = refl
none_of (x ∷ xs) h = absurd (omega arith)

-- the places that lanes made
made_of : List Part → List ℕ
made_of [] = []
made_of (p ∷ parts) = p.knows.turn.made ++ made_of parts

made_met : (now : View) (parts : List Part) → (meeting_all now parts).turn.made ≡ now.turn.made ++ made_of parts
unfolding made_of
made_met now [] = sym (append-nil now.turn.made)
made_met now (p ∷ parts) = made_met (meeting now p.knows) parts ∙ append_assoc now.turn.made p.knows.turn.made
    (made_of parts)

none_of_parts : (test : Option Logged → Bool) (log : List Logged) (parts : List Part)
    → All (λ (p : Part). count_at test log p.knows.turn.made ≡ 0) parts
    → count_at test log (made_of parts) ≡ 0
unfolding made_of
none_of_parts test log [] none = refl
none_of_parts test log (p ∷ parts) none =
    let first : count_at test log p.knows.turn.made ≡ 0 = none 0 p (omega arith) in
    let rest = none_of_parts test log parts (λ k d low. none (suc k) d (omega arith)) in
    let both = count_at_both test log p.knows.turn.made (made_of parts) in omega arith

-- no record of another lane has the number
none_elsewhere : (n : ℕ) (rs : List Record) (r : Record) (p : ℕ) → slice_get rs p ≡ Some r → Ascend rs → r.lane ≢ n
    → indexed r.index (of_lane n rs) ≡ 0
none_elsewhere n rs r p at up off = none_of_it (indexed r.index (of_lane n rs)) (λ some.
    let (t, there, same) = record_indexed r.index (of_lane n rs) some in
    let lane : t.lane ≡ n = All-contains (λ (t : Record). t.lane ≡ n) (of_lane n rs) t (tasks_are n rs) there in
    let (q, inside, here) = All-contains (Contains rs) (of_lane n rs) t (of_lane_within n rs) there in
    let (low, is) = found rs p r at in
    let one : slice_index_or rs p t ≡ r = get_or_default rs p t r low ∙ sym is in
    let first : (slice_index_or rs p t).index ≡ r.index = ap (λ (x : Record). x.index) one in
    let other : (slice_index_or rs q t).index ≡ t.index = ap (λ (x : Record). x.index) here in
    elim (cases_lt p q) [
      | inl less ↦ let a = up p q t less inside in omega arith
      | inr le ↦ elim (cases_lt q p) [
        | inl less ↦ let a = up q p t less low in omega arith
        | inr ge ↦
            let places : p ≡ q = omega arith in
            let are : r ≡ t = sym one ∙ (ap (λ (k : ℕ). slice_index_or rs k t) places ∙ here) in
            off (ap (λ (x : Record). x.lane) are ∙ lane)
      ]
    ])

-- what is known of a segment once its lanes are joined, of the parts that they did
pub record Served (told : Bool) (rs : List Record) (base last : View) (parts : List Part) : Type 0 where
  pub shares : last.numbers.shares ≡ base.numbers.shares
  pub grows : KnowsMore base last
  pub parts_grow : All (λ (p : Part). KnowsMore p.knows last) parts
  pub handled : (begin : Begin) (layout : Layout) (s : ℕ) → BeganWith told begin base.turn.known.opening
      → LiesIn layout s rs → (answers : List Answer) → All (Contains (parts_deeds s rs parts)) (deeds_of s rs answers)
      → Handled layout begin base last rs (deeds_of s rs answers)
  pub moved : (begin : Begin) (s : ℕ) → BeganWith told begin base.turn.known.opening → (answers : List Answer)
      → All (Contains (parts_deeds s rs parts)) (deeds_of s rs answers)
      → MovesWords begin base last rs (deeds_of s rs answers)
  pub alone : (lane : ℕ) → All (λ (t : Record). t.lane ≡ lane) rs → All (λ (t : Record). t.lane < LANES) rs
      → (begin : Begin) (s : ℕ) → BeganWith told begin base.turn.known.opening → (answers rest : List Answer)
      → answers ++ rest ≡ answers_of lane parts
      → (length answers ≡ length rs) ⊎ StopsAt rs (λ n. answers_of n parts) (length answers)
      → ServedAlone begin base last (length rs) (deeds_of s rs answers)
  pub ends : (begin : Begin) → BeganWith told begin base.turn.known.opening → All (λ (t : Record). t.lane < LANES) rs
      → Ascend rs → (answers : List Answer) → StopsAt rs (λ n. answers_of n parts) (length answers)
      → EndsSegment begin base last rs answers true

module _ {B : Type 0} (ready : Worker B → Type 0) (told : Bool) (rs : List Record) (base : View)
    (old new : List (Lane B))
    (split : All (IsSplit ready rs base) old) (apart : AllPairs HaveOwnNumbers old)
    (each : (n : ℕ) → n < LANES → list_any (is_of_lane n) rs ≡ true → IsThere n old) (many : length new ≡ length old)
    (ran : (k : ℕ) (d : Lane B) → k < length old
    → HasRun ready told rs (slice_index_or old k d) (slice_index_or new k d)) where
  pub new_apart : AllPairs HaveOwnNumbers new
  new_apart i j d lt low e =
      let one = ran i d (omega arith) in let two = ran j d (omega arith) in
      apart i j d lt (omega arith) (sym one.number ∙ (e ∙ two.number))

  pub new_ready : All (λ (lane : Lane B). ready lane.worker × (lane.number < LANES)) new
  new_ready k d low =
      let run = ran k d (omega arith) in let is = split k d (omega arith) in let number = run.number in
      let below = is.below in
      (run.is_ready, omega arith)

  opening_of : (k : ℕ) (d : Lane B) → k < length old → (view (slice_index_or old k d).worker).turn.known.opening
      ≡ base.turn.known.opening
  opening_of k d low = ap (λ (v : View). v.turn.known.opening) (split k d low).from

  began : (begin : Begin) → BeganWith told begin base.turn.known.opening → (k : ℕ) (d : Lane B) → k < length old
      → BeganWith told begin (view (slice_index_or old k d).worker).turn.known.opening
  began begin b k d low = subst (BeganWith told begin) (sym (opening_of k d low)) b

  one_share : All (λ (p : Part). p.knows.numbers.shares ≡ 1) (parts_of new)
  one_share = parts_all (λ (p : Part). p.knows.numbers.shares ≡ 1) new
      (λ k d low. (ran k d (omega arith)).shares ∙ ap (λ (v : View). v.numbers.shares) (split k d (omega arith)).from)

  same_opening : All (λ (p : Part). p.knows.turn.known.opening ≡ base.turn.known.opening) (parts_of new)
  same_opening = parts_all (λ (p : Part). p.knows.turn.known.opening ≡ base.turn.known.opening) new
      (λ k d low.
      let begin : Begin = begun_at told base.turn.known.opening in
      let b = began begin (began_at told base.turn.known.opening) k d (omega arith) in
      let h = (ran k d (omega arith)).handled begin (record { lane_of = λ i. 0; segment_of = λ i. 0 }) 0 b in
      h.does.grows.opening ∙ opening_of k d (omega arith))

  did : (begin : Begin) (layout : Layout) (s : ℕ) → BeganWith told begin base.turn.known.opening
      → All (DidPart layout begin base s rs) (parts_of new)
  did begin layout s b = parts_all (DidPart layout begin base s rs) new
      (λ k d low.
      let run = ran k d (omega arith) in
      let h = run.handled begin layout s (began begin b k d (omega arith)) in
      let from = (split k d (omega arith)).from in
      let g = subst (λ (v : View). Handled layout begin v (view (slice_index_or new k d).worker)
      (of_lane (slice_index_or old k d).number rs)
      (deeds_of s (of_lane (slice_index_or old k d).number rs) (slice_index_or new k d).answers.items)) from h in
      subst (λ (n : ℕ). Handled layout begin (starting base) (view (slice_index_or new k d).worker) (of_lane n rs)
      (deeds_of s (of_lane n rs) (slice_index_or new k d).answers.items)) (sym run.number) g)

  moved : (begin : Begin) (s : ℕ) → BeganWith told begin base.turn.known.opening
      → All (λ (p : Part). MovesWords begin (starting base) p.knows (of_lane p.number rs)
      (deeds_of s (of_lane p.number rs) p.answers)) (parts_of new)
  moved begin s b =
      parts_all (λ (p : Part). MovesWords begin (starting base) p.knows (of_lane p.number rs)
      (deeds_of s (of_lane p.number rs) p.answers)) new
      (λ k d low.
      let run = ran k d (omega arith) in
      let exact = (run.exactly begin s (began begin b k d (omega arith))).moved in
      let did =
      (run.handled begin (record { lane_of = λ i. 0; segment_of = λ i. 0 }) s
      (began begin b k d (omega arith))).does in
      let made : exact.made ≡ did.gains.made =
      same_behind (view (slice_index_or old k d).worker).turn.made exact.made did.gains.made
      (sym exact.made_is ∙ did.gained.made) in
      let h = words_exactly begin (view (slice_index_or old k d).worker) (view (slice_index_or new k d).worker) s
      (of_lane (slice_index_or old k d).number rs)
      (slice_index_or new k d).answers.items exact
      (λ place in'. (did.works.made place (subst (λ (l : List ℕ). 0 < stands place l) made in')).1) in
      let from = (split k d (omega arith)).from in
      let g = subst (λ (v : View). MovesWords begin v (view (slice_index_or new k d).worker)
      (of_lane (slice_index_or old k d).number rs)
      (deeds_of s (of_lane (slice_index_or old k d).number rs) (slice_index_or new k d).answers.items)) from h in
      subst (λ (n : ℕ). MovesWords begin (starting base) (view (slice_index_or new k d).worker) (of_lane n rs)
      (deeds_of s (of_lane n rs) (slice_index_or new k d).answers.items)) (sym run.number) g)

  module _ (now : View) (given : now ≡ giving_shares (length old) base) (few : length old < base.numbers.shares)
      (free : base.turn.holds ≡ false)
      (filled : base.turn.filled ≡ true) (meet : MeetAll MOST_KEYS now (parts_of new)) where
    abbrev joined : View
    joined = meeting_all now (parts_of new)

    now_free : now.turn.holds ≡ false
    now_free = ap (λ (v : View). v.turn.holds) given ∙ free

    now_filled : now.turn.filled ≡ true
    now_filled = ap (λ (v : View). v.turn.filled) given ∙ filled

    pub joined_free : joined.turn.holds ≡ false
    joined_free = free_met now (parts_of new) ∙ now_free

    pub joined_filled : joined.turn.filled ≡ true
    joined_filled = filled_met now (parts_of new) now_filled

    pub joined_shares : joined.numbers.shares ≡ base.numbers.shares
    joined_shares =
        let a = shares_met now (parts_of new) one_share in let b = parts_counted new in
        let c : now.numbers.shares ≡ base.numbers.shares - length old = ap (λ (v : View). v.numbers.shares) given in
        omega arith

    pub joined_grows : All (λ (p : Part). KnowsMore p.knows joined) (parts_of new)
    joined_grows =
        let same : now.turn.known.opening ≡ base.turn.known.opening = ap (λ (v : View). v.turn.known.opening) given in
        let begin : Begin = begun_at told base.turn.known.opening in
        let rows = (began_at told base.turn.known.opening).rows in
        lanes_grow begin now (parts_of new) now_free now_filled (λ k d low. same_opening k d low ∙ sym same)
        (subst (λ (n : ℕ). MeetAll n now (parts_of new)) (sym rows) meet)

    base_grows : KnowsMore base joined
    base_grows =
        subst (λ (v : View). KnowsMore base (meeting_all v (parts_of new))) (sym given)
        (grows_further base (giving_shares (length old) base)
        (meeting_all (giving_shares (length old) base) (parts_of new))
        (record {
          nexts = λ r. omega arith;
          earlier = (grows_itself base).earlier;
          opening = refl;
          epochs = omega arith;
        })
        (all_met MOST_KEYS (giving_shares (length old) base) (parts_of new) free filled
        (subst (λ (v : View). MeetAll MOST_KEYS v (parts_of new)) given meet)))

    module _ (two : 1 < base.numbers.shares) (back : Meets MOST_KEYS (keeping joined) (starting joined)) where
      abbrev last : View
      last = meeting (keeping joined) (starting joined)

      all_handled : (begin : Begin) (layout : Layout) (s : ℕ) → BeganWith told begin base.turn.known.opening
          → LiesIn layout s rs → (answers : List Answer)
          → All (Contains (parts_deeds s rs (parts_of new))) (deeds_of s rs answers)
          → Handled layout begin base last rs (deeds_of s rs answers)
      all_handled begin layout s b lies answers among =
          let size = parts_counted new in
          let given' : now ≡ giving_shares (length (parts_of new)) base =
          subst (λ (n : ℕ). now ≡ giving_shares n base) (sym many ∙ sym size) given in
          let done = lanes_handled layout begin base now s rs (parts_of new) (deeds_of s rs answers) lies (omega arith)
          free filled given'
          (did begin layout s b) (subst (λ (n : ℕ). MeetAll n now (parts_of new)) (sym b.rows) meet)
          (parts_apart new new_apart) among in
          let shares = joined_shares in
          looked_back layout begin base joined rs (deeds_of s rs answers) done (omega arith) joined_free joined_filled
          (subst (λ (n : ℕ). Meets n (keeping joined) (starting joined)) (sym b.rows) back)

      last_grows : KnowsMore joined last
      last_grows =
          let begin : Begin = begun_at told base.turn.known.opening in
          let layout : Layout = record { lane_of = λ i. 0; segment_of = λ i. 0 } in
          let rows = (began_at told base.turn.known.opening).rows in
          let shares = joined_shares in
          (looked_back layout begin joined joined [] [] (handled_nothing layout begin joined []) (omega arith)
          joined_free joined_filled
          (subst (λ (n : ℕ). Meets n (keeping joined) (starting joined)) (sym rows) back)).does.grows

      -- on however many lanes, the words were moved as the answers tell
      all_moved : (begin : Begin) (s : ℕ) → BeganWith told begin base.turn.known.opening → (answers : List Answer)
          → All (Contains (parts_deeds s rs (parts_of new))) (deeds_of s rs answers)
          → MovesWords begin base last rs (deeds_of s rs answers)
      all_moved begin s b answers among =
          lanes_words begin base last s rs now (parts_of new) (deeds_of s rs answers) (parts_apart new new_apart)
          (moved begin s b)
          (λ k d low. grows_further (slice_index_or (parts_of new) k d).knows joined last (joined_grows k d low)
          last_grows)
          (λ row. ap (λ (v : View). amount row v.numbers.added) given)
          (λ row. let a = amount-append row joined.numbers.added [] in omega arith)
          (ap (λ (v : View). v.turn.made) given) (append-nil joined.turn.made) among

      -- Where all records are of one lane, there is one worker at most beside the one that it was split from.
      at_most_one : (os : List (Lane B)) → All (IsSplit ready rs base) os → AllPairs HaveOwnNumbers os → (lane : ℕ)
          → All (λ (t : Record). t.lane ≡ lane) rs → length os ≤ 1
      at_most_one [] of_them differ lane all = omega arith
      at_most_one (l ∷ []) of_them differ lane all = omega arith
      at_most_one (l ∷ m ∷ os) of_them differ lane all =
          let a = used_lane l.number lane rs all (of_them 0 l (omega arith)).used in
          let b = used_lane m.number lane rs all (of_them 1 l (omega arith)).used in
          absurd (differ 0 1 l (omega arith) (omega arith) (a ∙ sym b))

      no_records : old ≡ [] → All (λ (t : Record). t.lane < LANES) rs → (ts : List Record) → ts ≡ rs → ts ≡ []
      no_records none low [] is = refl
      no_records none low (t ∷ ts) is =
          let below : t.lane < LANES = subst (All (λ (r : Record). r.lane < LANES)) (sym is) low 0 t (omega arith) in
          let there =
          each t.lane below (subst (λ (l : List Record). list_any (is_of_lane t.lane) l ≡ true) is
          (used (t ∷ ts) 0 t refl)) in
          absurd (nobody (subst (IsThere t.lane) none there))
        where
          nobody : {n : ℕ} → IsThere {B = B} n [] → ⊥
          nobody (lane, (k, low, here), number) = omega arith

      last_of : List (Lane B) → View
      last_of ns = looked (meeting_all now (parts_of ns))

      all_exactly : (lane : ℕ) → All (λ (t : Record). t.lane ≡ lane) rs → All (λ (t : Record). t.lane < LANES) rs
          → (begin : Begin) (s : ℕ)
          → BeganWith told begin base.turn.known.opening → (answers rest : List Answer)
          → answers ++ rest ≡ answers_of lane (parts_of new)
          → (length answers ≡ length rs) ⊎ StopsAt rs (λ n. answers_of n (parts_of new)) (length answers)
          → ServedAlone begin base last (length rs) (deeds_of s rs answers)
      unfolding last_of
      all_exactly lane all low begin s b answers rest is how =
          go old new refl refl many (at_most_one old split apart lane all)
        where
          go : (os ns : List (Lane B)) → old ≡ os → new ≡ ns → length ns ≡ length os → length os ≤ 1
              → ServedAlone begin base last (length rs) (deeds_of s rs answers)
          go [] [] old_is new_is size one =
              let last_is : last ≡ looked (giving_shares (length old) base) = ap last_of new_is ∙ ap looked given in
              subst (λ (v : View). ServedAlone begin base v (length rs) (deeds_of s rs answers)) (sym last_is)
              (subst (λ (ts : List Record). ServedAlone begin base (looked (giving_shares (length old) base))
              (length ts) (deeds_of s ts answers)) (sym (no_records old_is low rs refl))
              (none_exactly begin (length old) base))
          go [] (m ∷ ns) old_is new_is size one = absurd (omega arith)
          go (l ∷ os) [] old_is new_is size one = absurd (omega arith)
          go (l ∷ k ∷ os) ns old_is new_is size one = absurd (omega arith)
          go (l ∷ []) (m ∷ k ∷ ns) old_is new_is size one = absurd (omega arith)
          go (l ∷ []) (m ∷ []) old_is new_is size one =
              let at_old : slice_index_or old 0 l ≡ l = ap (λ (ls : List (Lane B)). slice_index_or ls 0 l) old_is in
              let at_new : slice_index_or new 0 l ≡ m = ap (λ (ls : List (Lane B)). slice_index_or ls 0 l) new_is in
              let inside : 0 < length old = (let z = ap length old_is in omega arith) in
              let run : HasRun ready told rs l m = subst (λ (o : Lane B). HasRun ready told rs o m) at_old
              (subst (HasRun ready told rs (slice_index_or old 0 l)) at_new (ran 0 l inside)) in
              let is_split : IsSplit ready rs base l = subst (IsSplit ready rs base) at_old (split 0 l inside) in
              let number : l.number ≡ lane = used_lane l.number lane rs all is_split.used in
              let w : View = view m.worker in
              let xs : List Answer = m.answers.items in
              let from : BeganWith told begin (view l.worker).turn.known.opening =
              subst (λ (v : View). BeganWith told begin v.turn.known.opening) (sym is_split.from) b in
              let mine : of_lane l.number rs ≡ rs = ap (λ (n : ℕ). of_lane n rs) number ∙ one_of lane rs all in
              let exactly : MovedInTurn begin (starting base) w (length rs) (deeds_of s rs xs) =
              subst (λ (v : View). MovedInTurn begin v w (length rs) (deeds_of s rs xs)) is_split.from
              (subst (λ (ts : List Record). MovedInTurn begin (view l.worker) w (length ts) (deeds_of s ts xs)) mine
              (run.exactly begin s from)) in
              let apart_from : Layout = record { lane_of = λ i. 0; segment_of = λ i. 0 } in
              let handled : Handled apart_from begin (starting base) w rs (deeds_of s rs xs) =
              subst (λ (v : View). Handled apart_from begin v w rs (deeds_of s rs xs)) is_split.from
              (subst (λ (ts : List Record). Handled apart_from begin (view l.worker) w ts (deeds_of s ts xs)) mine
              (run.handled begin apart_from s from)) in
              let most : length xs ≤ length rs = few_of begin (view l.worker) w rs xs m.full
              (subst (λ (ts : List Record). EndsSegment begin (view l.worker) w ts xs m.full) mine
              (run.ends begin from)) in
              let own : m.number ≡ lane = run.number ∙ number in
              let own_test : (m.number == lane) ≡ true = grind (arith, nat_tests) in
              let theirs : answers_of lane (parts_of new) ≡ xs =
              ap (λ (ls : List (Lane B)). answers_of lane (parts_of ls)) new_is
              ∙ ap (λ (t : Bool). if t then xs else []) own_test in
              let no_more : rest ≡ [] = none_of rest (ends_with xs theirs most how) in
              let same : answers ≡ xs =
              sym (append-nil answers) ∙ (ap (λ (l : List Answer). answers ++ l) (sym no_more) ∙ (is ∙ theirs)) in
              let last_is : last ≡ looked (meeting (giving_shares (length old) base) w) =
              ap last_of new_is ∙ ap (λ (v : View). looked (meeting v w)) given in
              let at_w : view (slice_index_or new 0 l).worker ≡ w = ap (λ (n : Lane B). view n.worker) at_new in
              let grows : KnowsMore w last =
              subst (λ (v : View). KnowsMore v last) at_w
              (grows_further (view (slice_index_or new 0 l).worker) joined last
              (All-contains (λ (p : Part). KnowsMore p.knows joined) (parts_of new) (part_of (slice_index_or new 0 l))
              joined_grows (part_among new 0 l (omega arith))) last_grows) in
              subst (λ (v : View). ServedAlone begin base v (length rs) (deeds_of s rs answers)) (sym last_is)
              (subst (λ (ys : List Answer).
              ServedAlone begin base (looked (meeting (giving_shares (length old) base) w)) (length rs)
              (deeds_of s rs ys)) (sym same)
              (joined_exactly begin (length old) base w rs (deeds_of s rs xs) (length rs) handled.does
              (subst (KnowsMore w) last_is grows) exactly))
            where
              ends_with : (xs : List Answer) → answers_of lane (parts_of new) ≡ xs → length xs ≤ length rs
                  → (length answers ≡ length rs) ⊎ StopsAt rs (λ n. answers_of n (parts_of new)) (length answers)
                  → length rest ≡ 0
              ends_with xs theirs most (inl each_has) = let sum = length-append answers rest in
                  let z = ap length (is ∙ theirs) in omega arith
              ends_with xs theirs most (inr stop) =
                  let at = found rs (length answers) stop.task stop.there in
                  let its : stop.task.lane ≡ lane =
                  subst (λ (t : Record). t.lane ≡ lane) (sym at.1) (all (length answers) stop.task at.0) in
                  let left : length (answers_of lane (parts_of new))
                  ≡ length (of_lane lane (take (length answers) rs)) =
                  subst (λ (n : ℕ). length (answers_of n (parts_of new))
                  ≡ length (of_lane n (take (length answers) rs))) its stop.none_left in
                  let short = short_lane lane (take (length answers) rs) in
                  let front = length-take (length answers) rs in
                  let sum = length-append answers rest in let z = ap length is in let y = ap length theirs in
                  omega arith

      starts : KnowsMore base (starting base)
      starts = record {
        nexts = λ r. omega arith;
        earlier = (grows_itself base).earlier;
        opening = refl;
        epochs = omega arith;
      }

      -- a worker of a lane knew no more than the last one
      lane_grows : (k : ℕ) (lane : Lane B) → k < length old → KnowsMore (view (slice_index_or new k lane).worker) last
      lane_grows k lane low = grows_further (view (slice_index_or new k lane).worker) joined last
          (All-contains (λ (p : Part). KnowsMore p.knows joined) (parts_of new) (part_of (slice_index_or new k lane))
          joined_grows (part_among new k lane (omega arith))) last_grows

      -- what the lanes made, the last one made, and the one that they were split from
      last_made : last.turn.made ≡ base.turn.made ++ made_of (parts_of new)
      last_made = append-nil (meeting_all now (parts_of new)).turn.made
          ∙ (made_met now (parts_of new) ∙ ap (λ (v : View). v.turn.made ++ made_of (parts_of new)) given)

      -- the first record without an answer is one for which the history is full, and none of the lines made is its
      -- entry
      all_ends : (begin : Begin) → BeganWith told begin base.turn.known.opening
          → All (λ (t : Record). t.lane < LANES) rs → Ascend rs → (answers : List Answer)
          → StopsAt rs (λ n. answers_of n (parts_of new)) (length answers) → EndsSegment begin base last rs answers true
      all_ends begin b lanes up answers stop =
          let r : Record = stop.task in
          let place = found rs (length answers) r stop.there in
          let below : r.lane < LANES =
          subst (λ (t : Record). t.lane < LANES) (sym place.1) (lanes (length answers) r place.0) in
          let there = each r.lane below (used rs (length answers) r stop.there) in
          go stop there
        where
          -- the lane of the record stopped there
          lane_full : (stop : StopsAt rs (λ n. answers_of n (parts_of new)) (length answers)) → (k : ℕ) (lane : Lane B)
              → k < length old
              → (slice_index_or old k lane).number ≡ stop.task.lane
              → IsFullFor begin (view (slice_index_or old k lane).worker) (view (slice_index_or new k lane).worker)
              stop.task
          lane_full stop k lane low at_old =
              let r : Record = stop.task in
              let place = found rs (length answers) stop.task stop.there in
              let run = ran k lane low in
              let at_new : (slice_index_or new k lane).number ≡ r.lane = run.number ∙ at_old in
              let its = answers_found new k lane new_apart (omega arith) in
              let size : length (slice_index_or new k lane).answers.items
              ≡ length (of_lane r.lane (take (length answers) rs)) =
              ap length (sym its) ∙ (ap (λ (n : ℕ). length (answers_of n (parts_of new))) at_new ∙ stop.none_left) in
              let own : is_of_lane r.lane r ≡ true = grind (arith, nat_tests) in
              let v : View = view (slice_index_or old k lane).worker in
              let w : View = view (slice_index_or new k lane).worker in
              let ends : EndsSegment begin v w (of_lane r.lane rs) (slice_index_or new k lane).answers.items
              (slice_index_or new k lane).full =
              subst (λ (n : ℕ). EndsSegment begin v w (of_lane n rs) (slice_index_or new k lane).answers.items
              (slice_index_or new k lane).full) at_old
              (run.ends begin (began begin b k lane low)) in
              let next = lane_next r.lane rs (length answers) r place.1 place.0 own in
              let whole = ap length (lane_whole r.lane rs (length answers) r place.1 place.0 own)
              ∙ length-append (of_lane r.lane (take (length answers) rs)) _ in
              cases r v w (of_lane r.lane rs) (slice_index_or new k lane).answers.items
              (length (of_lane r.lane (take (length answers) rs)))
              size next (omega arith) (slice_index_or new k lane).full ends
            where
              cases : (r : Record) (v w : View) (own : List Record) (xs : List Answer) (m : ℕ)
                  → length xs ≡ m → slice_get own m ≡ Some r → m < length own → (full : Bool)
                  → EndsSegment begin v w own xs full → IsFullFor begin v w r
              cases r v w own xs m size next more false e = absurd (let f : length xs ≡ length own = e in omega arith)
              cases r v w own xs m size next more true (task, at, full) =
                  let other : Some task ≡ Some r = sym at ∙ (ap (slice_get own) size ∙ next) in
                  let same : task ≡ r = cc in
                  subst (IsFullFor begin v w) same full

          -- no lane made an entry of it
          lane_none : (stop : StopsAt rs (λ n. answers_of n (parts_of new)) (length answers)) → (k : ℕ) (lane : Lane B)
              → k < length old
              → count_at (is_of_record stop.task.index) (log_of last)
              (view (slice_index_or new k lane).worker).turn.made ≡ 0
          lane_none stop k lane low =
              let r : Record = stop.task in
              let w : View = view (slice_index_or new k lane).worker in
              let layout : Layout = record { lane_of = λ i. 0; segment_of = λ i. 0 } in
              let h = (ran k lane low).handled begin layout 0 (began begin b k lane low) in
              let grows = lane_grows k lane low in
              let none_old : (view (slice_index_or old k lane).worker).turn.made ≡ [] =
              ap (λ (v : View). v.turn.made) (split k lane low).from in
              let made_is : w.turn.made ≡ h.does.gains.made =
              h.does.gained.made ∙ ap (λ (l : List ℕ). l ++ h.does.gains.made) none_old in
              let kept : count_at (is_of_record stop.task.index) (log_of last) h.does.gains.made
              ≡ count_at (is_of_record stop.task.index) (log_of w) h.does.gains.made =
              ap (λ (l : List Logged). count_at (is_of_record stop.task.index) l h.does.gains.made) grows.earlier.log.1
              ∙ count_kept (is_of_record stop.task.index) (log_of w) grows.earlier.log.0 h.does.gains.made
              (λ x there. (h.does.works.made x there).1) in
              let all : count_at (is_of_record stop.task.index) (log_of last) w.turn.made
              ≡ count_at (is_of_record stop.task.index) (log_of w) h.does.gains.made =
              ap (count_at (is_of_record stop.task.index) (log_of last)) made_is ∙ kept in
              elim (cases_eq (slice_index_or old k lane).number r.lane) [
                | inl own ↦ all ∙ (lane_full stop k lane low own).unmade h.does.gains.made h.does.gained.made
                | inr off ↦
                    let few = h.does.works.one_entry stop.task.index in
                    let none = none_elsewhere (slice_index_or old k lane).number rs stop.task (length answers)
                    stop.there up (λ same. off (sym same)) in
                    omega arith
              ]

          go : (stop : StopsAt rs (λ n. answers_of n (parts_of new)) (length answers)) → IsThere stop.task.lane old
              → EndsSegment begin base last rs answers true
          go stop (lane, (k, low, here), number) =
              let r : Record = stop.task in
              let at_old : (slice_index_or old k lane).number ≡ r.lane = ap (λ (l : Lane B). l.number) here ∙ number in
              let v : View = view (slice_index_or old k lane).worker in
              let w : View = view (slice_index_or new k lane).worker in
              let low_grows : KnowsMore base v = subst (KnowsMore base) (sym (split k lane low).from) starts in (
                stop.task,
                stop.there,
                full_stays begin base v w last stop.task low_grows (lane_grows k lane low)
                    (lane_full stop k lane low at_old)
                    (λ made is.
                    let same : made ≡ made_of (parts_of new) =
                    same_behind base.turn.made made (made_of (parts_of new)) (sym is ∙ last_made) in
                    ap (count_at (is_of_record stop.task.index) (log_of last)) same
                    ∙ none_of_parts (is_of_record stop.task.index) (log_of last) (parts_of new)
                    (parts_all (λ (p : Part). count_at (is_of_record stop.task.index) (log_of last) p.knows.turn.made
                    ≡ 0) new
                    (λ j d inside. lane_none stop j d (omega arith)))),
              )

      pub served : Served told rs base last (parts_of new)
      served = record {
        shares = (let shares = joined_shares in omega arith);
        grows = grows_further base joined last base_grows last_grows;
        parts_grow = λ k d low.
            grows_further (slice_index_or (parts_of new) k d).knows joined last (joined_grows k d low) last_grows;
        handled = all_handled;
        moved = all_moved;
        alone = all_exactly;
        ends = all_ends;
      }
