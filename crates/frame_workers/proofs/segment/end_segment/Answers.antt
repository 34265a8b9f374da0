use Rattle.std.proofs.Common.{◌≡◌, ℕ, ◌<◌, true, List, length, sym, ap, subst, ◌∙◌, arith}
use Rattle.std.specs.List.{All, Contains, slice_index_or}
use Rattle.std.proofs.lemmas.List.Elements.{All-contains}
use Rattle.sdls_base.specs.declared.TheConstants.{MOST_KEYS}
use Rattle.counter_table.specs.declared.counters.Worker.{Worker}
use Rattle.counter_table.specs.declared.view.View.{View}
use Rattle.counter_table.specs.Worker.{view}
use Rattle.shared_unit.specs.Turn.{IsReady}
use Rattle.record_io.specs.declared.item_cursor.Record.{Record}
use Rattle.law_workers.specs.Views.{KnowsMore, keeping, meeting, Meets, starting}
use Rattle.law_workers.specs.Deeds.{deeds_of}
use Rattle.law_workers.specs.Lanes.{Part, parts_deeds}
use Rattle.frame_workers.specs.declared.lane.Lane.{Lane}
use Rattle.frame_workers.specs.Lanes.{AreAmong, StopsAt, answers_of, left_at, part_of, parts_of}
use Rattle.frame_workers.specs.Segment.{RanFrom}
use Rattle.frame_workers.proofs.Joins.{each_among, part_among}
use Rattle.frame_workers.proofs.Kept.{kept_later, places_later}
use Rattle.frame_workers.proofs.Segments.{IsGivenBack, Served, slice_whole, by_flag, by_end, stops_same, new_apart}
use Rattle.frame_workers.proofs.Segments.{new_ready, joined_shares, served}
use Rattle.frame_workers.proofs.segment.end_segment.Given as given
use Rattle.frame_workers.proofs.segment.end_segment.Goals as goal
use Rattle.frame_workers.proofs.segment.end_segment.Goals.{After-join_lanes, After-place_answers-full}

-- ---- the lanes, as they were split off and as they ran

pub join_lanes-requires-clause-lanes : goal.join_lanes-requires-clause-lanes
join_lanes-requires-clause-lanes g c =
    let (before, old, r) = c.requires.ran in
    new_ready (IsReady c.args.unit.now.counters c.args.unit.now.plan) g.O.Site.told c.args.records.now
    (view before) old c.args.begun.lanes.items r.split.split r.split.apart r.split.each r.ran.many r.ran.each

pub join_lanes-requires-clause-apart : goal.join_lanes-requires-clause-apart
join_lanes-requires-clause-apart g c =
    let (before, old, r) = c.requires.ran in
    new_apart (IsReady c.args.unit.now.counters c.args.unit.now.plan) g.O.Site.told c.args.records.now
    (view before) old c.args.begun.lanes.items r.split.split r.split.apart r.split.each r.ran.many r.ran.each

-- ---- the worker that took them in

module _ (g : given.Over) (c : After-join_lanes g) (before : Worker _) (old : List (Lane _))
    (r : RanFrom (IsReady c.args.unit.now.counters c.args.unit.now.plan) g.O.Site.told c.args.records.now before
    (view c.args.worker.now) old c.args.begun.lanes.items) where
  few : length old < (view before).numbers.shares
  few = let most = r.split.many in let enough = r.enough in omega arith

  two : 1 < (view before).numbers.shares
  two = let enough = r.enough in omega arith

  has_two : 1 < (view c.join_lanes.new.worker).numbers.shares
  has_two =
      let shares = joined_shares (IsReady c.args.unit.now.counters c.args.unit.now.plan) g.O.Site.told
      c.args.records.now (view before) old c.args.begun.lanes.items r.split.split r.split.apart r.split.each
      r.ran.many r.ran.each (view c.args.worker.now) r.split.given few r.is_ready.free r.is_ready.filled
      c.join_lanes.ensures.meet in
      let same = ap (λ (v : View). v.numbers.shares) c.join_lanes.ensures.joined in
      let enough = two in omega arith

  serves : Meets MOST_KEYS (keeping (view c.join_lanes.new.worker)) (starting (view c.join_lanes.new.worker))
      → Served g.O.Site.told c.args.records.now (view before)
      (meeting (keeping (view c.join_lanes.new.worker)) (starting (view c.join_lanes.new.worker)))
      (parts_of c.args.begun.lanes.items)
  serves back =
      subst (λ (v : View). Served g.O.Site.told c.args.records.now (view before)
      (meeting (keeping v) (starting v)) (parts_of c.args.begun.lanes.items)) (sym c.join_lanes.ensures.joined)
      (served (IsReady c.args.unit.now.counters c.args.unit.now.plan) g.O.Site.told c.args.records.now
      (view before) old c.args.begun.lanes.items r.split.split r.split.apart r.split.each
      r.ran.many r.ran.each (view c.args.worker.now) r.split.given few r.is_ready.free r.is_ready.filled
      c.join_lanes.ensures.meet two
      (subst (λ (v : View). Meets MOST_KEYS (keeping v) (starting v)) c.join_lanes.ensures.joined back))

pub look_back-requires-clause-two : goal.look_back-requires-clause-two
look_back-requires-clause-two g c =
    let (before, old, r) = c.requires.ran in
    has_two g (goal.at.look_back-requires-clause-two g c).After-join_lanes before old r

-- ---- what is known at the end

all_served : (g : given.Over) (c : After-place_answers-full g) (before : View)
    → (Meets MOST_KEYS (keeping (view c.join_lanes.new.worker)) (starting (view c.join_lanes.new.worker))
    → Served g.O.Site.told c.args.records.now before
    (meeting (keeping (view c.join_lanes.new.worker)) (starting (view c.join_lanes.new.worker)))
    (parts_of c.args.begun.lanes.items))
    → Served g.O.Site.told c.args.records.now before (view c.look_back.new.worker) (parts_of c.args.begun.lanes.items)
all_served g c before serves =
    subst (λ (v : View). Served g.O.Site.told c.args.records.now before v (parts_of c.args.begun.lanes.items))
    (sym c.look_back.ensures.joined) (serves c.look_back.ensures.meets)

module _ (g : given.Over) (c : After-place_answers-full g) where
  left : (n : ℕ) → left_at n c.as_mut_slice-2.result.now ≡ answers_of n (parts_of c.args.begun.lanes.items)
  left n =
      let rooms : IsGivenBack c.args.begun.parts.len c.join_lanes.new.parts c.args.begun.parts.items =
      slice_whole c.args.begun.parts.len c.join_lanes.new.parts c.args.begun.parts.items
      (c.join_lanes.ensures.many ∙ sym c.requires.rooms.many) c.args.begun.parts.ok.0 in
      ap (left_at n) (c.as_mut_slice-2.ensures.value ∙ rooms) ∙ c.join_lanes.ensures.parts n

  among : (number : ℕ) → All (Contains (parts_deeds number c.args.records.now (parts_of c.args.begun.lanes.items)))
      (deeds_of number c.args.records.now c.place_answers-full.new.answers.items)
  among number =
      let rs = c.args.records.now in
      let parts = parts_of c.args.begun.lanes.items in
      c.place_answers-full.ensures.placed (parts_deeds number rs parts) number
      (λ n. subst (AreAmong (parts_deeds number rs parts) number n rs) (sym (left n)) (each_among number rs parts n))

  stops : c.place_answers-full.result ≡ true → StopsAt c.args.records.now
      (λ n. answers_of n (parts_of c.args.begun.lanes.items)) (length c.place_answers-full.new.answers.items)
  stops full = stops_same c.args.records.now (length c.place_answers-full.new.answers.items)
      (λ n. left_at n c.as_mut_slice-2.result.now) (λ n. answers_of n (parts_of c.args.begun.lanes.items)) left
      (c.place_answers-full.ensures.stops full)

pub returns-clause-shares : goal.returns-clause-shares
returns-clause-shares g c before old r =
    let joins = (goal.at.returns-clause-shares g c).After-join_lanes in
    let end = (goal.at.returns-clause-shares g c).After-place_answers-full in
    (all_served g end (view before) (serves g joins before old r)).shares

pub returns-clause-handles : goal.returns-clause-handles
returns-clause-handles g c before old r =
    let joins = (goal.at.returns-clause-handles g c).After-join_lanes in
    let end = (goal.at.returns-clause-handles g c).After-place_answers-full in
    let known = all_served g end (view before) (serves g joins before old r) in
    let answers = c.place_answers-full.new.answers.items in
    record {
      handled = λ begin layout number b lies. known.handled begin layout number b lies answers (among g end number);
      full = λ begin b. by_flag begin (view before) (view c.look_back.new.worker) c.args.records.now
          answers c.place_answers-full.result c.place_answers-full.ensures.all
          (λ full. known.ends begin b c.requires.lanes c.requires.ascend answers (stops g end full));
      alone = λ one begin number b.
          let is_one : All (λ (task : Record). task.lane ≡ one.0) c.args.records.now =
          λ k d low. one.1 k d low (c.requires.plain k d low) in
          let in_turn = c.place_answers-full.ensures.in_turn one.0 is_one in
          known.alone one.0 is_one c.requires.lanes begin number b answers in_turn.0
          (in_turn.1 ∙ left g end one.0)
          (by_end c.place_answers-full.result c.place_answers-full.ensures.all (stops g end));
      moved = λ begin number b. known.moved begin number b answers (among g end number);
      whole = λ all. let shares = known.shares in c.look_back.ensures.whole (omega arith);
    }

-- what the lanes kept, and what was kept of others
pub returns-clause-kept : goal.returns-clause-kept
returns-clause-kept g c before old r kept =
    let joins = (goal.at.returns-clause-kept g c).After-join_lanes in
    let end = (goal.at.returns-clause-kept g c).After-place_answers-full in
    let w : View = view c.look_back.new.worker in
    let known = all_served g end (view before) (serves g joins before old r) in
    c.join_lanes.ensures.kept w.turn (kept_later (view before) w known.grows c.args.kept.now kept)
    (λ k lane low.
    let one : Lane _ = slice_index_or c.args.begun.lanes.items k lane in
    let many = r.ran.many in
    places_later (view one.worker) w
    (All-contains (λ (p : Part). KnowsMore p.knows w) (parts_of c.args.begun.lanes.items) (part_of one)
    known.parts_grow (part_among c.args.begun.lanes.items k lane low))
    one.kept.items (r.ran.each k lane (omega arith)).kept)
