use Rattle.std.proofs.Common.{◌≡◌, ◌≢◌, ℕ, ◌<◌, List, length, ◌∷◌, slice_set, refl, sym, ap, subst, ◌∙◌, arith}
use Rattle.std.specs.List.{All}
use Rattle.std.specs.Option.{IfSome}
use Rattle.std.proofs.lemmas.List.{length-set}
use Rattle.std.proofs.lemmas.List.Elements.{All-pop}
use Rattle.record_io.specs.declared.reader.TheConstants.{LANES}
use Rattle.sdls_base.specs.declared.TheConstants.{MOST_KEYS}
use Rattle.counter_table.specs.Worker.{view}
use Rattle.shared_unit.specs.Turn.{IsReady}
use Rattle.law_workers.specs.Lanes.{Part}
use Rattle.frame_workers.specs.Lanes.{HaveOwnNumbers, IsTrueLane, left_at, part_of, parts_of}
use Rattle.frame_workers.specs.Permits.{AreTrueFor}
use Rattle.frame_workers.proofs.Joins.{parts_push, parts_all, joined_next, meet_next, answers_or, none_kept, keeps_next}
use Rattle.frame_workers.proofs.Joins.{pairs_pop}
use Rattle.frame_workers.proofs.Places.{left_set, left_other}
use Rattle.frame_workers.proofs.segment.join_lanes.Goals as goal

pub lanes-init : goal.lanes-init
lanes-init g c = record {
  is_ready = c.requires.ready;
  ready = c.requires.lanes;
  apart = c.requires.apart;
  many = c.requires.many;
  joined = refl;
  kept = λ v kept lanes. (kept, lanes);
  meet = λ all. all;
  parts = λ n. ap (answers_or n (parts_of c.args.lanes.items)) (c.requires.empty n)
      ∙ none_kept n (parts_of c.args.lanes.items);
}

pub join-requires-clause-other : goal.join-requires-clause-other
join-requires-clause-other g c =
    let inv = c.lanes.invariant in
    let ready =
    (All-pop (λ lane. IsReady c.args.unit.now.counters c.args.unit.now.plan lane.worker × (lane.number < LANES))
    c.lanes.lanes.items c.pop.new.self.items c.pop.result c.pop.ensures.items inv.ready).1 in
    let one =
    subst (λ o. IfSome o (λ lane. IsReady c.args.unit.now.counters c.args.unit.now.plan lane.worker
    × (lane.number < LANES))) c.in-Some.is ready in
    subst (λ worker. IsReady c.args.unit.now.counters c.args.unit.now.plan worker)
    (sym c.into_parts-other.ensures.worker) one.0

pub bounds-parts-number : goal.bounds-parts-number
bounds-parts-number g c =
    let inv = c.lanes.invariant in
    let ready =
    (All-pop (λ lane. IsReady c.args.unit.now.counters c.args.unit.now.plan lane.worker × (lane.number < LANES))
    c.lanes.lanes.items c.pop.new.self.items c.pop.result c.pop.ensures.items inv.ready).1 in
    let one =
    subst (λ o. IfSome o (λ lane. IsReady c.args.unit.now.counters c.args.unit.now.plan lane.worker
    × (lane.number < LANES))) c.in-Some.is ready in
    let number = c.from-number.ensures in let many = inv.many in let below = one.1 in omega arith

pub lanes-preserved : goal.lanes-preserved
lanes-preserved g c =
    let inv = c.lanes.invariant in
    let items = c.in-Some.ensures.items in
    let lane = c.in-Some.lane in
    let left = c.pop.new.self.items in
    let is : parts_of c.lanes.lanes.items ≡ part_of lane ∷ parts_of left = ap parts_of items ∙ parts_push left lane in
    let other : view c.into_parts-other.result.0 ≡ view lane.worker = ap view c.into_parts-other.ensures.worker in
    let met = c.join.ensures.joined in
    let ready = All-pop (λ lane. IsReady c.args.unit.now.counters c.args.unit.now.plan lane.worker
    × (lane.number < LANES)) c.lanes.lanes.items left c.pop.result c.pop.ensures.items inv.ready in
    let one =
    subst (λ o. IfSome o (λ lane. IsReady c.args.unit.now.counters c.args.unit.now.plan lane.worker
    × (lane.number < LANES))) c.in-Some.is ready.1 in
    let apart = pairs_pop HaveOwnNumbers c.lanes.lanes.items left lane items inv.apart in
    let number : c.from-number.result ≡ lane.number = c.from-number.ensures in
    let many = inv.many in let below = one.1 in
    let low : c.from-number.result < length c.lanes.parts = omega arith in
    let kept : left_at lane.number (slice_set c.lanes.parts c.from-number.result c.into_iter.result)
    ≡ lane.answers.items =
    subst (λ (n : ℕ). left_at n (slice_set c.lanes.parts c.from-number.result c.into_iter.result) ≡ lane.answers.items)
    number
    (left_set c.lanes.parts c.from-number.result c.into_iter.result low
    ∙ (c.into_iter.ensures.rest ∙ ap (λ part. part.items) c.into_parts-other.ensures.answers)) in
    record {
      is_ready = c.join.ensures.ready;
      ready = ready.0;
      apart = apart.0;
      kept = λ v old all.
          let (kept, each) = inv.kept v old all in
          let pops = All-pop (IsTrueLane v) c.lanes.lanes.items left c.pop.result c.pop.ensures.items each in
          let own = subst (λ o. IfSome o (IsTrueLane v)) c.in-Some.is pops.1 in (
            c.keep.ensures v kept
                (subst (λ places. All (λ permits. AreTrueFor permits v) places.items)
                (sym c.into_parts-other.ensures.kept) own),
            pops.0,
          );
      many = length-set c.lanes.parts c.from-number.result c.into_iter.result ∙ inv.many;
      joined = joined_next MOST_KEYS (view c.lanes.worker) (view c.join.new.worker) (view c.into_parts-other.result.0)
          (parts_of c.lanes.lanes.items) (parts_of left)
          (part_of lane) is met other ∙ inv.joined;
      meet = λ all.
          inv.meet (meet_next MOST_KEYS (view c.lanes.worker) (view c.join.new.worker)
          (view c.into_parts-other.result.0)
          (parts_of c.lanes.lanes.items) (parts_of left) (part_of lane) is met other
          (record {
            earlier = c.join.ensures.meet.earlier;
            other_earlier = c.join.ensures.meet.other_earlier;
            drawn = λ row number few. c.join.ensures.apart row number few;
            made = c.join.ensures.meet.made;
          }) all);
      parts = λ n. keeps_next (part_of lane) (parts_of left) (λ m. left_at m c.lanes.parts)
          (λ m. left_at m (slice_set c.lanes.parts c.from-number.result c.into_iter.result))
          (parts_all (λ (p : Part). p.number ≢ lane.number) left apart.1) kept
          (λ m off. left_other c.lanes.parts c.from-number.result m c.into_iter.result (λ e. off (e ∙ number))) n
          ∙ (ap (λ (l : List Part). answers_or n l (left_at n c.lanes.parts)) (sym is) ∙ inv.parts n);
    }
