use Rattle.std.proofs.Common.{◌≡◌, ℕ, ◌<◌, ◌++◌, length, take, drop, sym, ap, subst, ◌∙◌}
use Rattle.std.proofs.Common.{slice_index_or}
use Rattle.counter_table.specs.Worker.{view}
use Rattle.shared_unit.specs.Turn.{IsReady}
use Rattle.frame_workers.specs.Lanes.{HasRun}
use Rattle.frame_workers.specs.Segment.{RanFrom}
use Rattle.frame_workers.proofs.Segments.{IsGivenBack, slice_whole}
use Rattle.frame_workers.proofs.segment.run_segment.Given as given
use Rattle.frame_workers.proofs.segment.run_segment.Goals as goal
use Rattle.frame_workers.proofs.segment.run_segment.Goals.{After-run_lanes}

module _ (g : given.Over) (c : After-run_lanes g) where
  ran_from : RanFrom (IsReady c.args.unit.now.counters c.args.unit.now.plan) g.O.Site.told c.args.records.now
      c.args.worker.now (view c.begin_segment.new.worker) c.in_ok-begun.begun.lanes.items
      (take c.in_ok-begun.begun.lanes.len (c.run_lanes.new.lanes
      ++ drop (length c.run_lanes.new.lanes) c.in_ok-begun.begun.lanes.items))
  ran_from =
      let old = c.in_ok-begun.begun.lanes.items in let new = c.run_lanes.new.lanes in
      let ready = IsReady c.args.unit.now.counters c.args.unit.now.plan in
      let many : length new ≡ length old = c.run_lanes.ensures.many ∙ ap length c.as_mut_slice.ensures.value in
      let whole : IsGivenBack c.in_ok-begun.begun.lanes.len new old =
      slice_whole c.in_ok-begun.begun.lanes.len new old many c.in_ok-begun.begun.lanes.ok.0 in
      subst (λ l. RanFrom ready g.O.Site.told c.args.records.now c.args.worker.now (view c.begin_segment.new.worker)
      old l) (sym whole) (record {
        is_ready = c.requires.ready;
        enough = c.requires.shares;
        split = c.in_ok-begun.ensures.split;
        ran = record {
          many = many;
          each = subst (λ l. (k : ℕ) (d : _) → k < length l
              → HasRun ready g.O.Site.told c.args.records.now (slice_index_or l k d) (slice_index_or new k d))
              c.as_mut_slice.ensures.value c.run_lanes.ensures.ran;
        };
      })

pub end_segment-requires-clause-ran : goal.end_segment-requires-clause-ran
end_segment-requires-clause-ran g c = (
  c.args.worker.now,
  c.in_ok-begun.begun.lanes.items,
  ran_from g (goal.at.end_segment-requires-clause-ran g c).After-run_lanes,
)

pub returns-clause-shares : goal.returns-clause-shares
returns-clause-shares g c =
    let ran = ran_from g (goal.at.returns-clause-shares g c).After-run_lanes in
    c.end_segment.ensures.shares c.args.worker.now c.in_ok-begun.begun.lanes.items ran

pub returns-clause-handled : goal.returns-clause-handled
returns-clause-handled g c =
    let ran = ran_from g (goal.at.returns-clause-handled g c).After-run_lanes in
    (c.end_segment.ensures.handles c.args.worker.now c.in_ok-begun.begun.lanes.items ran).handled

pub returns-clause-full : goal.returns-clause-full
returns-clause-full g c =
    let ran = ran_from g (goal.at.returns-clause-full g c).After-run_lanes in
    (c.end_segment.ensures.handles c.args.worker.now c.in_ok-begun.begun.lanes.items ran).full

pub returns-clause-alone : goal.returns-clause-alone
returns-clause-alone g c =
    let ran = ran_from g (goal.at.returns-clause-alone g c).After-run_lanes in
    (c.end_segment.ensures.handles c.args.worker.now c.in_ok-begun.begun.lanes.items ran).alone

pub returns-clause-moved : goal.returns-clause-moved
returns-clause-moved g c =
    let ran = ran_from g (goal.at.returns-clause-moved g c).After-run_lanes in
    (c.end_segment.ensures.handles c.args.worker.now c.in_ok-begun.begun.lanes.items ran).moved

pub returns-clause-whole : goal.returns-clause-whole
returns-clause-whole g c =
    let ran = ran_from g (goal.at.returns-clause-whole g c).After-run_lanes in
    (c.end_segment.ensures.handles c.args.worker.now c.in_ok-begun.begun.lanes.items ran).whole
