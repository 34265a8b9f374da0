use Rattle.std.proofs.Common.{List, sym, subst}
use Rattle.counter_table.specs.Worker.{view}
use Rattle.record_io.specs.declared.item_cursor.Record.{Record}
use Rattle.shared_unit.specs.Turn.{IsReady}
use Rattle.frame_workers.specs.Lanes.{HaveRun}
use Rattle.frame_workers.specs.Segment.{RanFrom}
use Rattle.frame_workers.proofs.crew.run_segment_by.Given as given
use Rattle.frame_workers.proofs.crew.run_segment_by.Goals as goal
use Rattle.frame_workers.proofs.crew.run_segment_by.Goals.{After-run_by_crew}

module _ (g : given.Over) (c : After-run_by_crew g) where
  ran_from : RanFrom (IsReady c.args.unit.now.counters c.args.unit.now.plan) g.O.Site.told c.args.records.now
      c.args.worker.now (view c.begin_segment.new.worker) c.in_ok-begun.begun.lanes.items
      c.run_by_crew.new.lanes.items
  ran_from = record {
    is_ready = c.requires.ready;
    enough = c.requires.shares;
    split = c.in_ok-begun.ensures.split;
    ran = subst (λ (rows : List Record). HaveRun (IsReady c.args.unit.now.counters c.args.unit.now.plan)
        g.O.Site.told rows c.in_ok-begun.begun.lanes.items c.run_by_crew.new.lanes.items) (sym c.requires.same)
        c.run_by_crew.ensures.ran;
  }

pub end_segment-segment-requires-clause-ran : goal.end_segment-segment-requires-clause-ran
end_segment-segment-requires-clause-ran g c = (
  c.args.worker.now,
  c.in_ok-begun.begun.lanes.items,
  ran_from g (goal.at.end_segment-segment-requires-clause-ran g c).After-run_by_crew,
)

pub returns-clause-shares : goal.returns-clause-shares
returns-clause-shares g c =
    let ran = ran_from g (goal.at.returns-clause-shares g c).After-run_by_crew in
    c.end_segment-segment.ensures.shares c.args.worker.now c.in_ok-begun.begun.lanes.items ran

pub returns-clause-handles : goal.returns-clause-handles
returns-clause-handles g c =
    let ran = ran_from g (goal.at.returns-clause-handles g c).After-run_by_crew in
    c.end_segment-segment.ensures.handles c.args.worker.now c.in_ok-begun.begun.lanes.items ran

pub returns-clause-kept : goal.returns-clause-kept
returns-clause-kept g c =
    let ran = ran_from g (goal.at.returns-clause-kept g c).After-run_by_crew in
    c.drop_behind_command.ensures.left (view c.end_segment-segment.new.worker).turn
    (c.end_segment-segment.ensures.kept c.args.worker.now c.in_ok-begun.begun.lanes.items ran
    (c.begin_segment.ensures.left (view c.args.worker.now).turn c.requires.kept))
