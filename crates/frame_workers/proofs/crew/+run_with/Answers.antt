use Rattle.std.proofs.Common.{◌≡◌, List, Some, slice_get, ap, ◌∙◌, subst}
use Rattle.record_io.specs.declared.item_cursor.Record.{Record}
use Rattle.std.specs.Arc.{arc_value}
use Rattle.shared_unit.specs.Turn.{IsReady}
use Rattle.frame_workers.specs.Lanes.{HasRun}
use Rattle.frame_workers.proofs.Crews.{follows, have_run, stays}
use Rattle.frame_workers.proofs.crew.+run_with.Goals as goal

pub returns-in-Ok-clause-ran : goal.returns-in-Ok-clause-ran
returns-in-Ok-clause-ran g t c =
    let (task, asked, runs) = c.in-Ok.ensures.asked in
    let (more, jobs) = c.run_with.ensures.grows in
    let there : slice_get c.run_with.new.jobs c.in-Ok.place ≡ Some task =
    subst (λ l. slice_get l c.in-Ok.place ≡ Some task) jobs
    (stays c.hand_lane.new.jobs more c.in-Ok.place task asked) in
    have_run (IsReady c.args.unit.now.counters c.args.unit.now.plan) g.O.Site.told (arc_value c.args.records.now).items
    c.pop.new.self.items c.run_with.new.lanes.items
    c.args.lanes.now.items c.push_reserved.new.self.items c.in-Some.lane c.take.result c.in-Some.ensures.items
    c.push_reserved.ensures.items c.run_with.ensures.ran (runs c.take.result (c.take.ensures.done task there))

pub returns-in-Ok-clause-grows : goal.returns-in-Ok-clause-grows
returns-in-Ok-clause-grows g t c =
    follows c.args.jobs.now c.hand_lane.new.jobs c.take.new.jobs c.hand_lane.ensures.grows
    (follows c.hand_lane.new.jobs c.run_with.new.jobs c.take.new.jobs c.run_with.ensures.grows c.take.ensures.grows)

pub returns-in-Err-clause-ran : goal.returns-in-Err-clause-ran
returns-in-Err-clause-ran g t c =
    have_run (IsReady c.args.unit.now.counters c.args.unit.now.plan) g.O.Site.told (arc_value c.args.records.now).items
    c.pop.new.self.items c.run_with-in-Err.new.lanes.items
    c.args.lanes.now.items c.push_reserved-in-Err.new.self.items c.in-Some.lane c.run_lane.new.lane
    c.in-Some.ensures.items c.push_reserved-in-Err.ensures.items c.run_with-in-Err.ensures.ran
    (subst (λ lane. HasRun (IsReady c.args.unit.now.counters c.args.unit.now.plan) g.O.Site.told
    (arc_value c.args.records.now).items lane c.run_lane.new.lane) c.in-Err.ensures.back
    (subst (λ (tasks : List Record). HasRun (IsReady c.args.unit.now.counters c.args.unit.now.plan) g.O.Site.told tasks
    c.in-Err.lane c.run_lane.new.lane)
    (c.deref-in-Err.ensures.value ∙ ap (λ rows. rows.items) c.deref.ensures) c.run_lane.ensures.ran))
