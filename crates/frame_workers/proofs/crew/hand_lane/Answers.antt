use Rattle.std.proofs.Common.{List, ap, subst}
use Rattle.record_io.specs.declared.item_cursor.Record.{Record}
use Rattle.shared_unit.specs.Turn.{IsReady}
use Rattle.frame_workers.specs.Lanes.{HasRun}
use Rattle.frame_workers.proofs.crew.hand_lane.Goals as goal

pub returns-in-Ok-hand-clause-asked : goal.returns-in-Ok-hand-clause-asked
returns-in-Ok-hand-clause-asked g c = (
  record { unit = c.args.unit; records = c.in-Ok.records; lane = c.args.lane },
  c.in-Ok-hand.ensures.asked,
  λ after ran.
      subst (λ (tasks : List Record). HasRun (IsReady c.args.unit.now.counters c.args.unit.now.plan) g.O.Site.told tasks
      c.args.lane after)
      (ap (λ rows. rows.items) c.in-Ok.ensures) ran,
)
