use Rattle.unit_drill.proofs.OpenedUnit.{opened_begins}
use Rattle.unit_drill.proofs.unit.DrillUnit.open.Goals as goal

pub returns-in-Ok : goal.returns-in-Ok
returns-in-Ok g c =
    let made = c.in-Ok.ensures.opened in
    let site = c.in_ok-site.ensures in
    opened_begins _ made.0 _ _ _ made.1 made.2 c.args.plan.now site.0 site.1 site.2 site.3
