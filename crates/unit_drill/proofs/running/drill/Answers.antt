use Rattle.sdls_outside.specs.Faults.{Rose}
use Rattle.unit_drill.proofs.Ending.{ends_drill}
use Rattle.unit_drill.proofs.running.drill.Goals as goal

pub returns-clause-ends : goal.returns-clause-ends
returns-clause-ends g c =
    ends_drill (λ text. text.items) c.args.number g.O.Site.told (g.O.Site.trace c.args.site)
    (g.O.Site.trace c.end_made.result.site)
    (Rose (g.O.Site.faults c.args.site) (g.O.Site.faults c.end_made.result.site)) c.end_made.result.status
    c.line_of.result
    c.line_of.ensures c.end_made.ensures.written c.end_made.ensures.wanting
