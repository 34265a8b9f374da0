use Rattle.std.proofs.Common.{arith}
use Rattle.shared_unit.proofs.Tops.{drawn_ok}
use Rattle.shared_unit.proofs.unit.Unit.draw_below.Goals as goal

pub returns-then-number-end-clause-drawn : goal.returns-then-number-end-clause-drawn
returns-then-number-end-clause-drawn g c =
    let f = c.in-Armed.ensures.found in
    let e = c.draw-ticket.ensures in
    let b = c.number-number.ensures in
    drawn_ok _ _ f.0 c.in-Armed.armed _ _ _ _ f.3.0 f.1 f.2 f.3.1 e.row e.found e.positive e.numbers (omega arith)
