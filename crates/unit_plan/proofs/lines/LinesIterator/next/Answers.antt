use Rattle.std.proofs.Common.{◌<◌, length, arith, sym, ◌∙◌, refl}
use Rattle.std.proofs.lemmas.Bool.{eqb-false}
use Rattle.unit_plan.proofs.PartsFacts.{first_line}
use Rattle.unit_plan.proofs.lines.LinesIterator.next.Goals as goal

pub returns-clause-steps : goal.returns-clause-steps
returns-clause-steps c =
    let some : 0 < length c.self.inside.rest.now =
    omega (arith, eqb-false (length c.self.inside.rest.now) 0 (sym c.is_empty.ensures ∙ c.if-is_empty.false)) in
    rw c.unwrap_or-self-inside.ensures
    (sym c.self.view_is ∙ first_line c.self.inside.rest.now _ c.cut.result.1 _ c.cut.ensures some refl)
