use Rattle.std.proofs.Common.{sym, ◌∙◌, ap}
use Rattle.unit_plan.specs.Field.{items_left}
use Rattle.unit_plan.proofs.PartsFacts.{first_item}
use Rattle.unit_plan.proofs.lines.ItemsIterator.next.Goals as goal

pub returns-clause-steps : goal.returns-clause-steps
returns-clause-steps c = sym c.self.view_is ∙ ap items_left c.in_ok-self.was ∙ first_item _ _ _ c.cut.ensures
