use Rattle.std.proofs.Common.{sym, ◌∙◌, ap}
use Rattle.unit_plan.specs.Lines.{words_left}
use Rattle.unit_plan.proofs.PartsFacts.{first_word}
use Rattle.unit_plan.proofs.lines.WordsIterator.next.Goals as goal

pub returns-clause-steps : goal.returns-clause-steps
returns-clause-steps c = sym c.self.view_is ∙ ap words_left c.in_ok-self.was ∙ first_word _ _ _ c.cut.ensures
