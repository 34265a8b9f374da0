use Rattle.std.proofs.Common.{subst, ◌∙◌}
use Rattle.unit_book.specs.Book.{BookView}
use Rattle.shared_unit.specs.Going.{GoesUp}
use Rattle.shared_unit.proofs.Steps.{goes_up}
use Rattle.shared_unit.proofs.shared_book.SharedBook.command.Goals as goal

pub returns-clause-goes_on : goal.returns-clause-goes_on
returns-clause-goes_on g c =
    subst (λ (b : BookView). GoesUp b c.command.new.self) (c.deref_mut.ensures.value ∙ c.self.view_is)
    (goes_up c.deref_mut.result.now c.command.new.self c.command.ensures.goes_on c.command.ensures.marks
    c.command.ensures.puts c.command.ensures.calm)
