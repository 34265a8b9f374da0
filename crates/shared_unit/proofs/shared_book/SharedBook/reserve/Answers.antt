use Rattle.std.proofs.Common.{subst, ◌∙◌}
use Rattle.unit_book.specs.Book.{BookView}
use Rattle.shared_unit.specs.Going.{GoesUp}
use Rattle.shared_unit.proofs.Steps.{goes_up}
use Rattle.shared_unit.proofs.shared_book.SharedBook.reserve.Goals as goal

pub returns-clause-goes_on : goal.returns-clause-goes_on
returns-clause-goes_on g c =
    subst (λ (b : BookView). GoesUp b c.reserve.new.self) (c.deref_mut.ensures.value ∙ c.self.view_is)
    (goes_up c.deref_mut.result.now c.reserve.new.self c.reserve.ensures.goes_on c.reserve.ensures.marks
    c.reserve.ensures.puts c.reserve.ensures.calm)
