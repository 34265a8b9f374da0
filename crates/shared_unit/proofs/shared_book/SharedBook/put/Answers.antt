use Rattle.std.proofs.Common.{subst, ap, ◌∙◌}
use Rattle.unit_book.specs.Book.{BookView}
use Rattle.unit_book.specs.Log.{sunk_between}
use Rattle.shared_unit.specs.Going.{GoesUp}
use Rattle.shared_unit.proofs.Steps.{goes_up_put}
use Rattle.shared_unit.proofs.shared_book.SharedBook.put.Goals as goal

pub returns-clause-goes_on : goal.returns-clause-goes_on
returns-clause-goes_on g c =
    subst (λ (b : BookView). GoesUp b c.put.new.self) (c.deref_mut.ensures.value ∙ c.self.view_is)
    (goes_up_put (sunk_between c.deref_mut.result.now.site.trace c.put.new.self.site.trace) c.put.result
    c.deref_mut.result.now c.put.new.self c.put.ensures.goes_on c.put.ensures.marks
    (ap (λ (b : BookView). b.log) c.put.ensures.made) c.put.ensures.puts c.put.ensures.stood)
