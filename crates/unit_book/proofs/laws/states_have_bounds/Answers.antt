use Rattle.unit_book.proofs.KeptLaws.{bounds_of}
use Rattle.unit_book.proofs.laws.states_have_bounds.Goals as goal

pub returns : goal.returns
returns c = λ state rules. bounds_of state rules
