use Rattle.unit_book.proofs.EpochStates.{alike_served}
use Rattle.unit_book.proofs.laws.states_serve_alike.Goals as goal

pub returns : goal.returns
returns c = λ plan one other same. alike_served plan one other same
