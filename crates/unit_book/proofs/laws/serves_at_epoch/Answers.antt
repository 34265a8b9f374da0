use Rattle.unit_book.specs.Epoch.{epoch_state}
use Rattle.unit_book.proofs.EpochStates.{alike_served}
use Rattle.unit_book.proofs.KeptLaws.{kept_still}
use Rattle.unit_book.proofs.laws.serves_at_epoch.Goals as goal

pub returns-clause-still : goal.returns-clause-still
returns-clause-still c = λ told book kept. kept_still told book kept

pub returns-clause-served : goal.returns-clause-served
returns-clause-served c = λ told book kept.
    alike_served book.plan book.state (epoch_state book) (kept_still told book kept)
