use Rattle.law_history.proofs.OneOpening.{opening_one}
use Rattle.law_history.proofs.one.openings_tell_one.Goals as goal

pub returns : goal.returns
returns c = λ plan state link frame reply other field again is also.
    let one = opening_one c.opens_once.ensures plan state link frame reply field other again is also in
    (one.told, one.change)
