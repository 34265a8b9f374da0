use Rattle.unit_image.proofs.Shown.{shows_once}
use Rattle.unit_image.proofs.laws.shows_one.Goals as goal

pub returns : goal.returns
returns c = shows_once c.one_change.ensures c.one_state.ensures
