use Rattle.unit_drill.proofs.WholeDrill.{drill_complete}
use Rattle.unit_drill.proofs.laws.drill_is_complete.Goals as goal

pub returns : goal.returns
returns c = drill_complete c.opens_once.ensures c.shows_one.ensures
