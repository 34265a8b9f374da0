use Rattle.unit_drill.proofs.WholeLinkDrill.{link_complete}
use Rattle.unit_drill.proofs.laws.link_drill_is_complete.Goals as goal

pub returns : goal.returns
returns c = link_complete c.opens_once.ensures c.shows_one.ensures
