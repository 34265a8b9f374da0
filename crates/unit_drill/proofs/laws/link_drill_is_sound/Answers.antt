use Rattle.unit_drill.proofs.RanLinkDrill.{link_sound}
use Rattle.unit_drill.proofs.laws.link_drill_is_sound.Goals as goal

pub returns : goal.returns
returns c = λ number answers counts few is. link_sound number answers counts few is
    (c.link_drill_is_complete.ensures number answers counts few is)
