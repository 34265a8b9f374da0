use Rattle.unit_drill.proofs.RanDrill.{drill_sound}
use Rattle.unit_drill.proofs.laws.drill_is_sound.Goals as goal

pub returns : goal.returns
returns c = λ number answers counts few is. drill_sound number answers counts few is
    (c.drill_is_complete.ensures number answers counts few is)
