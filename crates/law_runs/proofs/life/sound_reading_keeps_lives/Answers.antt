use Rattle.law_runs.proofs.Living.{reading_keeps_lives}
use Rattle.law_runs.proofs.life.sound_reading_keeps_lives.Goals as goal

pub returns : goal.returns
returns c =
    reading_keeps_lives (record { once = c.used_once_in_a_life.ensures; shown = c.covered_in_a_life.ensures.shown })
