use Rattle.unit_image.specs.Image.{held}
use Rattle.run_promise.specs.Call.{image_at_entry}
use Rattle.law_runs.proofs.Resting.{no_records}
use Rattle.law_runs.proofs.life.no_records_are_sound.Goals as goal

pub returns : goal.returns
returns c = λ call account plan state shows empty.
    no_records _ (c.shown_keeps_rules.ensures.plan (held (image_at_entry call)).plan plan shows.says)
    (c.shown_keeps_rules.ensures.state (image_at_entry call) state shows.shows) empty
