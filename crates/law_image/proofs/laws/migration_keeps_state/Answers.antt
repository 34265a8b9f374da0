use Rattle.law_image.proofs.Images.{shown_throughout}
use Rattle.law_image.proofs.laws.migration_keeps_state.Goals as goal

pub returns : goal.returns
returns c = shown_throughout c.shows_one.ensures
