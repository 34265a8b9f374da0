use Rattle.unit_image.proofs.Outside.{rest_image_left}
use Rattle.unit_image.proofs.laws.rest_stays_whole.Goals as goal

pub returns : goal.returns
returns c = rest_image_left c.rest_is_whole.ensures
