use Rattle.unit_image.proofs.Turned.{says_turned}
use Rattle.unit_image.proofs.laws.says_turned.Goals as goal

pub returns : goal.returns
returns c = says_turned c.restarts_once.ensures
