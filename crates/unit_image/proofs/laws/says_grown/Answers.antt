use Rattle.unit_image.proofs.Turned.{says_grown}
use Rattle.unit_image.proofs.laws.says_grown.Goals as goal

pub returns : goal.returns
returns c = says_grown
