use Rattle.unit_image.proofs.Turned.{says_migrated}
use Rattle.unit_image.proofs.laws.says_migrated.Goals as goal

pub returns : goal.returns
returns c = says_migrated
