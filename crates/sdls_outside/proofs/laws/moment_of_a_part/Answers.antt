use Rattle.sdls_outside.proofs.Moments.{moment_split}
use Rattle.sdls_outside.proofs.laws.moment_of_a_part.Goals as goal

pub returns : goal.returns
returns c = moment_split
