use Rattle.sdls_outside.proofs.Moments.{moment_earlier}
use Rattle.sdls_outside.proofs.laws.moment_since_earlier.Goals as goal

pub returns : goal.returns
returns c = moment_earlier
