use Rattle.sdls_outside.proofs.Moments.{moment_now}
use Rattle.sdls_outside.proofs.laws.moment_of_now.Goals as goal

pub returns : goal.returns
returns c = moment_now
