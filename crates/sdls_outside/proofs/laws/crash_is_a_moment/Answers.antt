use Rattle.sdls_outside.proofs.Moments.{moment_now}
use Rattle.sdls_outside.proofs.Crashes.{left-leaves}
use Rattle.sdls_outside.specs.Moments.{clock}
use Rattle.sdls_outside.proofs.laws.crash_is_a_moment.Goals as goal

pub returns : goal.returns
returns c = λ how trace image stays left.
    moment_now trace (clock trace) image (left-leaves how trace.now image stays left)
