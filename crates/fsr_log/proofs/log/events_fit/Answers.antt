use Rattle.fsr_log.proofs.Noting.{fit}
use Rattle.fsr_log.proofs.log.events_fit.Goals as goal

pub returns : goal.returns
returns c = fit
