use Rattle.sdls_run.proofs.Calling.{are_life}
use Rattle.sdls_run.proofs.laws.calls_are_a_life.Goals as goal

pub returns : goal.returns
returns c = λ first image calls begins may. are_life c.used_once_in_a_life.ensures first begins calls image may
