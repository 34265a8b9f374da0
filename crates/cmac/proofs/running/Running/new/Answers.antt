use Rattle.std.proofs.Common.{refl}
use Rattle.cmac.specs.Cmac.{zero_block}
use Rattle.cmac.proofs.ChainFacts.{holds_nothing}
use Rattle.cmac.proofs.running.Running.new.Goals as goal

pub returns-clause-empty : goal.returns-clause-empty
returns-clause-empty c = holds_nothing c.args.key.now zero_block zero_block refl
