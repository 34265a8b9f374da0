use Rattle.std.proofs.Common.{ap, ◌∙◌}
use Rattle.aes_block.specs.Aes.{encrypted}
use Rattle.cmac.specs.Cmac.{last_block, xored}
use Rattle.cmac.specs.Running.{Kept}
use Rattle.cmac.proofs.ChainFacts.{closed_is}
use Rattle.cmac.proofs.running.Running.finish.Goals as goal

pub returns : goal.returns
returns c = λ m holds.
    c.closed.ensures
    ∙ ap (λ (k : Kept). encrypted k.key (xored k.chained (last_block k.key k.rest))) c.self.view_is
    ∙ closed_is c.args.self m holds
