use Rattle.std.proofs.Common.{◌≡◌, ℕ, ◌+◌, ap, ◌∙◌, arith}
use Rattle.cmac.specs.Cmac.{chain}
use Rattle.cmac.proofs.ChainFacts.{chain_none, chain_more}
use Rattle.cmac.proofs.block.chained_over.Goals as goal

pub blocks-2-init : goal.blocks-2-init
blocks-2-init c = λ whole before is at. is ∙ chain_none c.args.key.now whole before

pub blocks-2-preserved : goal.blocks-2-preserved
blocks-2-preserved c = λ whole before is at.
    chain_more c.args.key.now whole c.args.text.now c.blocks-2.last c.chained_on-next.result before c.blocks-2.i
    (c.blocks-2.invariant whole before is at) at c.chained_on-next.ensures

pub returns : goal.returns
returns c = λ whole before is at.
    let all : c.blocks-2.i ≡ c.args.blocks = omega arith in
    c.blocks-2.invariant whole before is at ∙ ap (λ (n : ℕ). chain c.args.key.now whole (before + n)) all
