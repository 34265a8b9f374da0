use Rattle.std.proofs.Common.{arith}
use Rattle.sdls_base.proofs.Differences.{each_more, same_each}
use Rattle.sdls_base.proofs.octets.differences.Goals as goal

pub loop-i-preserved : goal.loop-i-preserved
loop-i-preserved c = each_more c.args.left.now c.args.right.now c.loop-i.found c.loop-i.i c.loop-i.invariant

pub returns : goal.returns
returns c =
    let same = same_each c.args.left.now c.args.right.now c.requires in (
      (λ none. same.0 (λ k low. c.loop-i.invariant.0 none k (omega arith))),
      (λ e. c.loop-i.invariant.1 (λ k low. same.1 e k (omega arith))),
    )
