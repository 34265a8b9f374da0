use Rattle.std.proofs.Common.{refl, ◌∙◌}
use Rattle.gcm.specs.Folded.{folded}
use Rattle.gcm.proofs.BlockFacts.{fold_more}
use Rattle.gcm.proofs.hash.fold_whole.Goals as goal

pub blocks-2-init : goal.blocks-2-init
unfolding folded
blocks-2-init c = refl

pub blocks-2-preserved : goal.blocks-2-preserved
blocks-2-preserved c =
    c.product-y.ensures
    ∙ fold_more c.args.table.now c.args.start c.blocks-2.y c.args.octets.now c.blocks-2.i c.block_at.result
    c.blocks-2.invariant c.block_at.ensures
