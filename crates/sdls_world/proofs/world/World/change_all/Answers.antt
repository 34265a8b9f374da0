use Rattle.std.proofs.Common.{◌∙◌, ap, sym, arith}
use Rattle.sdls_world.specs.Core.{Core, world_after}
use Rattle.sdls_world.proofs.Moments.{after_more}
use Rattle.sdls_world.proofs.world.World.change_all.Goals as goal

pub loop-step-preserved : goal.loop-step-preserved
loop-step-preserved c =
    let step = c.step-item.result in
    c.in_ok-change.ensures.ok
    ∙ (ap (λ (w : Core). world_after w step) c.loop-step.invariant
    ∙ sym (after_more c.args.self.now c.args.steps.now c.loop-step.step-index step (omega arith) c.step-item.is))
