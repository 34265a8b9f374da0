use Rattle.sdls_world.proofs.Moments.{answer_keeps}
use Rattle.sdls_world.proofs.world.World.step.Goals as goal

pub returns-clause-kept : goal.returns-clause-kept
returns-clause-kept c = answer_keeps c.change.result c.args.self.now c.change.new.self c.args.step.now
    c.change.ensures.ok c.change.ensures.err
