use Rattle.sdls_world.proofs.Moments.{answers_keep}
use Rattle.sdls_world.proofs.world.World.run.Goals as goal

pub returns-clause-kept : goal.returns-clause-kept
returns-clause-kept c = answers_keep c.change_all.result c.args.self.now c.change_all.new.self c.args.steps.now
    c.change_all.ensures.ok c.change_all.ensures.err
