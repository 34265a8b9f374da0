use Rattle.std.proofs.Common.{◌≡◌, take}
use Rattle.sdls_world.specs.Core.{world_after_all}
use Rattle.sdls_world.proofs.world.World.change_all.Given as goal

abbrev pub invariant-loop-step : goal.invariant-loop-step
invariant-loop-step l = l.self ≡ world_after_all l.fn.self (take l.step-index l.steps)
