use Rattle.std.proofs.Common.{◌≡◌, ◌++◌, map}
use Rattle.link_world.specs.declared.link.LinkEvent.TheVariants.{Deliver}
use Rattle.link_world.specs.Chunk.{turns}
use Rattle.link_world.proofs.link.add_turns.Given as goal

abbrev pub invariant-loop-k : goal.invariant-loop-k
invariant-loop-k l = l.events.items ≡ l.initial.events.items ++ map Deliver (turns l.k)
