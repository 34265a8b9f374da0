use Rattle.std.proofs.Common.{◌≡◌, ℕ, ◌<◌, eqb, false, get_or}
use Rattle.sdls_world.specs.Core.{Doer}
use Rattle.sdls_world.proofs.world.World.actor.Given as goal

abbrev pub invariant-loop-place : goal.invariant-loop-place
invariant-loop-place l = (j : ℕ) (d : Doer) → j < l.place → eqb (get_or l.actor-items j d).id l.id ≡ false
