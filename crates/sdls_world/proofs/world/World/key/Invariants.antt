use Rattle.std.proofs.Common.{◌≡◌, ℕ, ◌<◌, eqb, false, get_or}
use Rattle.sdls_world.specs.declared.world.Key.{Key}
use Rattle.sdls_world.proofs.world.World.key.Given as goal

abbrev pub invariant-loop-row : goal.invariant-loop-row
invariant-loop-row l = (j : ℕ) (d : Key) → j < l.row → eqb (get_or l.key-items j d).id l.id ≡ false
