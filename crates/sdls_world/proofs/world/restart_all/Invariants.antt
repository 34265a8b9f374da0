use Rattle.std.proofs.Common.{◌≡◌, ℕ, ◌<◌, ◌≤◌, length, get_or}
use Rattle.sdls_world.specs.declared.world.Key.{Key}
use Rattle.sdls_world.specs.Core.{restarted}
use Rattle.sdls_world.proofs.world.restart_all.Given as goal

abbrev pub invariant-loop-row : goal.invariant-loop-row
invariant-loop-row l = record {
  all : length l.fn.keys.items ≡ l.row-end;
  size : length l.keys.items ≡ length l.fn.keys.items;
  done : (j : ℕ) (d : Key) → j < l.row → get_or l.keys.items j d ≡ restarted (get_or l.fn.keys.items j d);
  rest : (j : ℕ) (d : Key) → l.row ≤ j → get_or l.keys.items j d ≡ get_or l.fn.keys.items j d;
}
