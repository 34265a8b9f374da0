-- Profile: what holds of the pure core at every moment.
use Rattle.std.specs.Prelude.{◌≡◌, ℕ, ◌+◌, ◌-◌, ◌<◌, ◌≤◌, ◌==◌, ◌&&◌, true, Option, Some, None, slice_get}
use Rattle.sdls_base.specs.Numbers.{one_if, tally, total, once_below}
use Rattle.sdls_world.specs.declared.world.Key.{Key}
use Rattle.sdls_world.specs.Core.{Doer, Core}

-- 1 where the number drawn last is x of the row
abbrev pub is_last : ℕ → ℕ → Option (ℕ × ℕ) → ℕ
is_last row x None = 0
is_last row x (Some p) = one_if ((p.0 == row) && (p.1 == x))

-- how often the actor drew the number and did not use it
abbrev pub unused : ℕ → ℕ → Doer → ℕ
unused row x a = tally row x a.drawn - tally row x a.spent

pub record KeyKept (row : ℕ) (k : Key) (w : Core) : Type 0 where
  -- the numbers used, and those drawn and not used, all differ and are below `next`
  pub once : (x : ℕ) → tally row x w.used + total (unused row x) w.actors ≤ once_below x k.next
  -- each number used is below the durable mark
  pub used : (x : ℕ) → tally row x w.used ≤ once_below x k.durable
  -- each funded number is below the limit
  pub funded : (i : ℕ) (a : Doer) → slice_get w.actors i ≡ Some a → (x : ℕ) → 0 < tally row x a.funded → x < k.limit
  pub lifted : k.limit ≤ k.durable
  pub stored : k.durable ≤ k.mark

-- what an actor knows of its own numbers
pub record DoerKept (a : Doer) : Type 0 where
  pub drawn : (row x : ℕ) → tally row x a.spent + is_last row x a.last ≤ tally row x a.drawn
  pub funded : a.is_funded ≡ true → (p : ℕ × ℕ) → a.last ≡ Some p → 0 < tally p.0 p.1 a.funded

pub record IsWorldKept (w : Core) : Type 0 where
  pub keys : (row : ℕ) (k : Key) → slice_get w.keys row ≡ Some k → KeyKept row k w
  pub actors : (i : ℕ) (a : Doer) → slice_get w.actors i ≡ Some a → DoerKept a
