-- Numbers that a window accepts no more, whatever window field it is given (profile).
use Rattle.std.specs.Prelude.{ℕ, ◌-◌, ◌≤◌, ◌⊎◌, Contains}
use Rattle.std.specs.FinSet as set
use Rattle.replay_window.specs.declared.TheConstants.{MOST_BACK}
use Rattle.replay_window.specs.declared.window.Window.{Window}

-- n is at most the base, or further below the highest number than any back window reaches, or was accepted
pub record IsPast (window : Window) (n : ℕ) : Type 0 where
  pub up_to_high : n ≤ window.high
  pub cause : (n ≤ window.base) ⊎ (MOST_BACK ≤ window.high - n) ⊎ Contains (set.items window.taken) n
