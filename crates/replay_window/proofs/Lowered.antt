-- A window that is lowered to a floor.
use Rattle.std.proofs.Common.{◌≡◌, ℕ, ◌<◌, ◌≤◌, min, Bool, true, false, cond, nat_lt, refl, arith}
use Rattle.std.proofs.lemmas.Bool.{ltb-true, ltb-false}
use Rattle.replay_window.specs.declared.window.Window.{Window}
use Rattle.replay_window.specs.Window.{begun_at, lowered_to, field_of}

pub lowered_high : (floor : ℕ) (window : Window) → (lowered_to floor window).high ≡ min window.high floor
lowered_high floor window = by (nat_lt floor window.high) refl
  where
    by : (b : Bool) → nat_lt floor window.high ≡ b → (cond b (begun_at floor window) window).high
        ≡ min window.high floor
    by true above = let low : floor < window.high = ltb-true _ _ above in omega arith
    by false above = let high : window.high ≤ floor = ltb-false _ _ above in omega arith

-- what begins anew does not see that it was lowered before
pub begun_lowered : (high floor : ℕ) (window : Window) → begun_at high (lowered_to floor window) ≡ begun_at high window
begun_lowered high floor window = by (nat_lt floor window.high)
  where
    by : (b : Bool) → begun_at high (cond b (begun_at floor window) window) ≡ begun_at high window
    by true = refl
    by false = refl

-- nor the window field
pub lowered_field : (floor : ℕ) (window : Window) → field_of (lowered_to floor window) ≡ field_of window
lowered_field floor window = by (nat_lt floor window.high)
  where
    by : (b : Bool) → field_of (cond b (begun_at floor window) window) ≡ field_of window
    by true = refl
    by false = refl
