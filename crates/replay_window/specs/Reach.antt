-- What contracts see of an anti-replay window (profile).
use Rattle.std.specs.Prelude.{ℕ, refl}
use Rattle.std.specs.Coded.{Coded, code_by, coded×, coded_ℕ}
use Rattle.std.specs.Ordering.{nat_cmp}
use Rattle.std.specs.FinSet as set

-- The highest number accepted, how far above it a number may lie, the number at which the window was begun, how far
-- below the highest a number may lie, and the numbers that were accepted since it was begun, of the last 64.
pub record Reach : Type 0 where
  pub high : ℕ
  pub width : ℕ
  pub base : ℕ
  pub back : ℕ
  pub taken : set.FinSet nat_cmp

-- a reach is stored as its parts
abbrev pub reach_code : Coded Reach
reach_code =
    code_by (ℕ × (ℕ × (ℕ × (ℕ × set.FinSet nat_cmp))))
    (coded× coded_ℕ (coded× coded_ℕ (coded× coded_ℕ (coded× coded_ℕ (set.code coded_ℕ)))))
    (λ r. (r.high, (r.width, (r.base, (r.back, r.taken)))))
    (λ p. record { high = p.0; width = p.1.0; base = p.1.1.0; back = p.1.1.1.0; taken = p.1.1.1.1 })
    (λ _. refl)
