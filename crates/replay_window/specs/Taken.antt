-- The 64 bits that stand for the numbers of a window: bit i is the number i below the highest one.
use Rattle.std.specs.Prelude.{ℕ, zero, suc, ◌+◌, ◌-◌, ◌^◌, ◌<◌, ◌≤◌, ◌==◌, if◌then◌else◌}
use Rattle.std.specs.Int.{bit_at}
use Rattle.std.specs.Ordering.{nat_cmp}
use Rattle.std.specs.FinSet as set

-- the numbers of the first so many bits
abbrev pub of_bits : ℕ → ℕ → ℕ → set.FinSet nat_cmp
of_bits high bits zero = set.empty
of_bits high bits (suc i) =
    if bit_at bits i == 1 then set.insert (of_bits high bits i) (high - i) else of_bits high bits i

unfoldable pub taken_of : ℕ → ℕ → set.FinSet nat_cmp
taken_of high bits = of_bits high bits 64

-- the first so many bits of the numbers
abbrev pub to_bits : ℕ → set.FinSet nat_cmp → ℕ → ℕ
to_bits high taken zero = 0
to_bits high taken (suc i) = (if set.contains taken (high - i) then 2 ^ i else 0) + to_bits high taken i

unfoldable pub bits_of : ℕ → set.FinSet nat_cmp → ℕ
bits_of high taken = to_bits high taken 64

-- Each bit that is set stands for a number above the base.
pub record AreAbove (base high bits : ℕ) : Type 0 where
  pub order : base ≤ high
  pub above : bits < 2 ^ (high - base)
  pub word : bits < 2 ^ 64
