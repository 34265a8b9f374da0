-- Sums of numbers without carries, in any order.
use Rattle.std.proofs.Common.{◌≡◌, ℕ, zero, suc, ◌+◌, ◌*◌, ◌%◌, ◌<◌, bit_xor, sym, ap, ◌∙◌, arith}
use Rattle.std.specs.Int.Bits.{xor_zero_l, xor_zero_r, xor_assoc, xor_self, xor_comm}
use Rattle.std.proofs.Math.Nat.{zero-mul, one-mul}

pub xor_left_comm : (a b c : ℕ) → bit_xor a (bit_xor b c) ≡ bit_xor b (bit_xor a c)
xor_left_comm a b c = sym (xor_assoc a b c) ∙ ap (λ (x : ℕ). bit_xor x c) (xor_comm a b) ∙ xor_assoc b a c

-- what is added twice is gone
pub xor_gone : (a b : ℕ) → bit_xor a (bit_xor a b) ≡ b
xor_gone a b = sym (xor_assoc a a b) ∙ ap (λ (x : ℕ). bit_xor x b) (xor_self a) ∙ xor_zero_l b

pub xor_four : (a b c d : ℕ) → bit_xor (bit_xor a b) (bit_xor c d) ≡ bit_xor (bit_xor a c) (bit_xor b d)
xor_four a b c d = xor_assoc a b (bit_xor c d) ∙ ap (bit_xor a) (xor_left_comm b c d)
    ∙ sym (xor_assoc a c (bit_xor b d))

-- a sum of bits times a number
pub sum_scale : (p q v : ℕ) → p < 2 → q < 2 → (p + q) % 2 * v ≡ bit_xor (p * v) (q * v)
sum_scale zero zero v lp lq = simp zero-mul
sum_scale zero (suc zero) v lp lq = simp (zero-mul, one-mul, xor_zero_l)
sum_scale (suc zero) zero v lp lq = simp (zero-mul, one-mul, xor_zero_r)
sum_scale (suc zero) (suc zero) v lp lq = simp (zero-mul, one-mul, xor_self)
sum_scale zero (suc (suc q)) v lp lq = absurd (omega arith)
sum_scale (suc zero) (suc (suc q)) v lp lq = absurd (omega arith)
sum_scale (suc (suc p)) q v lp lq = absurd (omega arith)
