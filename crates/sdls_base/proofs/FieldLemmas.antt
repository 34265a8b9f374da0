-- Octets of a header, one by one.
use Rattle.std.proofs.Common.{◌≡◌, ℕ, zero, suc, ◌+◌, ◌*◌, ◌^◌, ◌<◌, ◌≤◌, Bool, true, false, ◌∷◌, List, [], ◌++◌}
use Rattle.std.proofs.Common.{length, get_or, drop, refl, arith}
use Rattle.std.specs.Prelude.{◌==◌}
use Rattle.std.specs.Int.{w16, from_be_bytes}
use mir.Val.{bool_byte}
use Rattle.sdls_base.specs.Fields.{bit}

pub cells_five : {a b c d e a' b' c' d' e' : ℕ} → a ≡ a' → b ≡ b' → c ≡ c' → d ≡ d' → e ≡ e'
    → (a ∷ b ∷ c ∷ d ∷ e ∷ []) ≡ (a' ∷ b' ∷ c' ∷ d' ∷ e' ∷ [])
cells_five p q r s t = cc

pub cells_six : {a b c d e f a' b' c' d' e' f' : ℕ} → a ≡ a' → b ≡ b' → c ≡ c' → d ≡ d' → e ≡ e' → f ≡ f'
    → (a ∷ b ∷ c ∷ d ∷ e ∷ f ∷ []) ≡ (a' ∷ b' ∷ c' ∷ d' ∷ e' ∷ f' ∷ [])
cells_six p q r s t u = cc

-- a list of enough octets begins with the octets at its first places
pub front_five : (s : List ℕ) → 5 ≤ length s
    → s ≡ (get_or s 0 0 ∷ get_or s 1 0 ∷ get_or s 2 0 ∷ get_or s 3 0 ∷ get_or s 4 0 ∷ []) ++ drop 5 s
front_five [] h = absurd (omega arith)
front_five (a ∷ []) h = absurd (omega arith)
front_five (a ∷ b ∷ []) h = absurd (omega arith)
front_five (a ∷ b ∷ c ∷ []) h = absurd (omega arith)
front_five (a ∷ b ∷ c ∷ d ∷ []) h = absurd (omega arith)
front_five (a ∷ b ∷ c ∷ d ∷ e ∷ s) h = refl

pub front_six : (s : List ℕ) → 6 ≤ length s
    → s ≡ (get_or s 0 0 ∷ get_or s 1 0 ∷ get_or s 2 0 ∷ get_or s 3 0 ∷ get_or s 4 0 ∷ get_or s 5 0 ∷ []) ++ drop 6 s
front_six [] h = absurd (omega arith)
front_six (a ∷ []) h = absurd (omega arith)
front_six (a ∷ b ∷ []) h = absurd (omega arith)
front_six (a ∷ b ∷ c ∷ []) h = absurd (omega arith)
front_six (a ∷ b ∷ c ∷ d ∷ []) h = absurd (omega arith)
front_six (a ∷ b ∷ c ∷ d ∷ e ∷ []) h = absurd (omega arith)
front_six (a ∷ b ∷ c ∷ d ∷ e ∷ f ∷ s) h = refl

pub bit_small : (b : Bool) → bit b < 2
bit_small false = omega arith
bit_small true = omega arith

-- a bit as it is read, and read again
pub bit_of_digit : (m : ℕ) → m < 2 → bit (m == 1) ≡ m
bit_of_digit zero h = refl
bit_of_digit (suc zero) h = refl
bit_of_digit (suc (suc m)) h = absurd (omega arith)

pub digit_of_bit : (b : Bool) → (bit b == 1) ≡ b
digit_of_bit false = refl
digit_of_bit true = refl

-- a bool as the code makes a number of it
pub bool_byte_is : (b : Bool) → bool_byte b ≡ bit b
bool_byte_is false = refl
bool_byte_is true = refl

pub word : (a b : ℕ) → from_be_bytes w16 (a ∷ b ∷ []) ≡ a * 2 ^ 8 + b
word a b = omega arith
