-- Remainders by the generator of the frame error control field.
use Rattle.std.proofs.Common.{◌≡◌, ℕ, zero, suc, ◌+◌, ◌-◌, ◌*◌, ◌^◌, ◌<◌, ◌≤◌, List, [], ◌∷◌, ◌++◌, length, get_or}
use Rattle.std.proofs.Common.{refl, sym, ◌∙◌, ap, subst, arith, add-zero, zero-add, pow-suc, append_assoc, append-nil}
use Rattle.std.proofs.Common.{length-append, Bool, true, false, lit<}
use Rattle.std.specs.Prelude.{bit_xor, fold, nat_lt}
use Rattle.std.proofs.lemmas.Bool.{ltb-true, ltb-false}
use Rattle.std.proofs.lemmas.Nat.{xor_comm, xor_lt, xor_block, pow_pos, pow-add, leading_top}
use lib.Bits.{xor_assoc, xor_self, xor_zero_r, xor_shifted}
use Rattle.sdls_base.specs.ErrorControl.{times_generator, IsRemainder, polynomial, dividend, times_x, after_octet}
use Rattle.sdls_base.specs.ErrorControl.{frame_error_control}

-- times x^k is linear
pub shift_sum : (a b k : ℕ) → bit_xor a b * 2 ^ k ≡ bit_xor (a * 2 ^ k) (b * 2 ^ k)
shift_sum a b k =
    let e : bit_xor (a * 2 ^ k + 0) (b * 2 ^ k + 0) ≡ bit_xor a b * 2 ^ k + bit_xor 0 0 =
    xor_block k a b 0 0 (pow_pos k) (pow_pos k) in
    sym (add-zero (bit_xor a b * 2 ^ k)) ∙ sym e ∙ ap (λ n. bit_xor n (b * 2 ^ k + 0)) (add-zero (a * 2 ^ k))
    ∙ ap (λ n. bit_xor (a * 2 ^ k) n) (add-zero (b * 2 ^ k))

-- (a + b) + (c + d) is (a + c) + (b + d)
pub sum_four : (a b c d : ℕ) → bit_xor (bit_xor a b) (bit_xor c d) ≡ bit_xor (bit_xor a c) (bit_xor b d)
sum_four a b c d =
    xor_assoc a b (bit_xor c d) ∙ ap (λ n. bit_xor a n)
    (sym (xor_assoc b c d) ∙ ap (λ n. bit_xor n d) (xor_comm b c) ∙ xor_assoc c b d)
    ∙ sym (xor_assoc a c (bit_xor b d))

pub times_generator_sum : (a b : ℕ) → times_generator (bit_xor a b) ≡ bit_xor (times_generator a) (times_generator b)
times_generator_sum a b =
    ap (λ n. bit_xor (bit_xor n (bit_xor a b * 2 ^ 12)) (bit_xor (bit_xor a b * 2 ^ 5) (bit_xor a b)))
    (shift_sum a b 16)
    ∙ ap (λ n. bit_xor (bit_xor (bit_xor (a * 2 ^ 16) (b * 2 ^ 16)) n) (bit_xor (bit_xor a b * 2 ^ 5) (bit_xor a b)))
    (shift_sum a b 12)
    ∙ ap (λ n. bit_xor (bit_xor (bit_xor (a * 2 ^ 16) (b * 2 ^ 16)) (bit_xor (a * 2 ^ 12) (b * 2 ^ 12)))
    (bit_xor n (bit_xor a b))) (shift_sum a b 5)
    ∙ ap (λ n. bit_xor n (bit_xor (bit_xor (a * 2 ^ 5) (b * 2 ^ 5)) (bit_xor a b)))
    (sum_four (a * 2 ^ 16) (b * 2 ^ 16) (a * 2 ^ 12) (b * 2 ^ 12))
    ∙ ap (λ n. bit_xor (bit_xor (bit_xor (a * 2 ^ 16) (a * 2 ^ 12)) (bit_xor (b * 2 ^ 16) (b * 2 ^ 12))) n)
    (sum_four (a * 2 ^ 5) (b * 2 ^ 5) a b)
    ∙ sum_four (bit_xor (a * 2 ^ 16) (a * 2 ^ 12)) (bit_xor (b * 2 ^ 16) (b * 2 ^ 12)) (bit_xor (a * 2 ^ 5) a)
    (bit_xor (b * 2 ^ 5) b)

swap_shifts : (q k : ℕ) → (q * 2 ^ 1) * 2 ^ k ≡ (q * 2 ^ k) * 2 ^ 1
swap_shifts q k = grind arith

pub times_generator_double : (q : ℕ) → times_generator (q * 2 ^ 1) ≡ times_generator q * 2 ^ 1
times_generator_double q =
    ap (λ n. bit_xor (bit_xor n ((q * 2 ^ 1) * 2 ^ 12)) (bit_xor ((q * 2 ^ 1) * 2 ^ 5) (q * 2 ^ 1))) (swap_shifts q 16)
    ∙ ap (λ n. bit_xor (bit_xor ((q * 2 ^ 16) * 2 ^ 1) n) (bit_xor ((q * 2 ^ 1) * 2 ^ 5) (q * 2 ^ 1)))
    (swap_shifts q 12)
    ∙ ap (λ n. bit_xor (bit_xor ((q * 2 ^ 16) * 2 ^ 1) ((q * 2 ^ 12) * 2 ^ 1)) (bit_xor n (q * 2 ^ 1)))
    (swap_shifts q 5)
    ∙ ap (λ n. bit_xor n (bit_xor ((q * 2 ^ 5) * 2 ^ 1) (q * 2 ^ 1))) (sym (shift_sum (q * 2 ^ 16) (q * 2 ^ 12) 1))
    ∙ ap (λ n. bit_xor (bit_xor (q * 2 ^ 16) (q * 2 ^ 12) * 2 ^ 1) n) (sym (shift_sum (q * 2 ^ 5) q 1))
    ∙ sym (shift_sum (bit_xor (q * 2 ^ 16) (q * 2 ^ 12)) (bit_xor (q * 2 ^ 5) q) 1)

-- where the degree reaches 16, one generator goes
pub over : (s : ℕ) → s < 2 ^ 15 → bit_xor (2 * (2 ^ 15 + s)) (2 ^ 16 + 0x1021) ≡ bit_xor (2 * s) 0x1021
over s h =
    let small : 2 * s < 2 ^ 16 = omega arith in
    let e : bit_xor (1 * 2 ^ 16 + 2 * s) (1 * 2 ^ 16 + 0x1021) ≡ bit_xor 1 1 * 2 ^ 16 + bit_xor (2 * s) 0x1021 =
    xor_block 16 1 1 (2 * s) 0x1021 small (omega arith) in
    let f : 2 * (2 ^ 15 + s) ≡ 1 * 2 ^ 16 + 2 * s = omega arith in
    ap (λ n. bit_xor n (2 ^ 16 + 0x1021)) f ∙ e ∙ zero-add (bit_xor (2 * s) 0x1021)

by_step : (r : ℕ) → r < 2 ^ 16 → (b : Bool) → nat_lt r (2 ^ 15) ≡ b → IsRemainder (r * 2 ^ 1) (times_x r)
unfolding times_x
by_step r high true e =
    rw e (record { degree = omega (arith, ltb-true r (2 ^ 15) e); quotient = (0, omega arith) })
by_step r high false e =
    let low : 2 ^ 15 ≤ r = ltb-false r (2 ^ 15) e in
    let f : 2 ^ 15 + (r - 2 ^ 15) ≡ r = omega arith in
    let g : bit_xor (2 * r) (2 ^ 16 + 0x1021) ≡ bit_xor (2 * (r - 2 ^ 15)) 0x1021 =
    ap (λ n. bit_xor (2 * n) (2 ^ 16 + 0x1021)) (sym f) ∙ over (r - 2 ^ 15) (omega arith) in
    let small : bit_xor (2 * (r - 2 ^ 15)) 0x1021 < 2 ^ 16 =
    xor_lt 16 (2 * (r - 2 ^ 15)) 0x1021 (omega arith) (omega arith) in
    let back : r * 2 ^ 1 ≡ bit_xor (2 ^ 16 + 0x1021) (bit_xor (2 * r) (2 ^ 16 + 0x1021)) =
    (omega arith) ∙ sym (xor_zero_r (2 * r)) ∙ ap (λ n. bit_xor (2 * r) n) (sym (xor_self (2 ^ 16 + 0x1021)))
    ∙ sym (xor_assoc (2 * r) (2 ^ 16 + 0x1021) (2 ^ 16 + 0x1021)) ∙ xor_comm (bit_xor (2 * r) (2 ^ 16 + 0x1021))
    (2 ^ 16 + 0x1021) in
    rw e (record { degree = rw g small; quotient = (1, back) })

-- a step of the register takes remainder to remainder
pub times_x-remainder : (r : ℕ) → r < 2 ^ 16 → IsRemainder (r * 2 ^ 1) (times_x r)
times_x-remainder r high = by_step r high (nat_lt r (2 ^ 15)) refl

pub remainder_double : (p r : ℕ) → IsRemainder p r → IsRemainder (p * 2 ^ 1) (times_x r)
remainder_double p r is =
    let q : ℕ = is.quotient.0 in
    let one : IsRemainder (r * 2 ^ 1) (times_x r) = times_x-remainder r is.degree in
    let q' : ℕ = one.quotient.0 in
    record {
      degree = one.degree;
      quotient = (
        bit_xor (q * 2 ^ 1) q',
        ap (λ n. n * 2 ^ 1) is.quotient.1
            ∙ shift_sum (times_generator q) r 1
            ∙ ap (λ n. bit_xor n (r * 2 ^ 1)) (sym (times_generator_double q))
            ∙ ap (λ n. bit_xor (times_generator (q * 2 ^ 1)) n) one.quotient.1
            ∙ sym (xor_assoc (times_generator (q * 2 ^ 1)) (times_generator q') (times_x r))
            ∙ ap (λ n. bit_xor n (times_x r)) (sym (times_generator_sum (q * 2 ^ 1) q')),
      );
    }

pub remainder_sum : (p r s : ℕ) → s < 2 ^ 16 → IsRemainder p r → IsRemainder (bit_xor p s) (bit_xor r s)
remainder_sum p r s small is = record {
  degree = xor_lt 16 r s is.degree small;
  quotient = (is.quotient.0, ap (λ n. bit_xor n s) is.quotient.1 ∙ xor_assoc (times_generator is.quotient.0) r s);
}

eight_doubles : (n : ℕ) → ((((((((n * 2 ^ 1) * 2 ^ 1) * 2 ^ 1) * 2 ^ 1) * 2 ^ 1) * 2 ^ 1) * 2 ^ 1) * 2 ^ 1) ≡ n * 2 ^ 8
eight_doubles n = omega arith

pub remainder_octet : (p r octet : ℕ) → octet < 256 → IsRemainder p r
    → IsRemainder (bit_xor p (octet * 2 ^ 8) * 2 ^ 8) (after_octet r octet)
unfolding after_octet
remainder_octet p r octet small is =
    let s0 = remainder_sum p r (octet * 2 ^ 8) (omega arith) is in
    let s1 = remainder_double _ _ s0 in
    let s2 = remainder_double _ _ s1 in
    let s3 = remainder_double _ _ s2 in
    let s4 = remainder_double _ _ s3 in
    let s5 = remainder_double _ _ s4 in
    let s6 = remainder_double _ _ s5 in
    let s7 = remainder_double _ _ s6 in
    let s8 = remainder_double _ _ s7 in
    subst (λ n. IsRemainder n (after_octet r octet)) (eight_doubles (bit_xor p (octet * 2 ^ 8))) s8

-- an octet more is times x^8, and the octet
pub polynomial_push : (xs : List ℕ) (octet : ℕ) → polynomial (xs ++ octet ∷ []) ≡ polynomial xs * 2 ^ 8 + octet
polynomial_push [] octet = omega arith
polynomial_push (x ∷ xs) octet =
    let e : polynomial (xs ++ octet ∷ []) ≡ polynomial xs * 2 ^ 8 + octet = polynomial_push xs octet in
    let l : 8 * length (xs ++ octet ∷ []) ≡ 8 * length xs + 8 = omega (arith, length-append xs (octet ∷ [])) in
    let w : 2 ^ (8 * length (xs ++ octet ∷ [])) ≡ 2 ^ (8 * length xs) * 2 ^ 8 =
    ap (λ n. 2 ^ n) l ∙ pow-add 2 (8 * length xs) 8 in
    let m : x * (2 ^ (8 * length xs) * 2 ^ 8) ≡ x * 2 ^ (8 * length xs) * 2 ^ 8 = grind arith in
    ap (λ n. x * n + polynomial (xs ++ octet ∷ [])) w ∙ ap (λ n. x * (2 ^ (8 * length xs) * 2 ^ 8) + n) e
    ∙ ap (λ n. n + (polynomial xs * 2 ^ 8 + octet)) m ∙ omega arith

times_shifts : (P : ℕ) → P * 2 ^ 8 * 2 ^ 16 ≡ P * 2 ^ 16 * 2 ^ 8
times_shifts P = omega arith

times_ones : (N : ℕ) → (2 ^ 16 - 1) * (N * 2 ^ 8) ≡ (2 ^ 16 - 1) * N * 2 ^ 8
times_ones N = omega arith

times_octet : (octet : ℕ) → octet * 2 ^ 16 ≡ octet * 2 ^ 8 * 2 ^ 8
times_octet octet = omega arith

shifted_push : (P octet N : ℕ) → bit_xor (bit_xor (P * 2 ^ 8) octet * 2 ^ 16) ((2 ^ 16 - 1) * (N * 2 ^ 8))
    ≡ bit_xor (bit_xor (P * 2 ^ 16) ((2 ^ 16 - 1) * N)) (octet * 2 ^ 8) * 2 ^ 8
shifted_push P octet N =
    ap (λ n. bit_xor n ((2 ^ 16 - 1) * (N * 2 ^ 8))) (shift_sum (P * 2 ^ 8) octet 16)
    ∙ ap (λ n. bit_xor (bit_xor n (octet * 2 ^ 16)) ((2 ^ 16 - 1) * (N * 2 ^ 8))) (times_shifts P)
    ∙ ap (λ n. bit_xor (bit_xor (P * 2 ^ 16 * 2 ^ 8) (octet * 2 ^ 16)) n) (times_ones N)
    ∙ ap (λ n. bit_xor (bit_xor (P * 2 ^ 16 * 2 ^ 8) n) ((2 ^ 16 - 1) * N * 2 ^ 8)) (times_octet octet)
    ∙ xor_assoc (P * 2 ^ 16 * 2 ^ 8) (octet * 2 ^ 8 * 2 ^ 8) ((2 ^ 16 - 1) * N * 2 ^ 8)
    ∙ ap (λ n. bit_xor (P * 2 ^ 16 * 2 ^ 8) n) (xor_comm (octet * 2 ^ 8 * 2 ^ 8) ((2 ^ 16 - 1) * N * 2 ^ 8))
    ∙ sym (xor_assoc (P * 2 ^ 16 * 2 ^ 8) ((2 ^ 16 - 1) * N * 2 ^ 8) (octet * 2 ^ 8 * 2 ^ 8))
    ∙ ap (λ n. bit_xor n (octet * 2 ^ 8 * 2 ^ 8)) (sym (shift_sum (P * 2 ^ 16) ((2 ^ 16 - 1) * N) 8))
    ∙ sym (shift_sum (bit_xor (P * 2 ^ 16) ((2 ^ 16 - 1) * N)) (octet * 2 ^ 8) 8)

-- what is divided, after an octet more
pub dividend_push : (xs : List ℕ) (octet : ℕ) → octet < 256
    → dividend (xs ++ octet ∷ []) ≡ bit_xor (dividend xs) (octet * 2 ^ 8) * 2 ^ 8
dividend_push xs octet small =
    let P : ℕ = polynomial xs in
    let N : ℕ = 2 ^ (8 * length xs) in
    let l : 8 * length (xs ++ octet ∷ []) ≡ 8 * length xs + 8 = omega (arith, length-append xs (octet ∷ [])) in
    let w : 2 ^ (8 * length (xs ++ octet ∷ [])) ≡ N * 2 ^ 8 = ap (λ n. 2 ^ n) l ∙ pow-add 2 (8 * length xs) 8 in
    let p : polynomial (xs ++ octet ∷ []) ≡ bit_xor (P * 2 ^ 8) octet =
    polynomial_push xs octet ∙ sym (xor_shifted P 8 octet small) in
    ap (λ n. bit_xor (n * 2 ^ 16) ((2 ^ 16 - 1) * 2 ^ (8 * length (xs ++ octet ∷ [])))) p
    ∙ ap (λ n. bit_xor (bit_xor (P * 2 ^ 8) octet * 2 ^ 16) ((2 ^ 16 - 1) * n)) w
    ∙ shifted_push P octet N

-- the register after octets is the remainder of what is divided, if it was before them
pub fold-remainder : (xs ys : List ℕ) (r : ℕ) → ((i : ℕ) → get_or xs i 0 < 256) → IsRemainder (dividend ys) r
    → IsRemainder (dividend (ys ++ xs)) (fold after_octet r xs)
fold-remainder [] ys r octets is = subst (λ zs. IsRemainder (dividend zs) r) (sym (append-nil ys)) is
fold-remainder (x ∷ xs) ys r octets is =
    let small : x < 256 = octets 0 in
    let next : IsRemainder (dividend (ys ++ x ∷ [])) (after_octet r x) =
    subst (λ n. IsRemainder n (after_octet r x)) (sym (dividend_push ys x small))
    (remainder_octet (dividend ys) r x small is) in
    subst (λ zs. IsRemainder (dividend zs) (fold after_octet (after_octet r x) xs)) (append_assoc ys (x ∷ []) xs)
    (fold-remainder xs (ys ++ x ∷ []) (after_octet r x) (λ i. octets (suc i)) next)

pub frame_error_control-remainder : (xs : List ℕ) → ((i : ℕ) → get_or xs i 0 < 256)
    → IsRemainder (dividend xs) (frame_error_control xs)
unfolding frame_error_control
frame_error_control-remainder xs octets =
    let start : IsRemainder (dividend []) (2 ^ 16 - 1) = record { degree = lit< tt; quotient = (0, refl) } in
    fold-remainder xs [] (2 ^ 16 - 1) octets start

-- a sum is zero where both parts are equal, and only there
pub same_from_sum : (a b : ℕ) → bit_xor a b ≡ 0 → a ≡ b
same_from_sum a b e =
    sym (xor_zero_r a) ∙ ap (λ n. bit_xor a n) (sym (xor_self b)) ∙ sym (xor_assoc a b b) ∙ ap (λ n. bit_xor n b) e

-- the highest power of q times x^16 is left in the product
pub times_generator_high : (q N : ℕ) → N ≤ q → q < 2 * N → (j : ℕ) → N ≡ 2 ^ j → times_generator q < 2 ^ 16 → ⊥
times_generator_high q N low high j is small =
    let w : ℕ = bit_xor (q * 2 ^ 5) q in
    let one : 0 < N = rw is (pow_pos j) in
    let e : 2 ^ (j + 16) ≡ N * 2 ^ 16 = pow-add 2 j 16 ∙ ap (λ n. n * 2 ^ 16) (sym is) in
    let top : q * 2 ^ 16 ≡ bit_xor (bit_xor (times_generator q) w) (q * 2 ^ 12) =
    sym (ap (λ n. bit_xor n (q * 2 ^ 12))
    (xor_assoc (bit_xor (q * 2 ^ 16) (q * 2 ^ 12)) w w ∙ ap (λ n. bit_xor (bit_xor (q * 2 ^ 16) (q * 2 ^ 12)) n)
    (xor_self w) ∙ xor_zero_r (bit_xor (q * 2 ^ 16) (q * 2 ^ 12)))
    ∙ xor_assoc (q * 2 ^ 16) (q * 2 ^ 12) (q * 2 ^ 12) ∙ ap (λ n. bit_xor (q * 2 ^ 16) n) (xor_self (q * 2 ^ 12))
    ∙ xor_zero_r (q * 2 ^ 16)) in
    let b12 : q * 2 ^ 12 < 2 ^ (j + 16) = rw e (omega arith) in
    let b5 : q * 2 ^ 5 < 2 ^ (j + 16) = rw e (omega arith) in
    let b0 : q < 2 ^ (j + 16) = rw e (omega arith) in
    let bt : times_generator q < 2 ^ (j + 16) = rw e (omega arith) in
    let bw : w < 2 ^ (j + 16) = xor_lt (j + 16) (q * 2 ^ 5) q b5 b0 in
    let b : bit_xor (bit_xor (times_generator q) w) (q * 2 ^ 12) < 2 ^ (j + 16) =
    xor_lt (j + 16) (bit_xor (times_generator q) w) (q * 2 ^ 12) (xor_lt (j + 16) (times_generator q) w bt bw)
    b12 in
    let contradiction : q * 2 ^ 16 < N * 2 ^ 16 =
    subst (λ n. n < N * 2 ^ 16) (sym top)
    (subst (λ n. bit_xor (bit_xor (times_generator q) w) (q * 2 ^ 12) < n) e b) in
    omega arith

below_power : (n : ℕ) → n < 2 ^ n
below_power zero = omega arith
below_power (suc n) = omega (arith, below_power n, pow-suc 2 n)

-- a product with the generator that is below degree 16 is zero
pub factor_zero : (q : ℕ) → times_generator q < 2 ^ 16 → q ≡ 0
factor_zero zero small = refl
factor_zero (suc q) small =
    let top = leading_top (suc q) (suc q) (omega arith) (below_power (suc q)) in
    absurd (times_generator_high (suc q) (2 ^ top.0) top.2 (omega (arith, top.3, pow-suc 2 top.0)) top.0 refl small)

-- there is one remainder
pub one_remainder : (p r s : ℕ) → IsRemainder p r → IsRemainder p s → r ≡ s
one_remainder p r s a b =
    let X : ℕ = times_generator a.quotient.0 in
    let Y : ℕ = times_generator b.quotient.0 in
    let q : ℕ = bit_xor a.quotient.0 b.quotient.0 in
    let e : bit_xor (bit_xor X Y) (bit_xor r s) ≡ 0 =
    sym (sum_four X r Y s) ∙ ap (λ n. bit_xor n (bit_xor Y s)) (sym a.quotient.1 ∙ b.quotient.1)
    ∙ xor_self (bit_xor Y s) in
    let f : times_generator q ≡ bit_xor r s =
    times_generator_sum a.quotient.0 b.quotient.0 ∙ same_from_sum (bit_xor X Y) (bit_xor r s) e in
    let z : q ≡ 0 = factor_zero q (subst (λ n. n < 2 ^ 16) (sym f) (xor_lt 16 r s a.degree b.degree)) in
    same_from_sum r s (sym f ∙ ap times_generator z)
