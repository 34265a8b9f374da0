-- An octet more in the register by one look-up, in the table of the 256 registers after an octet, from zeros; and
-- four or eight octets more by as many, in that and the tables of those after an octet and octets of zeros.
use Rattle.std.proofs.Common.{◌≡◌, ℕ, ◌+◌, ◌*◌, ◌/◌, ◌%◌, ◌^◌, ◌<◌, List, [], ◌∷◌, map, slice_index, sym, ◌∙◌, ap}
use Rattle.std.proofs.Common.{subst, arith, add-zero, lit<}
use Rattle.std.specs.Prelude.{bit_xor, fold}
use Rattle.std.specs.List.{range_with_len}
use Rattle.std.proofs.lemmas.List.FromFn.{get_or-map-range_with_len}
use Rattle.std.proofs.lemmas.Nat.{xor_lt, xor_block}
use lib.Bits.{xor_zero_r, xor_zero_l, xor_shifted}
use Rattle.sdls_base.specs.ErrorControl.{IsRemainder, times_generator, after_octet}
use Rattle.sdls_base.proofs.Remainders.{shift_sum, sum_four, times_generator_sum, remainder_octet, remainder_sum}
use Rattle.sdls_base.proofs.Remainders.{one_remainder}

-- a list of the values at 0 to n - 1 has the value at x in place x
pub value_at : (f : ℕ → ℕ) (n x : ℕ) (values : List ℕ) → values ≡ map f (range_with_len 0 n) → x < n
    → slice_index values x ≡ f x
value_at f n x values same lt =
    ap (λ (v : List ℕ). slice_index v x) same ∙ get_or-map-range_with_len f 0 n x x 0 lt (omega arith)

-- a register below degree 16 is its own remainder
own_remainder : (r : ℕ) → r < 2 ^ 16 → IsRemainder r r
own_remainder r small = record { degree = small; quotient = (0, sym (xor_zero_l r)) }

-- the register and an octet: the upper octets add, the lower one stays
upper_octets : (u l octet : ℕ) → l < 2 ^ 8 → bit_xor (u * 2 ^ 8 + l) (octet * 2 ^ 8)
    ≡ bit_xor (bit_xor u octet * 2 ^ 8) l
upper_octets u l octet small =
    ap (λ n. bit_xor (u * 2 ^ 8 + l) n) (sym (add-zero (octet * 2 ^ 8)))
    ∙ xor_block 8 u octet l 0 small (lit< tt)
    ∙ ap (λ n. bit_xor u octet * 2 ^ 8 + n) (xor_zero_r l)
    ∙ sym (xor_shifted (bit_xor u octet) 8 l small)

-- what the upper octet leaves, and the lower one moved up
by_upper : (u l octet : ℕ) → u < 256 → l < 256 → octet < 256
    → bit_xor (after_octet 0 (bit_xor u octet)) (l * 2 ^ 8) ≡ after_octet (u * 2 ^ 8 + l) octet
by_upper u l octet su sl so =
    let x : ℕ = bit_xor u octet in
    let small : x < 256 = xor_lt 8 u octet su so in
    let from_zeros : IsRemainder (bit_xor 0 (x * 2 ^ 8) * 2 ^ 8) (after_octet 0 x) =
    remainder_octet 0 0 x small (own_remainder 0 (lit< tt)) in
    let both : IsRemainder (bit_xor (bit_xor 0 (x * 2 ^ 8) * 2 ^ 8) (l * 2 ^ 8))
    (bit_xor (after_octet 0 x) (l * 2 ^ 8)) =
    remainder_sum (bit_xor 0 (x * 2 ^ 8) * 2 ^ 8) (after_octet 0 x) (l * 2 ^ 8) (omega arith) from_zeros in
    let whole : IsRemainder (bit_xor (u * 2 ^ 8 + l) (octet * 2 ^ 8) * 2 ^ 8) (after_octet (u * 2 ^ 8 + l) octet) =
    remainder_octet (u * 2 ^ 8 + l) (u * 2 ^ 8 + l) octet so (own_remainder (u * 2 ^ 8 + l) (omega arith)) in
    let same : bit_xor (bit_xor 0 (x * 2 ^ 8) * 2 ^ 8) (l * 2 ^ 8) ≡ bit_xor (u * 2 ^ 8 + l) (octet * 2 ^ 8) * 2 ^ 8 =
    ap (λ n. bit_xor (n * 2 ^ 8) (l * 2 ^ 8)) (xor_zero_l (x * 2 ^ 8))
    ∙ sym (shift_sum (x * 2 ^ 8) l 8)
    ∙ ap (λ n. n * 2 ^ 8) (sym (upper_octets u l octet sl)) in
    one_remainder (bit_xor (u * 2 ^ 8 + l) (octet * 2 ^ 8) * 2 ^ 8) (bit_xor (after_octet 0 x) (l * 2 ^ 8))
    (after_octet (u * 2 ^ 8 + l) octet)
    (subst (λ n. IsRemainder n (bit_xor (after_octet 0 x) (l * 2 ^ 8))) same both) whole

-- the one step that the code makes
pub by_look_up : (r octet : ℕ) → r < 2 ^ 16 → octet < 256
    → bit_xor (after_octet 0 (bit_xor (r / 256 % 256) octet)) (r * 256 % 65536) ≡ after_octet r octet
by_look_up r octet small so =
    let u : r / 256 % 256 ≡ r / 256 = omega arith in
    let l : r * 256 % 65536 ≡ r % 256 * 2 ^ 8 = omega arith in
    let whole : r / 256 * 2 ^ 8 + r % 256 ≡ r = omega arith in
    rw (u, l) (by_upper (r / 256) (r % 256) octet (omega arith) (omega arith) so ∙ ap (λ n. after_octet n octet) whole)

-- remainders add
remainder_add : (p r q s : ℕ) → IsRemainder p r → IsRemainder q s → IsRemainder (bit_xor p q) (bit_xor r s)
remainder_add p r q s a b =
    let P : ℕ = times_generator a.quotient.0 in
    let Q : ℕ = times_generator b.quotient.0 in
    record {
      degree = xor_lt 16 r s a.degree b.degree;
      quotient = (
        bit_xor a.quotient.0 b.quotient.0,
        ap (λ n. bit_xor n q) a.quotient.1
            ∙ ap (λ n. bit_xor (bit_xor P r) n) b.quotient.1
            ∙ sum_four P r Q s
            ∙ ap (λ n. bit_xor n (bit_xor r s)) (sym (times_generator_sum a.quotient.0 b.quotient.0)),
      );
    }

-- an octet takes a register to a register
after_small : (r a : ℕ) → r < 2 ^ 16 → a < 256 → after_octet r a < 2 ^ 16
after_small r a hr ha = (remainder_octet r r a ha (own_remainder r hr)).degree

-- registers add, and with them the octets that come
after_sum : (r s a b : ℕ) → r < 2 ^ 16 → s < 2 ^ 16 → a < 256 → b < 256
    → after_octet (bit_xor r s) (bit_xor a b) ≡ bit_xor (after_octet r a) (after_octet s b)
after_sum r s a b hr hs ha hb =
    let one = remainder_octet r r a ha (own_remainder r hr) in
    let other = remainder_octet s s b hb (own_remainder s hs) in
    let both = remainder_add _ _ _ _ one other in
    let sum = remainder_octet (bit_xor r s) (bit_xor r s) (bit_xor a b) (xor_lt 8 a b ha hb)
    (own_remainder (bit_xor r s) (xor_lt 16 r s hr hs)) in
    let same : bit_xor (bit_xor r (a * 2 ^ 8) * 2 ^ 8) (bit_xor s (b * 2 ^ 8) * 2 ^ 8)
    ≡ bit_xor (bit_xor r s) (bit_xor a b * 2 ^ 8) * 2 ^ 8 =
    sym (shift_sum (bit_xor r (a * 2 ^ 8)) (bit_xor s (b * 2 ^ 8)) 8)
    ∙ ap (λ n. n * 2 ^ 8) (sum_four r (a * 2 ^ 8) s (b * 2 ^ 8) ∙ ap (λ n. bit_xor (bit_xor r s) n)
    (sym (shift_sum a b 8))) in
    one_remainder (bit_xor (bit_xor r s) (bit_xor a b * 2 ^ 8) * 2 ^ 8) _ _ sum
    (subst (λ n. IsRemainder n (bit_xor (after_octet r a) (after_octet s b))) same both)

-- what the register leaves, and what the octet
apart : (r d : ℕ) → r < 2 ^ 16 → d < 256 → after_octet r d ≡ bit_xor (after_octet r 0) (after_octet 0 d)
apart r d hr hd =
    ap (λ n. after_octet n d) (sym (xor_zero_r r)) ∙ ap (λ n. after_octet (bit_xor r 0) n) (sym (xor_zero_l d))
    ∙ after_sum r 0 0 d hr (lit< tt) (lit< tt) hd

-- the upper octet of the register leaves it with the first octet, the lower one with the second
pair_by_octets : (u l a b : ℕ) → u < 256 → l < 256 → a < 256 → b < 256
    → after_octet (after_octet (u * 2 ^ 8 + l) a) b ≡ bit_xor (after_octet (after_octet 0 (bit_xor u a)) 0)
    (after_octet 0 (bit_xor l b))
pair_by_octets u l a b su sl sa sb =
    let x : ℕ = bit_xor u a in
    let first : after_octet 0 x < 2 ^ 16 = after_small 0 x (lit< tt) (xor_lt 8 u a su sa) in
    let up : l * 2 ^ 8 ≡ l * 2 ^ 8 + 0 = sym (add-zero (l * 2 ^ 8)) in
    let lower : after_octet (l * 2 ^ 8) b ≡ after_octet 0 (bit_xor l b) =
    ap (λ n. after_octet n b) up ∙ sym (by_upper l 0 b sl (lit< tt) sb) ∙ xor_zero_r (after_octet 0 (bit_xor l b)) in
    ap (λ n. after_octet n b) (sym (by_upper u l a su sl sa))
    ∙ ap (λ n. after_octet (bit_xor (after_octet 0 x) (l * 2 ^ 8)) n) (sym (xor_zero_l b))
    ∙ after_sum (after_octet 0 x) (l * 2 ^ 8) 0 b first (omega arith) (lit< tt) sb
    ∙ ap (λ n. bit_xor (after_octet (after_octet 0 x) 0) n) lower

four_by_octets : (u l a b c d : ℕ) → u < 256 → l < 256 → a < 256 → b < 256 → c < 256 → d < 256
    → bit_xor
    (bit_xor (bit_xor (fold after_octet 0 (bit_xor u a ∷ 0 ∷ 0 ∷ 0 ∷ []))
    (fold after_octet 0 (bit_xor l b ∷ 0 ∷ 0 ∷ [])))
    (fold after_octet 0 (c ∷ 0 ∷ []))) (after_octet 0 d)
    ≡ fold after_octet (u * 2 ^ 8 + l) (a ∷ b ∷ c ∷ d ∷ [])
four_by_octets u l a b c d su sl sa sb sc sd =
    let x1 : ℕ = after_octet (after_octet 0 (bit_xor u a)) 0 in
    let y0 : ℕ = after_octet 0 (bit_xor l b) in
    let z0 : ℕ = after_octet 0 c in
    let x2 : ℕ = after_octet x1 0 in
    let y1 : ℕ = after_octet y0 0 in
    let none : 0 < 256 = lit< tt in
    let hx1 : x1 < 2 ^ 16 = after_small _ 0 (after_small 0 _ (lit< tt) (xor_lt 8 u a su sa)) none in
    let hy0 : y0 < 2 ^ 16 = after_small 0 _ (lit< tt) (xor_lt 8 l b sl sb) in
    let hz0 : z0 < 2 ^ 16 = after_small 0 c (lit< tt) sc in
    let hx2 : x2 < 2 ^ 16 = after_small x1 0 hx1 none in
    let hy1 : y1 < 2 ^ 16 = after_small y0 0 hy0 none in
    let xy : bit_xor x2 y1 < 2 ^ 16 = xor_lt 16 x2 y1 hx2 hy1 in
    let third : after_octet (after_octet (after_octet (u * 2 ^ 8 + l) a) b) c ≡ bit_xor (bit_xor x2 y1) z0 =
    ap (λ n. after_octet n c) (pair_by_octets u l a b su sl sa sb) ∙ apart (bit_xor x1 y0) c (xor_lt 16 x1 y0 hx1 hy0)
    sc
    ∙ ap (λ n. bit_xor n z0) (after_sum x1 y0 0 0 hx1 hy0 none none) in
    let fourth : after_octet (after_octet (after_octet (after_octet (u * 2 ^ 8 + l) a) b) c) d
    ≡ bit_xor (bit_xor (bit_xor (after_octet x2 0) (after_octet y1 0)) (after_octet z0 0)) (after_octet 0 d) =
    ap (λ n. after_octet n d) third ∙ apart (bit_xor (bit_xor x2 y1) z0) d (xor_lt 16 (bit_xor x2 y1) z0 xy hz0) sd
    ∙ ap (λ n. bit_xor n (after_octet 0 d)) (after_sum (bit_xor x2 y1) z0 0 0 xy hz0 none none)
    ∙ ap (λ n. bit_xor (bit_xor n (after_octet z0 0)) (after_octet 0 d)) (after_sum x2 y1 0 0 hx2 hy1 none none) in
    sym fourth

-- the step that the code makes over four octets
pub by_four_look_ups : (r a b c d : ℕ) → r < 2 ^ 16 → a < 256 → b < 256 → c < 256 → d < 256
    → bit_xor
    (bit_xor (bit_xor (fold after_octet 0 (bit_xor (r / 256 % 256) a ∷ 0 ∷ 0 ∷ 0 ∷ []))
    (fold after_octet 0 (bit_xor (r % 256) b ∷ 0 ∷ 0 ∷ [])))
    (fold after_octet 0 (c ∷ 0 ∷ []))) (after_octet 0 d)
    ≡ fold after_octet r (a ∷ b ∷ c ∷ d ∷ [])
by_four_look_ups r a b c d small sa sb sc sd =
    let u : r / 256 % 256 ≡ r / 256 = omega arith in
    let whole : r / 256 * 2 ^ 8 + r % 256 ≡ r = omega arith in
    rw u (four_by_octets (r / 256) (r % 256) a b c d (omega arith) (omega arith) sa sb sc sd
    ∙ ap (λ n. fold after_octet n (a ∷ b ∷ c ∷ d ∷ [])) whole)

-- registers add over four octets
sum_of_four : (r s a a2 b b2 c c2 d d2 : ℕ) → r < 2 ^ 16 → s < 2 ^ 16 → a < 256 → a2 < 256 → b < 256 → b2 < 256
    → c < 256 → c2 < 256 → d < 256 → d2 < 256
    → fold after_octet (bit_xor r s) (bit_xor a a2 ∷ bit_xor b b2 ∷ bit_xor c c2 ∷ bit_xor d d2 ∷ [])
    ≡ bit_xor (fold after_octet r (a ∷ b ∷ c ∷ d ∷ [])) (fold after_octet s (a2 ∷ b2 ∷ c2 ∷ d2 ∷ []))
sum_of_four r s a a2 b b2 c c2 d d2 hr hs ha ha2 hb hb2 hc hc2 hd hd2 =
    let r1 : ℕ = after_octet r a in
    let s1 : ℕ = after_octet s a2 in
    let r2 : ℕ = after_octet r1 b in
    let s2 : ℕ = after_octet s1 b2 in
    let r3 : ℕ = after_octet r2 c in
    let s3 : ℕ = after_octet s2 c2 in
    let hr1 : r1 < 2 ^ 16 = after_small r a hr ha in
    let hs1 : s1 < 2 ^ 16 = after_small s a2 hs ha2 in
    let hr2 : r2 < 2 ^ 16 = after_small r1 b hr1 hb in
    let hs2 : s2 < 2 ^ 16 = after_small s1 b2 hs1 hb2 in
    let hr3 : r3 < 2 ^ 16 = after_small r2 c hr2 hc in
    let hs3 : s3 < 2 ^ 16 = after_small s2 c2 hs2 hc2 in
    ap (λ n. fold after_octet n (bit_xor b b2 ∷ bit_xor c c2 ∷ bit_xor d d2 ∷ [])) (after_sum r s a a2 hr hs ha ha2)
    ∙ ap (λ n. fold after_octet n (bit_xor c c2 ∷ bit_xor d d2 ∷ [])) (after_sum r1 s1 b b2 hr1 hs1 hb hb2)
    ∙ ap (λ n. after_octet n (bit_xor d d2)) (after_sum r2 s2 c c2 hr2 hs2 hc hc2)
    ∙ after_sum r3 s3 d d2 hr3 hs3 hd hd2

-- four octets of zeros keep a sum of registers
zeros_sum : (r s : ℕ) → r < 2 ^ 16 → s < 2 ^ 16
    → fold after_octet (bit_xor r s) (0 ∷ 0 ∷ 0 ∷ 0 ∷ [])
    ≡ bit_xor (fold after_octet r (0 ∷ 0 ∷ 0 ∷ 0 ∷ [])) (fold after_octet s (0 ∷ 0 ∷ 0 ∷ 0 ∷ []))
zeros_sum r s hr hs = sum_of_four r s 0 0 0 0 0 0 0 0 hr hs (lit< tt) (lit< tt) (lit< tt) (lit< tt) (lit< tt) (lit< tt)
    (lit< tt) (lit< tt)

-- what the register leaves after four octets, and what these leave
four_apart : (r a b c d : ℕ) → r < 2 ^ 16 → a < 256 → b < 256 → c < 256 → d < 256
    → fold after_octet r (a ∷ b ∷ c ∷ d ∷ [])
    ≡ bit_xor (fold after_octet r (0 ∷ 0 ∷ 0 ∷ 0 ∷ [])) (fold after_octet 0 (a ∷ b ∷ c ∷ d ∷ []))
four_apart r a b c d hr sa sb sc sd =
    ap (λ n. fold after_octet n (a ∷ b ∷ c ∷ d ∷ [])) (sym (xor_zero_r r))
    ∙ sum_of_four r 0 0 a 0 b 0 c 0 d hr (lit< tt) (lit< tt) sa (lit< tt) sb (lit< tt) sc (lit< tt) sd

-- the step that the code makes over eight octets
pub by_eight_look_ups : (r a b c d e f g h : ℕ) → r < 2 ^ 16 → a < 256 → b < 256 → c < 256 → d < 256 → e < 256 → f < 256
    → g < 256 → h < 256
    → bit_xor
    (bit_xor (bit_xor (bit_xor (fold after_octet 0 (bit_xor (r / 256 % 256) a ∷ 0 ∷ 0 ∷ 0 ∷ 0 ∷ 0 ∷ 0 ∷ 0 ∷ []))
    (fold after_octet 0 (bit_xor (r % 256) b ∷ 0 ∷ 0 ∷ 0 ∷ 0 ∷ 0 ∷ 0 ∷ [])))
    (fold after_octet 0 (c ∷ 0 ∷ 0 ∷ 0 ∷ 0 ∷ 0 ∷ [])))
    (fold after_octet 0 (d ∷ 0 ∷ 0 ∷ 0 ∷ 0 ∷ [])))
    (bit_xor (bit_xor (bit_xor (fold after_octet 0 (e ∷ 0 ∷ 0 ∷ 0 ∷ [])) (fold after_octet 0 (f ∷ 0 ∷ 0 ∷ [])))
    (fold after_octet 0 (g ∷ 0 ∷ []))) (after_octet 0 h))
    ≡ fold after_octet r (a ∷ b ∷ c ∷ d ∷ e ∷ f ∷ g ∷ h ∷ [])
by_eight_look_ups r a b c d e f g h small sa sb sc sd se sf sg sh =
    let none : 0 < 256 = lit< tt in
    let x : ℕ = bit_xor (r / 256 % 256) a in
    let y : ℕ = bit_xor (r % 256) b in
    let sx : x < 256 = xor_lt 8 (r / 256 % 256) a (omega arith) sa in
    let sy : y < 256 = xor_lt 8 (r % 256) b (omega arith) sb in
    let p : ℕ = fold after_octet 0 (x ∷ 0 ∷ 0 ∷ 0 ∷ []) in
    let q : ℕ = fold after_octet 0 (y ∷ 0 ∷ 0 ∷ []) in
    let s : ℕ = fold after_octet 0 (c ∷ 0 ∷ []) in
    let t : ℕ = after_octet 0 d in
    let hp : p < 2 ^ 16 = after_small _ 0 (after_small _ 0 (after_small _ 0 (after_small 0 x (lit< tt) sx) none) none)
    none in
    let hq : q < 2 ^ 16 = after_small _ 0 (after_small _ 0 (after_small 0 y (lit< tt) sy) none) none in
    let hs : s < 2 ^ 16 = after_small _ 0 (after_small 0 c (lit< tt) sc) none in
    let ht : t < 2 ^ 16 = after_small 0 d (lit< tt) sd in
    let hpq : bit_xor p q < 2 ^ 16 = xor_lt 16 p q hp hq in
    let hpqs : bit_xor (bit_xor p q) s < 2 ^ 16 = xor_lt 16 (bit_xor p q) s hpq hs in
    let four : ℕ = bit_xor (bit_xor (bit_xor p q) s) t in
    let first : four ≡ fold after_octet r (a ∷ b ∷ c ∷ d ∷ []) = by_four_look_ups r a b c d small sa sb sc sd in
    let spread : fold after_octet four (0 ∷ 0 ∷ 0 ∷ 0 ∷ [])
    ≡ bit_xor (bit_xor (bit_xor (fold after_octet p (0 ∷ 0 ∷ 0 ∷ 0 ∷ [])) (fold after_octet q (0 ∷ 0 ∷ 0 ∷ 0 ∷ [])))
    (fold after_octet s (0 ∷ 0 ∷ 0 ∷ 0 ∷ []))) (fold after_octet t (0 ∷ 0 ∷ 0 ∷ 0 ∷ [])) =
    zeros_sum (bit_xor (bit_xor p q) s) t hpqs ht
    ∙ ap (λ n. bit_xor n (fold after_octet t (0 ∷ 0 ∷ 0 ∷ 0 ∷ []))) (zeros_sum (bit_xor p q) s hpq hs
    ∙ ap (λ n. bit_xor n (fold after_octet s (0 ∷ 0 ∷ 0 ∷ 0 ∷ []))) (zeros_sum p q hp hq)) in
    sym
    (ap (λ n. fold after_octet n (e ∷ f ∷ g ∷ h ∷ [])) (sym first)
    ∙ four_apart four e f g h (xor_lt 16 (bit_xor (bit_xor p q) s) t hpqs ht) se sf sg sh
    ∙ ap (λ n. bit_xor n (fold after_octet 0 (e ∷ f ∷ g ∷ h ∷ []))) spread
    ∙ ap (bit_xor
    (bit_xor (bit_xor (bit_xor (fold after_octet p (0 ∷ 0 ∷ 0 ∷ 0 ∷ [])) (fold after_octet q (0 ∷ 0 ∷ 0 ∷ 0 ∷ [])))
    (fold after_octet s (0 ∷ 0 ∷ 0 ∷ 0 ∷ []))) (fold after_octet t (0 ∷ 0 ∷ 0 ∷ 0 ∷ []))))
    (sym (by_four_look_ups 0 e f g h (lit< tt) se sf sg sh)))
