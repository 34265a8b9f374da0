-- Two pairs of numbers that compare equal are equal.
use Rattle.std.proofs.Common.{◌≡◌, ℕ, ◌==◌, ◌&&◌, nat_lt, cond, Bool, true, false, refl, ap, ◌∙◌, arith}
use Rattle.std.proofs.lemmas.Bool.Decides.{nat_tests}
use Rattle.std.specs.Ordering.{is_eq, nat_cmp, ordering_then}
use Rattle.std.specs.declared.cmp.Ordering.{Ordering}
use Rattle.std.specs.declared.cmp.Ordering.TheVariants.{Less, Equal, Greater}

by_tests : (less same : Bool) (o : Ordering) (b : Bool) → (less ≡ true → same ≡ false) → (is_eq o ≡ b)
    → is_eq (ordering_then (cond less Less (cond same Equal Greater)) o) ≡ (same && b)
by_tests true true o b apart rest = absurd (let z : true ≡ false = apart refl in cc)
by_tests true false o b apart rest = refl
by_tests false true o b apart rest = rest
by_tests false false o b apart rest = refl

single : (less same : Bool) → (less ≡ true → same ≡ false) → is_eq (cond less Less (cond same Equal Greater)) ≡ same
single true true apart = absurd (let z : true ≡ false = apart refl in cc)
single true false apart = refl
single false true apart = refl
single false false apart = refl

apart_by : (a k : ℕ) → nat_lt a k ≡ true → (a == k) ≡ false
apart_by a k less = grind (arith, nat_tests)

flip : (a k : ℕ) → (a == k) ≡ (k == a)
flip a k = grind (arith, nat_tests)

pub pair_at : (a b k n : ℕ) → is_eq (ordering_then (nat_cmp a k) (nat_cmp b n)) ≡ ((k == a) && (n == b))
pair_at a b k n =
    by_tests (nat_lt a k) (a == k) (nat_cmp b n) (b == n) (apart_by a k) (single (nat_lt b n) (b == n) (apart_by b n))
    ∙ ap (λ (x : Bool). x && (b == n)) (flip a k) ∙ ap (λ (x : Bool). (k == a) && x) (flip b n)
