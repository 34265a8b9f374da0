-- The bits of a window and the numbers that they stand for give one another: lemmas for the inverse of `Window`'s view.
use Rattle.std.proofs.Common.{◌≡◌, ℕ, zero, suc, ◌+◌, ◌-◌, ◌*◌, ◌%◌, ◌^◌, ◌<◌, ◌≤◌, ◌⊎◌, ◌||◌, Bool, true, false, cond}
use Rattle.std.proofs.Common.{nat_eq, sym, ap, ◌∙◌, inl, inr, ⊎_elim, lit≤, arith}
use Rattle.std.specs.Int.{bit_at}
use Rattle.std.specs.Cmp.{unsigned_tied}
use Rattle.std.specs.Ordering.{nat_cmp}
use Rattle.std.specs.FinSet as set
use Rattle.std.proofs.lemmas.Bool.{eqb-true, eq-eqb, or_cases, or_left, or_right, cases_Bool, false≢true, cases_lt}
use Rattle.std.proofs.lemmas.Cmp.{nat_cmp_total}
use Rattle.std.proofs.Math.Nat.{mod-eq_of_lt}
use Rattle.std.proofs.lemmas.Nat.{mod-pow-add}
use Rattle.std.proofs.lemmas.Nat.Bits.{bit_at_above, bit_at-lt}
use Rattle.replay_window.specs.Taken.{of_bits, taken_of, to_bits, bits_of, AreAbove}

pub contains-insert : (s : set.FinSet nat_cmp) (k q : ℕ)
    → set.contains (set.insert s k) q ≡ (nat_eq q k || set.contains s q)
contains-insert s k q = set.contains-insert nat_cmp_total s k q ∙ ap (λ (b : Bool). b || set.contains s q)
    (unsigned_tied q k)

-- a set bit stands for the number
pub record Stands (high bits n q : ℕ) : Type 0 where
  pub place : ℕ
  pub below : place < n
  pub is_set : bit_at bits place ≡ 1
  pub number : q ≡ high - place

wider : (high bits n q : ℕ) → Stands high bits n q → Stands high bits (suc n) q
wider high bits n q stands = record {
  place = stands.place;
  below = omega (arith, stands.below);
  is_set = stands.is_set;
  number = stands.number;
}

-- the numbers of the bits are those that set bits stand for
pub stands_in : (high bits n q : ℕ) → set.contains (of_bits high bits n) q ≡ true → Stands high bits n q
stands_in high bits zero q has = absurd (false≢true (sym (set.contains-empty nat_cmp q) ∙ has))
stands_in high bits (suc i) q has =
    ⊎_elim
    (λ (set_here : nat_eq (bit_at bits i) 1 ≡ true).
    let has_more : set.contains (set.insert (of_bits high bits i) (high - i)) q ≡ true =
    sym (ap (λ (b : Bool). set.contains (cond b (set.insert (of_bits high bits i) (high - i)) (of_bits high bits i)) q)
    set_here) ∙ has in
    ⊎_elim
    (λ (here : nat_eq q (high - i) ≡ true). record {
      place = i;
      below = omega arith;
      is_set = eqb-true _ _ set_here;
      number = eqb-true _ _ here;
    })
    (λ (there : set.contains (of_bits high bits i) q ≡ true). wider high bits i q (stands_in high bits i q there))
    (or_cases _ _ (sym (contains-insert (of_bits high bits i) (high - i) q) ∙ has_more)))
    (λ (clear_here : nat_eq (bit_at bits i) 1 ≡ false). wider high bits i q (stands_in high bits i q
    (sym (ap (λ (b : Bool). set.contains (cond b (set.insert (of_bits high bits i) (high - i)) (of_bits high bits i)) q)
    clear_here) ∙ has)))
    (cases_Bool (nat_eq (bit_at bits i) 1))

kept : (high bits i q : ℕ) (b : Bool) → set.contains (of_bits high bits i) q ≡ true
    → set.contains (cond b (set.insert (of_bits high bits i) (high - i)) (of_bits high bits i)) q ≡ true
kept high bits i q true has = contains-insert (of_bits high bits i) (high - i) q ∙ or_right _ _ has
kept high bits i q false has = has

pub in_stands : (high bits n q : ℕ) → Stands high bits n q → set.contains (of_bits high bits n) q ≡ true
in_stands high bits zero q stands = absurd (omega (arith, stands.below))
in_stands high bits (suc i) q stands =
    ⊎_elim
    (λ (here : stands.place ≡ i).
    ap (λ (b : Bool). set.contains (cond b (set.insert (of_bits high bits i) (high - i)) (of_bits high bits i)) q)
    (eq-eqb _ _ (ap (bit_at bits) (sym here) ∙ stands.is_set))
    ∙ contains-insert (of_bits high bits i) (high - i) q
    ∙ or_left _ _ (eq-eqb _ _ (stands.number ∙ ap (λ (k : ℕ). high - k) here)))
    (λ (other : stands.place < i). kept high bits i q (nat_eq (bit_at bits i) 1)
    (in_stands high bits i q (record {
      place = stands.place;
      below = other;
      is_set = stands.is_set;
      number = stands.number;
    })))
    (place_or_below stands.place i (omega (arith, stands.below)))
  where
    place_or_below : (k i : ℕ) → k < suc i → (k ≡ i) ⊎ (k < i)
    place_or_below k i below = ⊎_elim (λ x. inr x) (λ x. inl (omega arith)) (cases_lt k i)

-- a bit that is set lies below the distance to the base
pub below_distance : (base high bits i : ℕ) → AreAbove base high bits → bit_at bits i ≡ 1 → i < high - base
below_distance base high bits i above is_set =
    ⊎_elim (λ x. x)
    (λ (beyond : high - base ≤ i). let clear : bit_at bits i ≡ 0 =
    bit_at_above bits (high - base) i above.above beyond in absurd (omega (arith, clear, is_set)))
    (cases_lt i (high - base))

-- where a number of the bits lies, and its bit
pub record IsOfBits (base high bits q : ℕ) : Type 0 where
  pub above_base : base < q
  pub up_to_high : q ≤ high
  pub near : high - q < 64
  pub is_set : bit_at bits (high - q) ≡ 1

pub of_taken : (base high bits q : ℕ) → AreAbove base high bits → set.contains (taken_of high bits) q ≡ true
    → IsOfBits base high bits q
unfolding taken_of
of_taken base high bits q above has =
    let stands = stands_in high bits 64 q has in
    let low : stands.place < high - base = below_distance base high bits stands.place above stands.is_set in
    let place_is : stands.place ≡ high - q = omega (arith, stands.number, low) in
    record {
      above_base = omega (arith, stands.number, low, above.order);
      up_to_high = omega (arith, stands.number);
      near = omega (arith, place_is, stands.below);
      is_set = ap (bit_at bits) (sym place_is) ∙ stands.is_set;
    }

pub in_taken : (high bits q : ℕ) → q ≤ high → high - q < 64 → bit_at bits (high - q) ≡ 1
    → set.contains (taken_of high bits) q ≡ true
unfolding taken_of
in_taken high bits q low near is_set =
    in_stands high bits 64 q (record { place = high - q; below = near; is_set = is_set; number = omega arith })

one_time : (n : ℕ) → 1 * n ≡ n
one_time n = omega arith

no_time : (n : ℕ) → 0 * n ≡ 0
no_time n = omega arith

-- whether the number of a bit is among the numbers is the bit
bit_back : (base high bits i : ℕ) → AreAbove base high bits → i < 64
    → cond (set.contains (taken_of high bits) (high - i)) (2 ^ i) 0 ≡ bit_at bits i * 2 ^ i
bit_back base high bits i above low =
    ⊎_elim
    (λ (has : set.contains (taken_of high bits) (high - i) ≡ true).
    let of = of_taken base high bits (high - i) above has in
    let same : high - (high - i) ≡ i = omega (arith, of.above_base, above.order) in
    ap (λ (b : Bool). cond b (2 ^ i) 0) has
    ∙ sym (ap (λ (n : ℕ). n * 2 ^ i) (ap (bit_at bits) (sym same) ∙ of.is_set) ∙ one_time (2 ^ i)))
    (λ (none : set.contains (taken_of high bits) (high - i) ≡ false).
    ap (λ (b : Bool). cond b (2 ^ i) 0) none
    ∙ sym (ap (λ (n : ℕ). n * 2 ^ i) (clear none) ∙ no_time (2 ^ i)))
    (cases_Bool (set.contains (taken_of high bits) (high - i)))
  where
    one_or_zero : (b : ℕ) → b < 2 → (b ≡ 1) ⊎ (b ≡ 0)
    one_or_zero b low = ⊎_elim (λ (less : b < 1). inr (omega arith)) (λ (more : 1 ≤ b). inl (omega arith))
        (cases_lt b 1)

    clear : set.contains (taken_of high bits) (high - i) ≡ false → bit_at bits i ≡ 0
    clear none =
        ⊎_elim
        (λ (is_set : bit_at bits i ≡ 1).
        let low_too : i < high - base = below_distance base high bits i above is_set in
        let same : high - (high - i) ≡ i = omega arith in
        absurd (false≢true (sym none ∙ in_taken high bits (high - i) (omega arith) (omega (arith, same))
        (ap (bit_at bits) same ∙ is_set))))
        (λ (clear : bit_at bits i ≡ 0). clear)
        (one_or_zero (bit_at bits i) (bit_at-lt bits i))

to_bits_low : (base high bits n : ℕ) → AreAbove base high bits → n ≤ 64
    → to_bits high (taken_of high bits) n ≡ bits % 2 ^ n
to_bits_low base high bits zero above low = let none : 0 ≡ bits % 1 = omega arith in none
to_bits_low base high bits (suc i) above low =
    ap (λ (n : ℕ). n + to_bits high (taken_of high bits) i) (bit_back base high bits i above (omega arith))
    ∙ ap (λ (n : ℕ). bit_at bits i * 2 ^ i + n) (to_bits_low base high bits i above (omega arith))
    ∙ sym (ap (λ (n : ℕ). bits % 2 ^ n) (sym (one_more i)) ∙ mod-pow-add bits 1 i)
  where
    one_more : (i : ℕ) → 1 + i ≡ suc i
    one_more i = omega arith

pub bits_of-taken_of : (base high bits : ℕ) → AreAbove base high bits → bits_of high (taken_of high bits) ≡ bits
unfolding bits_of
bits_of-taken_of base high bits above = to_bits_low base high bits 64 above (lit≤ tt) ∙ mod-eq_of_lt above.word
