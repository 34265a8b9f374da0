-- What the bits become, and the numbers that they stand for then (`new`, `accept`, `begin_at`, `is_late`).
use Rattle.std.proofs.Common.{◌≡◌, ◌≢◌, ℕ, ◌+◌, ◌-◌, ◌*◌, ◌/◌, ◌%◌, ◌^◌, ◌<◌, ◌≤◌, ◌⊎◌, ◌↔◌, IsTrue, not, max, Bool}
use Rattle.std.proofs.Common.{true, false, nat_lt, bit_or, refl, sym, ap, ◌∙◌, subst, inl, inr, ⊎_elim, arith}
use Rattle.std.specs.Int.{bit_at, w64}
use Rattle.std.specs.Ordering.{nat_cmp}
use Rattle.std.specs.FinSet as set
use Rattle.std.proofs.lemmas.Bool.{false≢true, cases_lt, cases_eq}
use Rattle.std.proofs.lemmas.Nat.{shr_split, or_lt, shl_below, pow_below, pow_pos, mod_below, one_shl}
use Rattle.std.proofs.lemmas.Nat.Bits.{bit_at-zero, bit_at_or, bit_at-pow_same, bit_at-pow_other, bit_at_cat_low}
use Rattle.std.proofs.lemmas.Nat.Bits.{bit_at_cat_high, bit_at_set_same, bit_at_set_other, bit_at-lt}
use Rattle.std.proofs.Math.Nat.{mod-le}
use Rattle.std.specs.List.{Contains}
use Rattle.replay_window.specs.declared.window.Window.{Window}
use Rattle.replay_window.specs.Window.{accepted, begun_at, IsFresh, IsAhead, IsLate}
use Rattle.replay_window.specs.declared.TheConstants.{MOST_BACK}
use Rattle.replay_window.specs.Taken.{taken_of, AreAbove}
use Rattle.replay_window.specs.TakenBack.{IsOfBits, of_taken, in_taken}
use Rattle.replay_window.proofs.Numbers.{same_numbers, listed, from_listed, IsKeptNear, kept_near, near_kept}

-- ---- no bit

pub above_none : (high : ℕ) → AreAbove high high 0
above_none high = record { order = omega arith; above = pow_pos (high - high); word = omega arith }

pub taken_of-none : (high : ℕ) → taken_of high 0 ≡ set.empty
taken_of-none high =
    same_numbers (taken_of high 0) set.empty
    (λ q has. let is = of_taken high high 0 q (above_none high) has in
    absurd (omega (arith, bit_at-zero (high - q), is.is_set)))
    (λ q has. absurd (false≢true (sym (set.contains-empty nat_cmp q) ∙ has)))

-- ---- bits that rise

low_bits : (n i : ℕ) → i < 64 → bit_at (n % 2 ^ 64) i ≡ bit_at n i
low_bits n i low =
    sym (bit_at_cat_low (n / 2 ^ 64) 64 (n % 2 ^ 64) i low) ∙ ap (λ (m : ℕ). bit_at m i) (shr_split n 64)

-- the bits shifted up, with the lowest set
abbrev pub risen_bits : ℕ → ℕ → ℕ
risen_bits bits by = bit_or (bits * 2 ^ by % 2 ^ 64) 1

no_more : (n : ℕ) → n + 0 ≡ n
no_more n = omega arith

shifted_low : (bits by i : ℕ) → i < by → bit_at (bits * 2 ^ by) i ≡ 0
shifted_low bits by i low = ap (λ (n : ℕ). bit_at n i) (sym (no_more (bits * 2 ^ by))) ∙ bit_at_cat_low bits by 0 i low
    ∙ bit_at-zero i

shifted_high : (bits by i : ℕ) → by ≤ i → bit_at (bits * 2 ^ by) i ≡ bit_at bits (i - by)
shifted_high bits by i high = ap (λ (n : ℕ). bit_at n i) (sym (no_more (bits * 2 ^ by)))
    ∙ bit_at_cat_high bits by 0 i (pow_pos by) high

most_one : (b : ℕ) → b < 2 → max b 1 ≡ 1
most_one b low = omega arith

most_none : (b : ℕ) → max b 0 ≡ b
most_none b = omega arith

risen_lowest : (bits by : ℕ) → bit_at (risen_bits bits by) 0 ≡ 1
risen_lowest bits by =
    bit_at_or (bits * 2 ^ by % 2 ^ 64) 1 0 ∙ ap (max (bit_at (bits * 2 ^ by % 2 ^ 64) 0)) (bit_at-pow_same 0)
    ∙ most_one _ (bit_at-lt (bits * 2 ^ by % 2 ^ 64) 0)

risen_other : (bits by i : ℕ) → 0 < i → i < 64 → bit_at (risen_bits bits by) i ≡ bit_at (bits * 2 ^ by) i
risen_other bits by i some low =
    bit_at_or (bits * 2 ^ by % 2 ^ 64) 1 i
    ∙ ap (max (bit_at (bits * 2 ^ by % 2 ^ 64) i)) (bit_at-pow_other 0 i (omega arith))
    ∙ most_none _ ∙ low_bits (bits * 2 ^ by) i low

pub risen_above : (base high bits n : ℕ) → AreAbove base high bits → high < n
    → AreAbove base n (risen_bits bits (n - high))
risen_above base high bits n above more =
    let by : ℕ = n - high in
    let distance : high - base + by ≡ n - base = omega (arith, above.order) in
    let shifted : bits * 2 ^ by < 2 ^ (n - base) =
    subst (λ (k : ℕ). bits * 2 ^ by < 2 ^ k) distance (shl_below bits (high - base) by above.above) in
    let one : 1 < 2 ^ (n - base) = pow_below 0 (n - base) (omega (arith, above.order)) in
    record {
      order = omega (arith, above.order);
      above = or_lt (n - base) (bits * 2 ^ by % 2 ^ 64) 1 (omega (arith, mod-le (bits * 2 ^ by) (2 ^ 64), shifted)) one;
      word = or_lt 64 (bits * 2 ^ by % 2 ^ 64) 1 (mod_below (bits * 2 ^ by) (2 ^ 64) (omega arith)) (omega arith);
    }

pub taken_of-risen : (base high bits n : ℕ) → AreAbove base high bits → high < n
    → taken_of n (risen_bits bits (n - high)) ≡ set.retain (set.insert (taken_of high bits) n) (λ m. nat_lt (n - m) 64)
taken_of-risen base high bits n above more =
    same_numbers (taken_of n (risen_bits bits (n - high)))
    (set.retain (set.insert (taken_of high bits) n) (λ m. nat_lt (n - m) 64))
    (λ q has. to q (of_taken base n (risen_bits bits (n - high)) q (risen_above base high bits n above more) has))
    (λ q has. back q (near_kept (taken_of high bits) n n q has))
  where
    by_number : (q : ℕ) → q ≤ n → (q ≡ n) ⊎ (q < n)
    by_number q low = ⊎_elim (λ x. inr x) (λ x. inl (omega arith)) (cases_lt q n)

    to : (q : ℕ) → IsOfBits base n (risen_bits bits (n - high)) q
        → set.contains (set.retain (set.insert (taken_of high bits) n) (λ m. nat_lt (n - m) 64)) q ≡ true
    to q is = kept_near (taken_of high bits) n n q
        (⊎_elim (λ (same : q ≡ n). inl same)
        (λ (less : q < n).
        let bit : bit_at (bits * 2 ^ (n - high)) (n - q) ≡ 1 =
        sym (risen_other bits (n - high) (n - q) (omega arith) is.near) ∙ is.is_set in
        ⊎_elim
        (λ (between : n - q < n - high). absurd (omega (arith, shifted_low bits (n - high) (n - q) between, bit)))
        (λ (old : n - high ≤ n - q).
        let place : n - q - (n - high) ≡ high - q = omega arith in
        inr (in_taken high bits q (omega arith) (omega (arith, is.near))
        (ap (bit_at bits) (sym place) ∙ sym (shifted_high bits (n - high) (n - q) old) ∙ bit)))
        (cases_lt (n - q) (n - high)))
        (by_number q is.up_to_high)) is.near

    back : (q : ℕ) → IsKeptNear (taken_of high bits) n n q → set.contains (taken_of n (risen_bits bits (n - high))) q
        ≡ true
    back q is =
        ⊎_elim
        (λ (same : q ≡ n).
        let place : 0 ≡ n - q = omega arith in
        in_taken n (risen_bits bits (n - high)) q (omega arith) is.near
        (ap (bit_at (risen_bits bits (n - high))) (sym place) ∙ risen_lowest bits (n - high)))
        (λ (old : set.contains (taken_of high bits) q ≡ true).
        let of = of_taken base high bits q above old in
        let place : high - q ≡ n - q - (n - high) = omega (arith, of.up_to_high) in
        in_taken n (risen_bits bits (n - high)) q (omega (arith, of.up_to_high)) is.near
        (risen_other bits (n - high) (n - q) (omega (arith, of.up_to_high)) is.near
        ∙ shifted_high bits (n - high) (n - q) (omega (arith, of.up_to_high)) ∙ ap (bit_at bits) (sym place)
        ∙ of.is_set))
        is.which

-- ---- a rise by 64 or more

pub alone_above : (base high n : ℕ) → base ≤ high → high < n → AreAbove base n 1
alone_above base high n order more =
    record { order = omega arith; above = pow_below 0 (n - base) (omega arith); word = omega arith }

pub taken_of-alone : (base high bits n : ℕ) → AreAbove base high bits → high < n → 64 ≤ n - high
    → taken_of n 1 ≡ set.retain (set.insert (taken_of high bits) n) (λ m. nat_lt (n - m) 64)
taken_of-alone base high bits n above more far =
    same_numbers (taken_of n 1) (set.retain (set.insert (taken_of high bits) n) (λ m. nat_lt (n - m) 64))
    (λ q has. to q (of_taken base n 1 q (alone_above base high n above.order more) has))
    (λ q has. back q (near_kept (taken_of high bits) n n q has))
  where
    to : (q : ℕ) → IsOfBits base n 1 q
        → set.contains (set.retain (set.insert (taken_of high bits) n) (λ m. nat_lt (n - m) 64)) q ≡ true
    to q is = kept_near (taken_of high bits) n n q
        (⊎_elim (λ (same : n - q ≡ 0). inl (omega (arith, is.up_to_high)))
        (λ (other : n - q ≢ 0). absurd (omega (arith, bit_at-pow_other 0 (n - q) other, is.is_set)))
        (cases_eq (n - q) 0)) is.near

    back : (q : ℕ) → IsKeptNear (taken_of high bits) n n q → set.contains (taken_of n 1) q ≡ true
    back q is =
        ⊎_elim
        (λ (same : q ≡ n).
        let place : 0 ≡ n - q = omega arith in
        in_taken n 1 q (omega arith) is.near (ap (bit_at 1) (sym place) ∙ bit_at-pow_same 0))
        (λ (old : set.contains (taken_of high bits) q ≡ true).
        let of = of_taken base high bits q above old in absurd (omega (arith, of.up_to_high, is.near)))
        is.which

-- ---- a number that came late

abbrev pub late_bits : ℕ → ℕ → ℕ
late_bits bits place = bit_or bits (1 * 2 ^ place % 2 ^ 64)

pub late_above : (base high bits n : ℕ) → AreAbove base high bits → base < n → n ≤ high → high - n < 64
    → AreAbove base high (late_bits bits (high - n))
late_above base high bits n above more low near =
    let one : 1 * 2 ^ (high - n) % 2 ^ 64 ≡ 2 ^ (high - n) = one_shl (high - n) 64 near in
    record {
      order = above.order;
      above = or_lt (high - base) bits (1 * 2 ^ (high - n) % 2 ^ 64) above.above
          (subst (λ (m : ℕ). m < 2 ^ (high - base)) (sym one) (pow_below (high - n) (high - base) (omega arith)));
      word = or_lt 64 bits (1 * 2 ^ (high - n) % 2 ^ 64) above.word
          (mod_below (1 * 2 ^ (high - n)) (2 ^ 64) (omega arith));
    }

pub taken_of-late : (base high bits n : ℕ) → AreAbove base high bits → base < n → n ≤ high → high - n < 64
    → taken_of high (late_bits bits (high - n)) ≡ set.retain (set.insert (taken_of high bits) n)
    (λ m. nat_lt (high - m) 64)
taken_of-late base high bits n above more low near =
    same_numbers (taken_of high (late_bits bits (high - n)))
    (set.retain (set.insert (taken_of high bits) n) (λ m. nat_lt (high - m) 64))
    (λ q has.
    to q (of_taken base high (late_bits bits (high - n)) q (late_above base high bits n above more low near) has))
    (λ q has. back q (near_kept (taken_of high bits) n high q has))
  where
    other_place : (q : ℕ) → q ≤ high → q ≢ n → high - q ≢ high - n
    other_place q up other same = other (omega arith)

    to : (q : ℕ) → IsOfBits base high (late_bits bits (high - n)) q
        → set.contains (set.retain (set.insert (taken_of high bits) n) (λ m. nat_lt (high - m) 64)) q ≡ true
    to q is = kept_near (taken_of high bits) n high q
        (⊎_elim (λ (same : q ≡ n). inl same)
        (λ (other : q ≢ n). inr (in_taken high bits q is.up_to_high is.near
        (sym (bit_at_set_other w64 bits (high - n) near (high - q) (other_place q is.up_to_high other)) ∙ is.is_set)))
        (cases_eq q n)) is.near

    back : (q : ℕ) → IsKeptNear (taken_of high bits) n high q
        → set.contains (taken_of high (late_bits bits (high - n))) q ≡ true
    back q is = ⊎_elim (λ (same : q ≡ n). here q same is.near)
        (λ (old : set.contains (taken_of high bits) q ≡ true).
        let of = of_taken base high bits q above old in
        ⊎_elim (λ (same : q ≡ n). here q same is.near)
        (λ (other : q ≢ n). in_taken high (late_bits bits (high - n)) q of.up_to_high is.near
        (bit_at_set_other w64 bits (high - n) near (high - q) (other_place q of.up_to_high other) ∙ of.is_set))
        (cases_eq q n))
        is.which
      where
        here : (q : ℕ) → q ≡ n → high - q < 64 → set.contains (taken_of high (late_bits bits (high - n))) q ≡ true
        here q same near_too = in_taken high (late_bits bits (high - n)) q (omega arith) near_too
            (ap (λ (m : ℕ). bit_at (late_bits bits (high - n)) (high - m)) same ∙ bit_at_set_same w64 bits (high - n)
            near)

-- ---- what contracts see of the bits

abbrev pub seen : ℕ → ℕ → ℕ → ℕ → ℕ → Window
seen high width base back bits = record {
  high = high;
  width = width;
  base = base;
  back = back;
  taken = taken_of high bits;
}

pub seen_begun : (high width base back bits n : ℕ) → seen n width n back 0 ≡ begun_at n (seen high width base back bits)
seen_begun high width base back bits n =
    ap (λ (s : set.FinSet nat_cmp). record { high = n; width = width; base = n; back = back; taken = s })
    (taken_of-none n)

-- the numbers of the window with a number accepted
near_top : (high n top : ℕ) (s : set.FinSet nat_cmp) → top ≡ max high n
    → set.retain (set.insert s n) (λ m. nat_lt (top - m) 64)
    ≡ set.retain (set.insert s n) (λ m. nat_lt (max high n - m) 64)
near_top high n top s is = ap (λ (t : ℕ). set.retain (set.insert s n) (λ m. nat_lt (t - m) 64)) is

seen_with : (high width base back bits n top new : ℕ) → top ≡ max high n
    → taken_of top new ≡ set.retain (set.insert (taken_of high bits) n) (λ m. nat_lt (top - m) 64)
    → seen top width base back new ≡ accepted n (seen high width base back bits)
seen_with high width base back bits n top new is taken =
    ap (λ (s : set.FinSet nat_cmp). record { high = top; width = width; base = base; back = back; taken = s })
    (taken ∙ near_top high n top (taken_of high bits) is)
    ∙ ap (λ (h : ℕ). record {
      high = h;
      width = width;
      base = base;
      back = back;
      taken = set.retain (set.insert (taken_of high bits) n) (λ m. nat_lt (max high n - m) 64);
    }) is

pub seen_ahead : (high width base back bits n new : ℕ) → AreAbove base high bits → high < n
    → (n - high < 64 → new ≡ risen_bits bits (n - high)) → (64 ≤ n - high → new ≡ 1)
    → seen n width base back new ≡ accepted n (seen high width base back bits)
seen_ahead high width base back bits n new above more near far =
    seen_with high width base back bits n n new (omega arith)
    (⊎_elim
    (λ (less : n - high < 64). ap (taken_of n) (near less) ∙ taken_of-risen base high bits n above more)
    (λ (beyond : 64 ≤ n - high). ap (taken_of n) (far beyond) ∙ taken_of-alone base high bits n above more beyond)
    (cases_lt (n - high) 64))

pub ahead_above : (base high bits n new : ℕ) → AreAbove base high bits → high < n
    → (n - high < 64 → new ≡ risen_bits bits (n - high)) → (64 ≤ n - high → new ≡ 1) → AreAbove base n new
ahead_above base high bits n new above more near far =
    ⊎_elim
    (λ (less : n - high < 64). subst (AreAbove base n) (sym (near less)) (risen_above base high bits n above more))
    (λ (beyond : 64 ≤ n - high). subst (AreAbove base n) (sym (far beyond)) (alone_above base high n above.order more))
    (cases_lt (n - high) 64)

pub seen_late : (high width base back bits n : ℕ) → AreAbove base high bits → base < n → n ≤ high → high - n < 64
    → seen high width base back (late_bits bits (high - n)) ≡ accepted n (seen high width base back bits)
seen_late high width base back bits n above more low near =
    seen_with high width base back bits n high (late_bits bits (high - n)) (omega arith)
    (taken_of-late base high bits n above more low near)

-- a window may accept the number
pub record MayAccept (window : Window) (n : ℕ) : Type 0 where
  pub back : window.back ≤ MOST_BACK
  pub fresh : (end : ℕ) × IsFresh window n end

pub late_place : (high width base back bits n : ℕ) → MayAccept (seen high width base back bits) n → n ≤ high
    → (base < n) × (high - n < 64)
late_place high width base back bits n may low =
    ⊎_elim
    (λ (ahead : IsAhead (seen high width base back bits) n). let more : high < n = ahead.above in absurd (omega arith))
    (λ (late : IsLate (seen high width base back bits) (set.items (taken_of high bits)) n).
    let reach : back ≤ 64 = may.back in (late.above_base, omega (arith, late.near)))
    may.fresh.1.place

-- ---- whether a number was accepted

pub unset_untaken : (base high bits n : ℕ) → AreAbove base high bits → n ≤ high → (bit_at bits (high - n) ≡ 1 → ⊥)
    → Contains (set.items (taken_of high bits)) n → ⊥
unset_untaken base high bits n above low unset has =
    unset (of_taken base high bits n above (from_listed _ n has)).is_set

pub untaken_unset : (high bits n : ℕ) → n ≤ high → high - n < 64 → (Contains (set.items (taken_of high bits)) n → ⊥)
    → bit_at bits (high - n) ≡ 1 → ⊥
untaken_unset high bits n low near untaken is_set = untaken (listed _ n (in_taken high bits n low near is_set))

-- where a number lies that may come late
abbrev LiesBack : ℕ → ℕ → ℕ → ℕ → Type 0
LiesBack high base back n = (base < n) × (n ≤ high) × (high - n < back)

pub late_unset : (high width base back bits n : ℕ) (set_there : Bool) → AreAbove base high bits → back ≤ MOST_BACK
    → LiesBack high base back n → (IsTrue set_there ↔ (bit_at bits (high - n) ≡ 1))
    → IsTrue (not set_there) ↔ IsLate (seen high width base back bits) (set.items (taken_of high bits)) n
late_unset high width base back bits n true above most lies is = (
  (λ clear. absurd (false≢true clear)),
  (λ late. absurd (unset_late late)),
)
  where
    unset_late : IsLate (seen high width base back bits) (set.items (taken_of high bits)) n → ⊥
    unset_late late =
        let near : high - n < 64 = omega (arith, lies.2, most) in
        untaken_unset high bits n lies.1 near late.untaken (is.0 refl)
late_unset high width base back bits n false above most lies is = (
  (λ clear. record {
    above_base = lies.0;
    up_to_high = lies.1;
    near = lies.2;
    untaken = unset_untaken base high bits n above lies.1 (λ one. false≢true (is.1 one));
  }),
  (λ late. refl),
)
