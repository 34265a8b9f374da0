-- Lists of channels: numbers that ascend up to 63. For the clauses of `are_channel_ids`.
use Rattle.std.proofs.Common.{◌≡◌, ℕ, zero, suc, ◌+◌, ◌<◌, ◌≤◌, ◌↔◌, Bool, true, false, ◌&&◌, nat_le, List, [], ◌∷◌}
use Rattle.std.proofs.Common.{length, get_or, refl, sym, subst, ◌∙◌, arith}
use Rattle.std.specs.List.{All, list_all}
use Rattle.std.specs.Prelude.{IsTrue}
use Rattle.std.proofs.lemmas.Bool.{false≢true}
use Rattle.std.proofs.lemmas.Bool.Decides.{nat_tests}
use Rattle.sdls_base.specs.Bounds.{AreChannels}
use Rattle.unit_plan.specs.AssociationLine.{channels_from, are_channel_ids}

both : (a b : Bool) → (a && b) ≡ true → (a ≡ true) × (b ≡ true)
both true b e = (refl, e)
both false b e = absurd (false≢true e)

and_both : (a b : Bool) → a ≡ true → b ≡ true → (a && b) ≡ true
and_both true b e f = f
and_both false b e f = absurd (false≢true e)

at_most : (a b : ℕ) → nat_le a b ≡ true → a ≤ b
at_most a b e = grind (arith, nat_tests)

at_most_test : (a b : ℕ) → a ≤ b → nat_le a b ≡ true
at_most_test a b h = grind (arith, nat_tests)

above : (least n m : ℕ) → least ≤ n → (n + 1 ≤ m) × (m ≤ 63) → (least ≤ m) × (m ≤ 63)
above least n m low h = (omega (arith, h.0), h.1)

next : (n m : ℕ) → (n + 1 ≤ m) × (m ≤ 63) → n < m
next n m h = omega (arith, h.0)

-- what the test says of each number
each_from : (least : ℕ) (ns : List ℕ) → channels_from least ns ≡ true → (k d : ℕ) → k < length ns
    → (least ≤ get_or ns k d) × (get_or ns k d ≤ 63)
each_from least [] e k d low = absurd (omega arith)
each_from least (n ∷ ns) e zero d low =
    let first = both _ _ e in
    let second = both _ _ first.1 in
    (at_most _ _ first.0, at_most _ _ second.0)
each_from least (n ∷ ns) e (suc k) d low =
    let within : k < length ns = omega arith in
    above least n (get_or ns k d) (at_most _ _ (both _ _ e).0)
    (each_from (n + 1) ns (both _ _ (both _ _ e).1).1 k d within)

rising_from : (least : ℕ) (ns : List ℕ) → channels_from least ns ≡ true → (k : ℕ) → suc k < length ns
    → get_or ns k 0 < get_or ns (suc k) 0
rising_from least [] e k low = absurd (omega arith)
rising_from least (n ∷ ns) e zero low =
    let some : 0 < length ns = omega arith in
    next n (get_or ns 0 0) (each_from (n + 1) ns (both _ _ (both _ _ e).1).1 zero 0 some)
rising_from least (n ∷ ns) e (suc k) low = rising_from (n + 1) ns (both _ _ (both _ _ e).1).1 k (omega arith)

-- and back
from_each : (least : ℕ) (ns : List ℕ) → (0 < length ns → least ≤ get_or ns 0 0)
    → ((k : ℕ) → suc k < length ns → get_or ns k 0 < get_or ns (suc k) 0)
    → ((k d : ℕ) → k < length ns → get_or ns k d ≤ 63) → channels_from least ns ≡ true
from_each least [] first rising each = refl
from_each least (n ∷ ns) first rising each =
    and_both _ _ (at_most_test least n (first (omega arith)))
    (and_both _ _ (at_most_test n 63 (each zero 0 (omega arith)))
    (from_each (n + 1) ns
    (λ some. let next = rising zero (omega arith) in omega arith)
    (λ k low. rising (suc k) (omega arith))
    (λ k d low. each (suc k) d (omega arith))))

one_more : (n : ℕ) → n + 1 ≡ suc n
one_more n = omega arith

pub channel_ids_iff : (ns : List ℕ) → (are_channel_ids ns ≡ true) ↔ (AreChannels ns × All (λ channel. channel ≤ 63) ns)
channel_ids_iff ns = (
  λ e.
      let one = both _ _ e in
      let most = both _ _ one.1 in (
        record {
          one = at_most _ _ one.0;
          most = at_most _ _ most.0;
          ascending = λ k low. subst (λ n. get_or ns k 0 < get_or ns n 0) (sym (one_more k))
              (rising_from 0 ns most.1 k (omega arith));
        },
        λ k d low. (each_from 0 ns most.1 k d low).1,
      ),
  λ h.
      and_both _ _ (at_most_test _ _ h.0.one)
      (and_both _ _ (at_most_test _ _ h.0.most)
      (from_each 0 ns (λ some. omega arith)
      (λ k low. subst (λ n. get_or ns k 0 < get_or ns n 0) (one_more k) (h.0.ascending k (omega arith)))
      h.1)),
)

-- ---- as the one test after the other

small_of : (ns : List ℕ) → list_all (λ n. nat_le n 63) ns ≡ true → (k d : ℕ) → k < length ns → get_or ns k d ≤ 63
small_of [] e k d low = absurd (omega arith)
small_of (n ∷ ns) e zero d low = at_most n 63 (both _ _ e).0
small_of (n ∷ ns) e (suc k) d low = let within : k < length ns = omega arith in small_of ns (both _ _ e).1 k d within

small_test : (ns : List ℕ) → ((k d : ℕ) → k < length ns → get_or ns k d ≤ 63) → list_all (λ n. nat_le n 63) ns ≡ true
small_test [] small = refl
small_test (n ∷ ns) small =
    and_both _ _ (at_most_test n 63 (small zero 0 (omega arith)))
    (small_test ns (λ k d low. small (suc k) d (omega arith)))

same_test : (a b : Bool) → (a ≡ true → b ≡ true) → (b ≡ true → a ≡ true) → a ≡ b
same_test true true f g = refl
same_test true false f g = sym (f refl)
same_test false true f g = g refl
same_test false false f g = refl

pub channel_ids_then : (ns : List ℕ) (all ids : Bool) → IsTrue all ↔ AreChannels ns
    → ids ≡ list_all (λ n. nat_le n 63) ns
    → all ≡ true → ids ≡ are_channel_ids ns
channel_ids_then ns all ids are same is = same_test ids (are_channel_ids ns)
    (λ e. (channel_ids_iff ns).1 (are.0 is, small_of ns (sym same ∙ e)))
    (λ e. same ∙ small_test ns ((channel_ids_iff ns).0 e).1)

pub channel_ids_else : (ns : List ℕ) (all : Bool) → IsTrue all ↔ AreChannels ns → all ≡ false → all ≡ are_channel_ids ns
channel_ids_else ns all are is = same_test all (are_channel_ids ns)
    (λ e. absurd (false≢true (sym is ∙ e)))
    (λ e. are.1 ((channel_ids_iff ns).0 e).0)
