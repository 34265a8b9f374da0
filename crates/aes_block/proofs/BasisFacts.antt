-- Look-ups in tables of sixteen, and what the tables of the S-box give for each octet.
use Rattle.std.proofs.Common.{◌≡◌, ℕ, zero, suc, ◌+◌, ◌*◌, ◌/◌, ◌%◌, ◌^◌, ◌<◌, List, [], ◌∷◌, Bool, true, false, cond}
use Rattle.std.proofs.Common.{leb, T, length, map, replicate, get_or, slice_index, bit_xor, bit_and, w8, Fits, refl}
use Rattle.std.proofs.Common.{sym, ap, ◌∙◌, subst, arith}
use Rattle.std.specs.List.{range_with_len}
use Rattle.std.specs.Int.{bit_at}
use Rattle.std.specs.Simd.Lanes.{zip2, Each1}
use Rattle.std.proofs.lemmas.List.{length-map, ext_get_or}
use Rattle.std.proofs.lemmas.List.FromFn.{get_or-map-range_with_len}
use Rattle.std.proofs.lemmas.Nat.{and_mask}
use Rattle.std.proofs.lemmas.Nat.Bits.{bit_at-lt, bit_at_xor}
use Rattle.std.proofs.lemmas.Simd.{swz_l, SwzOk, SwzOk-from_Each1, length-swz_l, get_or-swz_l, zip2_splat, zip2_of_maps}
use Rattle.std.proofs.lemmas.Simd.{map-map}
use Rattle.aes_block.specs.Aes.{sub_byte, times_low, inverse, from_bits}
use Rattle.aes_block.specs.Basis.{basis, sum_of, element, is_place, look, first_place, second_place, sub_linear}
use Rattle.aes_block.specs.Basis.{sub_linear_doubled}
use Rattle.aes_block.specs.declared.substitution.TheConstants.{BY_LOWER, BY_UPPER, ONE_OVER, A_OVER, OCTET_FIRST}
use Rattle.aes_block.specs.declared.substitution.TheConstants.{OCTET_SECOND, ONCE_FIRST, ONCE_SECOND, TWICE_FIRST}
use Rattle.aes_block.specs.declared.substitution.TheConstants.{TWICE_SECOND}
use Rattle.aes_block.proofs.OctetFacts.{same_at}
use Rattle.aes_block.proofs.XorFacts.{sum_scale, xor_four}

-- ---- functions of each octet of a vector

pub map_same : (f g : ℕ → ℕ) → ((x : ℕ) → f x ≡ g x) → (v : List ℕ) → map f v ≡ map g v
map_same f g same [] = refl
map_same f g same (x ∷ xs) = ap (λ y. y ∷ map f xs) (same x) ∙ ap (λ l. g x ∷ l) (map_same f g same xs)

-- where the functions agree on octets
pub map_octets : (f g : ℕ → ℕ) → ((x : ℕ) → x < 256 → f x ≡ g x) → (v : List ℕ) → Each1 (Fits w8) v → map f v ≡ map g v
map_octets f g same [] fits = refl
map_octets f g same (x ∷ xs) fits =
    ap (λ y. y ∷ map f xs) (same x fits.0.fits) ∙ ap (λ l. g x ∷ l) (map_octets f g same xs fits.1)

each_octet : (p : ℕ → Bool) (f : ℕ → ℕ) → ((x : ℕ) → x < 256 → T (p (f x))) → (v : List ℕ) → Each1 (Fits w8) v
    → Each1 (λ j. T (p j)) (map f v)
each_octet p f holds [] fits = tt
each_octet p f holds (x ∷ xs) fits = (holds x fits.0.fits, each_octet p f holds xs fits.1)

pub lower_bits : (v : List ℕ) → length v ≡ 16 → zip2 bit_and v (replicate 16 15) ≡ map (λ y. y % 16) v
lower_bits v long = zip2_splat bit_and v 16 15 long ∙ map_same (λ y. bit_and y 15) (λ y. y % 16) (λ y. and_mask y 4) v

pub upper_bits : (v : List ℕ) → length v ≡ 16 → zip2 (λ a b. a / 2 ^ b) v (replicate 16 4) ≡ map (λ y. y / 16) v
upper_bits v long = zip2_splat (λ a b. a / 2 ^ b) v 16 4 long

-- ---- look-ups

pub places_ok : (places : List ℕ) → length places ≡ 16 → Each1 (λ j. T (is_place j)) places → SwzOk w8 16 16 0 places
places_ok places long each = SwzOk-from_Each1 w8 16 1 16 0 places refl (omega arith) each

pub look_up_is : (table places : List ℕ) → length places ≡ 16 → swz_l w8 16 table 0 places ≡ map (look table) places
look_up_is table places long =
    ext_get_or 0 _ _ (length-swz_l w8 16 table 0 places ∙ sym (length-map places (look table))) (λ i lt.
    let within : i < 16 = omega (arith, length-swz_l w8 16 table 0 places) in
    let here : 16 * ((0 + i) / 16) + get_or places i 0 ≡ get_or places i 0 = omega arith in
    get_or-swz_l w8 16 table 0 places i (omega arith)
    ∙ ap (λ p. cond (leb 128 (get_or places i 0)) 0 (get_or table p 0)) here
    ∙ sym (get_or-map-in (look table) places i (omega arith)))
  where
    get_or-map-in : (f : ℕ → ℕ) (v : List ℕ) (i : ℕ) → i < length v → get_or (map f v) i 0 ≡ f (get_or v i 0)
    get_or-map-in f [] i lt = absurd (omega arith)
    get_or-map-in f (x ∷ xs) zero lt = refl
    get_or-map-in f (x ∷ xs) (suc i) lt = get_or-map-in f xs i (omega arith)

-- a test that passes at all numbers below n, by computation
pub true_at : (p : ℕ → Bool) (n x : ℕ) → map p (range_with_len 0 n) ≡ map (λ _. true) (range_with_len 0 n) → x < n
    → T (p x)
true_at p n x same lt =
    subst T
    (sym (get_or-map-range_with_len (λ _. true) 0 n x x false lt (omega arith))
    ∙ sym (ap (λ (v : List Bool). get_or v x false) same)
    ∙ get_or-map-range_with_len p 0 n x x false lt (omega arith)) tt

module _ (f : ℕ → ℕ) (all : map (λ x. is_place (f x)) (range_with_len 0 256)
    ≡ map (λ _. true) (range_with_len 0 256)) where
  pub are_places : (v places : List ℕ) → Each1 (Fits w8) v → places ≡ map f v → Each1 (λ j. T (is_place j)) places
  are_places v places fits is =
      subst (Each1 (λ j. T (is_place j))) (sym is) (each_octet is_place f (λ x lt. true_at (λ x. is_place
      (f x)) 256 x all lt) v fits)

-- ---- the tables

-- the sum of what two tables give for y
abbrev pub sum_at : List ℕ → List ℕ → ℕ → ℕ
sum_at first second y = bit_xor (look first (first_place ONE_OVER A_OVER y)) (look second
    (second_place ONE_OVER A_OVER y))

pub on_basis_at : (x : ℕ) → x < 256 → element (bit_xor (look BY_LOWER (x % 16)) (look BY_UPPER (x / 16))) ≡ x
unfolding sum_of
on_basis_at x lt = same_at (λ x. element (bit_xor (look BY_LOWER (x % 16)) (look BY_UPPER (x / 16))))
    (λ x. x) 256 x refl lt

pub octet_at : (y : ℕ) → y < 256 → sum_at OCTET_FIRST OCTET_SECOND y ≡ sub_linear (element y)
unfolding sum_of times_low inverse from_bits sub_byte
octet_at y lt = same_at (sum_at OCTET_FIRST OCTET_SECOND) (λ y. sub_linear (element y)) 256 y refl lt

pub once_at : (y : ℕ) → y < 256 → element (sum_at ONCE_FIRST ONCE_SECOND y) ≡ sub_linear (element y)
unfolding sum_of times_low inverse from_bits sub_byte
once_at y lt = same_at (λ y. element (sum_at ONCE_FIRST ONCE_SECOND y)) (λ y. sub_linear (element y)) 256 y refl lt

pub twice_at : (y : ℕ) → y < 256 → element (sum_at TWICE_FIRST TWICE_SECOND y) ≡ sub_linear_doubled (element y)
unfolding sum_of times_low inverse from_bits sub_byte
twice_at y lt = same_at (λ y. element (sum_at TWICE_FIRST TWICE_SECOND y)) (λ y. sub_linear_doubled
    (element y)) 256 y refl lt

-- ---- the steps from the numbers of a vector to what the tables give

abbrev lower_of : List ℕ → List ℕ
lower_of v = zip2 bit_and v (replicate 16 15)

abbrev upper_of : List ℕ → List ℕ
upper_of v = zip2 (λ a b. a / 2 ^ b) v (replicate 16 4)

abbrev sum_of_both : List ℕ → List ℕ
sum_of_both v = zip2 bit_xor (upper_of v) (lower_of v)

looked_up : (table : List ℕ) (f : ℕ → ℕ) (v places result : List ℕ) → result ≡ map (look table) places
    → places ≡ map f v
    → result ≡ map (λ y. look table (f y)) v
looked_up table f v places result is places_is = is ∙ ap (map (look table)) places_is ∙ map-map (look table) f v

abbrev one_over_sum : (ℕ → ℕ) → ℕ → ℕ
one_over_sum f y = bit_xor (look ONE_OVER (f y)) (look A_OVER (y % 16))

module _ (v : List ℕ) (long : length v ≡ 16) where
  pub both_are : sum_of_both v ≡ map (λ y. bit_xor (y / 16) (y % 16)) v
  both_are = zip2_of_maps bit_xor (λ y. y / 16) (λ y. y % 16) v (upper_bits v long) (lower_bits v long)

  pub over_are : (table over : List ℕ) → over ≡ map (look table) (lower_of v) → over ≡ map (λ y. look table (y % 16)) v
  over_are table over is = looked_up table (λ y. y % 16) v (lower_of v) over is (lower_bits v long)

  pub uppers_are : (table result : List ℕ) → result ≡ map (look table) (upper_of v)
      → result ≡ map (λ y. look table (y / 16)) v
  uppers_are table result is = looked_up table (λ y. y / 16) v (upper_of v) result is (upper_bits v long)

  module _ (over : List ℕ) (over_is : over ≡ map (look A_OVER) (lower_of v)) where
    pub first_inner : (one : List ℕ) → one ≡ map (look ONE_OVER) (upper_of v)
        → zip2 bit_xor one over ≡ map (one_over_sum (λ y. y / 16)) v
    first_inner one one_is =
        zip2_of_maps bit_xor (λ y. look ONE_OVER (y / 16)) (λ y. look A_OVER (y % 16)) v
        (uppers_are ONE_OVER one one_is) (over_are A_OVER over over_is)

    pub second_inner : (one : List ℕ) → one ≡ map (look ONE_OVER) (sum_of_both v)
        → zip2 bit_xor one over ≡ map (one_over_sum (λ y. bit_xor (y / 16) (y % 16))) v
    second_inner one one_is =
        zip2_of_maps bit_xor (λ y. look ONE_OVER (bit_xor (y / 16) (y % 16))) (λ y. look A_OVER (y % 16)) v
        (looked_up ONE_OVER (λ y. bit_xor (y / 16) (y % 16)) v (sum_of_both v) one one_is both_are)
        (over_are A_OVER over over_is)

    pub first_places : (one outer : List ℕ) → one ≡ map (look ONE_OVER) (upper_of v)
        → outer ≡ map (look ONE_OVER) (zip2 bit_xor one over)
        → zip2 bit_xor outer (sum_of_both v) ≡ map (first_place ONE_OVER A_OVER) v
    first_places one outer one_is outer_is =
        zip2_of_maps bit_xor (λ y. look ONE_OVER (one_over_sum (λ y. y / 16) y)) (λ y. bit_xor (y / 16) (y % 16)) v
        (looked_up ONE_OVER (one_over_sum (λ y. y / 16)) v (zip2 bit_xor one over) outer outer_is
        (first_inner one one_is)) both_are

    pub second_places : (one outer : List ℕ) → one ≡ map (look ONE_OVER) (sum_of_both v)
        → outer ≡ map (look ONE_OVER) (zip2 bit_xor one over)
        → zip2 bit_xor outer (upper_of v) ≡ map (second_place ONE_OVER A_OVER) v
    second_places one outer one_is outer_is =
        zip2_of_maps bit_xor (λ y. look ONE_OVER (one_over_sum (λ y. bit_xor (y / 16) (y % 16)) y)) (λ y. y / 16) v
        (looked_up ONE_OVER (one_over_sum (λ y. bit_xor (y / 16) (y % 16))) v (zip2 bit_xor one over) outer outer_is
        (second_inner one one_is))
        (upper_bits v long)

-- all of them are places in a table, or from 128 on
module _ (v : List ℕ) (fits : Each1 (Fits w8) v) (places : List ℕ) where
  pub lower_fits : places ≡ map (λ y. y % 16) v → Each1 (λ j. T (is_place j)) places
  lower_fits = are_places (λ y. y % 16) refl v places fits

  pub upper_fits : places ≡ map (λ y. y / 16) v → Each1 (λ j. T (is_place j)) places
  upper_fits = are_places (λ y. y / 16) refl v places fits

  pub both_fit : places ≡ map (λ y. bit_xor (y / 16) (y % 16)) v → Each1 (λ j. T (is_place j)) places
  both_fit = are_places (λ y. bit_xor (y / 16) (y % 16)) refl v places fits

  pub first_inner_fits : places ≡ map (one_over_sum (λ y. y / 16)) v → Each1 (λ j. T (is_place j)) places
  first_inner_fits = are_places (one_over_sum (λ y. y / 16)) refl v places fits

  pub second_inner_fits : places ≡ map (one_over_sum (λ y. bit_xor (y / 16) (y % 16))) v
      → Each1 (λ j. T (is_place j)) places
  second_inner_fits = are_places (one_over_sum (λ y. bit_xor (y / 16) (y % 16))) refl v places fits

  pub first_fits : places ≡ map (first_place ONE_OVER A_OVER) v → Each1 (λ j. T (is_place j)) places
  first_fits = are_places (first_place ONE_OVER A_OVER) refl v places fits

  pub second_fits : places ≡ map (second_place ONE_OVER A_OVER) v → Each1 (λ j. T (is_place j)) places
  second_fits = are_places (second_place ONE_OVER A_OVER) refl v places fits

-- the numbers of octets stand for these octets
pub on_basis_is : (v lower upper : List ℕ) → length v ≡ 16 → Each1 (Fits w8) v
    → lower ≡ map (look BY_LOWER) (zip2 bit_and v (replicate 16 15))
    → upper ≡ map (look BY_UPPER) (zip2 (λ a b. a / 2 ^ b) v (replicate 16 4))
    → map element (zip2 bit_xor lower upper) ≡ v
on_basis_is v lower upper long fits lower_is upper_is =
    let sum : ℕ → ℕ = λ x. bit_xor (look BY_LOWER (x % 16)) (look BY_UPPER (x / 16)) in
    ap (map element)
    (zip2_of_maps bit_xor (λ x. look BY_LOWER (x % 16)) (λ x. look BY_UPPER (x / 16)) v
    (over_are v long BY_LOWER lower lower_is) (uppers_are v long BY_UPPER upper upper_is))
    ∙ map-map element sum v ∙ map_octets (λ x. element (sum x)) (λ x. x) on_basis_at v fits ∙ map_itself v
  where
    map_itself : (v : List ℕ) → map (λ x. x) v ≡ v
    map_itself [] = refl
    map_itself (x ∷ xs) = ap (λ l. x ∷ l) (map_itself xs)

-- what two tables give, read on the basis
pub summed_is : (first second : List ℕ) (g : ℕ → ℕ) → ((y : ℕ) → y < 256
    → element (sum_at first second y) ≡ g (element y))
    → (v result : List ℕ) → Each1 (Fits w8) v → result ≡ map (sum_at first second) v
    → map element result ≡ map (λ y. g (element y)) v
summed_is first second g at v result fits is =
    ap (map element) is ∙ map-map element (sum_at first second) v
    ∙ map_octets (λ y. element (sum_at first second y)) (λ y. g (element y)) at v fits

-- ---- sums on the basis

sum_of_sum : (n a b : ℕ) → sum_of n (bit_xor a b) ≡ bit_xor (sum_of n a) (sum_of n b)
unfolding sum_of
sum_of_sum zero a b = refl
sum_of_sum (suc n) a b =
    let v : ℕ = slice_index basis n in
    ap (λ (x : ℕ). bit_xor (x * v) (sum_of n (bit_xor a b))) (bit_at_xor a b n)
    ∙ ap (λ (x : ℕ). bit_xor x (sum_of n (bit_xor a b))) (sum_scale (bit_at a n) (bit_at b n) v (bit_at-lt a n)
    (bit_at-lt b n))
    ∙ ap (bit_xor (bit_xor (bit_at a n * v) (bit_at b n * v))) (sum_of_sum n a b)
    ∙ xor_four (bit_at a n * v) (bit_at b n * v) (sum_of n a) (sum_of n b)

pub element_sum : (a b : ℕ) → element (bit_xor a b) ≡ bit_xor (element a) (element b)
element_sum a b = sum_of_sum 8 a b
