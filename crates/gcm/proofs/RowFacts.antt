-- The rows of a table, and what they give for the octets of a vector.
use Rattle.std.proofs.Common.{◌≡◌, ℕ, zero, suc, ◌+◌, ◌-◌, ◌*◌, ◌/◌, ◌%◌, ◌^◌, ◌<◌, List, [], Bool, true, false, cond}
use Rattle.std.proofs.Common.{leb, T, length, map, replicate, get_or, slice_set, bit_xor, bit_or, bit_and, w8, Fits}
use Rattle.std.proofs.Common.{inl, inr, refl, sym, ap, ◌∙◌, subst, arith}
use Rattle.std.specs.List.{range_with_len}
use Rattle.std.specs.Int.{bit_at}
use Rattle.std.specs.Int.Bits.{or_zero_r, xor_zero_r, xor_assoc, xor_mod, xor_shr, xor_shifted}
use Rattle.std.specs.Simd.Lanes.{zip2, digits_l, number_l, Each1}
use Rattle.std.proofs.Math.Nat.{zero-mul, one-mul, zero-div}
use Rattle.std.proofs.lemmas.Nat.{mod_below, pow_pos, shr_split}
use Rattle.std.proofs.lemmas.Nat.Bits.{bit_at-lt}
use Rattle.std.proofs.lemmas.Bool.{lt-leb, cases_eq}
use Rattle.std.proofs.lemmas.List.{length-map, get_or-set_same, get_or-set_other}
use Rattle.std.proofs.lemmas.Simd.{get_or-zip2, get_or-replicate, length-zip2, Each1-get_or, Each1-from_get_or}
use Rattle.aes_block.specs.Basis.{is_place, look}
use Rattle.aes_block.proofs.BasisFacts.{over_are, true_at, uppers_are}
use Rattle.aes_block.proofs.OctetFacts.{value_at}
use Rattle.aes_block.proofs.RoundFacts.{at_mapped}
use Rattle.gcm.specs.Field.{by_x, times_low}
use Rattle.gcm.specs.Rows.{by_powers, octet_at, pair, xor_sum, IsRow}
use Rattle.gcm.specs.declared.table.TheConstants.{WITHOUT_1, WITHOUT_X, WITHOUT_X2, WITHOUT_X3}
use Rattle.gcm.proofs.SumFacts.{octet_in_vector, number_fits, number_is_sum, xor_sum_same}
use Rattle.gcm.proofs.TableFacts.{octet_is}

-- ---- octets of sums

octet_sum : (a b i : ℕ) → octet_at (bit_xor a b) i ≡ bit_xor (octet_at a i) (octet_at b i)
octet_sum a b i = ap (λ (z : ℕ). z % 2 ^ 8) (xor_shr a b (8 * i)) ∙ xor_mod (a / 2 ^ (8 * i)) (b / 2 ^ (8 * i)) 8

octet_scale : (p v i : ℕ) → p < 2 → octet_at (p * v) i ≡ p * octet_at v i
octet_scale zero v i lt = simp (zero-mul, zero-div) refl
octet_scale (suc zero) v i lt = simp one-mul refl
octet_scale (suc (suc p)) v i lt = absurd (omega arith)

-- octet i of a multiple by four bits
multiple_octet : (k v i : ℕ) → octet_at (times_low 4 k v) i
    ≡ bit_xor (bit_xor (bit_at k 3 * octet_at v i) (bit_at k 2 * octet_at (by_x v) i))
    (bit_xor (bit_at k 1 * octet_at (by_x (by_x v)) i) (bit_at k 0 * octet_at (by_x (by_x (by_x v))) i))
unfolding times_low
multiple_octet k v i =
    let v1 : ℕ = by_x v in
    let v2 : ℕ = by_x v1 in
    let v3 : ℕ = by_x v2 in
    let t3 : ℕ = bit_at k 3 * v in
    let t2 : ℕ = bit_at k 2 * v1 in
    let t1 : ℕ = bit_at k 1 * v2 in
    let t0 : ℕ = bit_at k 0 * v3 in
    ap (λ (z : ℕ). octet_at (bit_xor t3 (bit_xor t2 (bit_xor t1 z))) i) (xor_zero_r t0)
    ∙ octet_sum t3 (bit_xor t2 (bit_xor t1 t0)) i
    ∙ ap (bit_xor (octet_at t3 i)) (octet_sum t2 (bit_xor t1 t0) i ∙ ap (bit_xor (octet_at t2 i)) (octet_sum t1 t0 i))
    ∙ rw (
      octet_scale (bit_at k 3) v i (bit_at-lt k 3),
      octet_scale (bit_at k 2) v1 i (bit_at-lt k 2),
      octet_scale
          (bit_at k 1) v2 i (bit_at-lt k 1),
      octet_scale (bit_at k 0) v3 i (bit_at-lt k 0),
    )
    (sym (xor_assoc (bit_at k 3 * octet_at v i) (bit_at k 2 * octet_at v1 i) (bit_xor (bit_at k 1 * octet_at v2 i)
    (bit_at k 0 * octet_at v3 i))))

-- ---- spread octets

-- 128 where bit b is 0
abbrev left_out : ℕ → ℕ → ℕ
left_out b k = 128 * (1 - bit_at k b)

kept : (t : List ℕ) (place b : ℕ) → place < 16 → b < 2 → look t (bit_or place (128 * (1 - b))) ≡ b * get_or t place 0
kept t place zero lt two =
    gone (leb 128 (bit_or place 128)) (get_or t (bit_or place 128) 0) (true_at (λ p. leb 128
    (bit_or p 128)) 16 place refl lt)
    ∙ sym (zero-mul (get_or t place 0))
  where
    gone : (b : Bool) (x : ℕ) → T b → cond b 0 x ≡ 0
    gone true x t = refl
    gone false x t = absurd t
kept t place (suc zero) lt two =
    ap (look t) (or_zero_r place)
    ∙ stays (leb 128 place) (get_or t place 0) (true_at (λ p. not_high p) 16 place refl lt)
    ∙ sym (one-mul (get_or t place 0))
  where
    not_high : ℕ → Bool
    not_high p = cond (leb 128 p) false true

    stays : (b : Bool) (x : ℕ) → T (cond b false true) → cond b 0 x ≡ x
    stays true x t = absurd t
    stays false x t = refl
kept t place (suc (suc b)) lt two = absurd (omega arith)

module _ (t without : List ℕ) (place b : ℕ) (lt : place < 16) (long : length without ≡ 16)
    (table : without ≡ map (left_out b) (range_with_len 0 16)) where
  spread_at : (k : ℕ) → k < 16 → get_or (map (look t) (zip2 bit_or (replicate 16 place) without)) k 0
      ≡ bit_at k b * get_or t place 0
  spread_at k within =
      at_mapped (look t) (zip2 bit_or (replicate 16 place) without) k (omega (
        arith,
        length-zip2 bit_or
            (replicate 16 place) without (sym long),
      ))
      ∙ ap (look t)
      (get_or-zip2 bit_or (replicate 16 place) without k 0 0 0 within (omega arith)
      ∙ ap (λ (z : ℕ). bit_or z (get_or without k 0)) (get_or-replicate 16 k place 0 within)
      ∙ ap (bit_or place) (value_at (left_out b) 16 k without table within))
      ∙ kept t place (bit_at k b) lt (bit_at-lt k b)

pub place_kept : (place : ℕ) → place < 16 → T (is_place (bit_or place 0))
place_kept place lt = true_at (λ p. is_place (bit_or p 0)) 16 place refl lt

pub place_gone : (place : ℕ) → place < 16 → T (is_place (bit_or place 128))
place_gone place lt = true_at (λ p. is_place (bit_or p 128)) 16 place refl lt

pub row_is : (v place : ℕ) (v0 v1 v2 v3 r0 r1 r2 r3 : List ℕ) → place < 16
    → v0 ≡ digits_l 256 16 v → v1 ≡ digits_l 256 16 (by_x v) → v2 ≡ digits_l 256 16 (by_x (by_x v))
    → v3 ≡ digits_l 256 16 (by_x (by_x (by_x v)))
    → r0 ≡ map (look v0) (zip2 bit_or (replicate 16 place) WITHOUT_1)
    → r1 ≡ map (look v1) (zip2 bit_or (replicate 16 place) WITHOUT_X)
    → r2 ≡ map (look v2) (zip2 bit_or (replicate 16 place) WITHOUT_X2)
    → r3 ≡ map (look v3) (zip2 bit_or (replicate 16 place) WITHOUT_X3)
    → IsRow v place (zip2 bit_xor (zip2 bit_xor r0 r1) (zip2 bit_xor r2 r3))
row_is v place v0 v1 v2 v3 r0 r1 r2 r3 lt i0 i1 i2 i3 s0 s1 s2 s3 k within =
    let l0 : length r0 ≡ 16 = ap length s0 in
    let l1 : length r1 ≡ 16 = ap length s1 in
    let l2 : length r2 ≡ 16 = ap length s2 in
    let l3 : length r3 ≡ 16 = ap length s3 in
    let left_long : length (zip2 bit_xor r0 r1) ≡ 16 = length-zip2 bit_xor r0 r1 (l0 ∙ sym l1) ∙ l0 in
    let right_long : length (zip2 bit_xor r2 r3) ≡ 16 = length-zip2 bit_xor r2 r3 (l2 ∙ sym l3) ∙ l2 in
    let o : (u : List ℕ) (n : ℕ) → u ≡ digits_l 256 16 n → get_or u place 0 ≡ octet_at n place =
    λ u n is. ap (λ (l : List ℕ). get_or l place 0) is ∙ octet_in_vector 16 n place lt in
    let at0 : get_or r0 k 0 ≡ bit_at k 3 * octet_at v place =
    ap (λ (l : List ℕ). get_or l k 0) s0 ∙ spread_at v0 WITHOUT_1 place 3 lt refl refl k within
    ∙ ap (λ (z : ℕ). bit_at k 3 * z) (o v0 v i0) in
    let at1 : get_or r1 k 0 ≡ bit_at k 2 * octet_at (by_x v) place =
    ap (λ (l : List ℕ). get_or l k 0) s1 ∙ spread_at v1 WITHOUT_X place 2 lt refl refl k within
    ∙ ap (λ (z : ℕ). bit_at k 2 * z) (o v1 (by_x v) i1) in
    let at2 : get_or r2 k 0 ≡ bit_at k 1 * octet_at (by_x (by_x v)) place =
    ap (λ (l : List ℕ). get_or l k 0) s2 ∙ spread_at v2 WITHOUT_X2 place 1 lt refl refl k within
    ∙ ap (λ (z : ℕ). bit_at k 1 * z) (o v2 (by_x (by_x v)) i2) in
    let at3 : get_or r3 k 0 ≡ bit_at k 0 * octet_at (by_x (by_x (by_x v))) place =
    ap (λ (l : List ℕ). get_or l k 0) s3 ∙ spread_at v3 WITHOUT_X3 place 0 lt refl refl k within
    ∙ ap (λ (z : ℕ). bit_at k 0 * z) (o v3 (by_x (by_x (by_x v))) i3) in
    get_or-zip2 bit_xor (zip2 bit_xor r0 r1) (zip2 bit_xor r2 r3) k 0 0 0 (omega arith) (omega arith)
    ∙ ap (λ (z : ℕ). bit_xor z (get_or (zip2 bit_xor r2 r3) k 0)) (get_or-zip2 bit_xor r0 r1 k 0 0 0 (omega arith)
    (omega arith))
    ∙ ap (bit_xor (bit_xor (get_or r0 k 0) (get_or r1 k 0))) (get_or-zip2 bit_xor r2 r3 k 0 0 0 (omega arith)
    (omega arith))
    ∙ rw (at0, at1, at2, at3) (sym (multiple_octet k v place))

-- ---- rows looked up by the octets of a vector

row_at : (h place : ℕ) (upper lower : List ℕ) (o : ℕ) → o < 256 → IsRow h place upper
    → IsRow (by_powers 4 h) place lower
    → bit_xor (get_or upper (o / 16) 0) (get_or lower (o % 16) 0) ≡ octet_at (times_low 8 o h) place
row_at h place upper lower o lt is_upper is_lower =
    ap (λ (z : ℕ). bit_xor z (get_or lower (o % 16) 0)) (is_upper (o / 16) (omega arith))
    ∙ ap (bit_xor (octet_at (times_low 4 (o / 16) h) place)) (is_lower (o % 16) (omega arith))
    ∙ sym (octet_sum (times_low 4 (o / 16) h) (times_low 4 (o % 16) (by_powers 4 h)) place)
    ∙ ap (λ (t : ℕ). octet_at t place) (octet_is h o)

-- the two halves of a number below 2^128
pub pair_of_number : (n : ℕ) → n < 2 ^ 128 → pair (digits_l (2 ^ 64) 2 n) ≡ n
pair_of_number n lt =
    let high : n / 2 ^ 64 % 2 ^ 64 ≡ n / 2 ^ 64 = omega arith in
    ap (λ (z : ℕ). bit_xor (z * 2 ^ 64) (n % 2 ^ 64)) high
    ∙ xor_shifted (n / 2 ^ 64) 64 (n % 2 ^ 64) (mod_below n (2 ^ 64) (pow_pos 64)) ∙ shr_split n 64

look_low : (t : List ℕ) (j : ℕ) → j < 16 → look t j ≡ get_or t j 0
look_low t j lt = ap (λ (b : Bool). cond b 0 (get_or t j 0)) (lt-leb 128 j (omega arith))

module _ (h place : ℕ) (octets up lo u l : List ℕ) (long : length octets ≡ 16) (fits : Each1 (Fits w8) octets)
    (up_is : IsRow h place up) (lo_is : IsRow (by_powers 4 h) place lo)
    (u_is : u ≡ map (look up) (zip2 (λ a b. a / 2 ^ b) octets (replicate 16 4)))
    (l_is : l ≡ map (look lo) (zip2 bit_and octets (replicate 16 15))) where
  long_u : length u ≡ 16
  long_u = ap length (uppers_are octets long up u u_is) ∙ length-map octets (λ y. look up (y / 16)) ∙ long

  long_l : length l ≡ 16
  long_l = ap length (over_are octets long lo l l_is) ∙ length-map octets (λ y. look lo (y % 16)) ∙ long

  long_both : length (zip2 bit_xor u l) ≡ 16
  long_both = length-zip2 bit_xor u l (long_u ∙ sym long_l) ∙ long_u

  lane : (p : ℕ) → p < 16 → get_or (zip2 bit_xor u l) p 0 ≡ octet_at (times_low 8 (get_or octets p 0) h) place
  lane p lt =
      let o : ℕ = get_or octets p 0 in
      let small : o < 256 = (Each1-get_or (Fits w8) octets p 0 (omega (arith, long)) fits).fits in
      get_or-zip2 bit_xor u l p 0 0 0 (omega (arith, long_u)) (omega (arith, long_l))
      ∙ ap (λ (z : ℕ). bit_xor z (get_or l p 0))
      (ap (λ (v : List ℕ). get_or v p 0) (uppers_are octets long up u u_is)
      ∙ at_mapped (λ y. look up (y / 16)) octets p (omega (arith, long)) ∙ look_low up (o / 16) (omega arith))
      ∙ ap (bit_xor (get_or up (o / 16) 0))
      (ap (λ (v : List ℕ). get_or v p 0) (over_are octets long lo l l_is)
      ∙ at_mapped (λ y. look lo (y % 16)) octets p (omega (arith, long)) ∙ look_low lo (o % 16) (omega arith))
      ∙ row_at h place up lo o small up_is lo_is

  both_fit_octets : Each1 (Fits w8) (zip2 bit_xor u l)
  both_fit_octets =
      Each1-from_get_or (Fits w8) (zip2 bit_xor u l) 0
      (λ i lt. record { fits = omega (arith, lane i (omega (arith, long_both))) })

  pub rows_by : pair (digits_l (2 ^ 64) 2 (number_l 256 (zip2 bit_xor u l)))
      ≡ xor_sum (λ p. octet_at (times_low 8 (get_or octets p 0) h) place * 2 ^ (8 * p)) 16
  rows_by =
      let v : List ℕ = zip2 bit_xor u l in
      let width : 8 * length v ≡ 128 = omega (arith, long_both) in
      pair_of_number (number_l 256 v) (subst (λ (k : ℕ). number_l 256 v < 2 ^ k) width (number_fits v both_fit_octets))
      ∙ number_is_sum v both_fit_octets ∙ ap (xor_sum (λ p. get_or v p 0 * 2 ^ (8 * p))) long_both
      ∙ xor_sum_same (λ p. get_or v p 0 * 2 ^ (8 * p)) (λ p. octet_at (times_low 8 (get_or octets p 0) h) place * 2 ^
      (8 * p)) 16
      (λ p lt. ap (λ (z : ℕ). z * 2 ^ (8 * p)) (lane p lt))

-- ---- one row more of a table

pub rows_more : (v n : ℕ) (rows : List (List ℕ)) (row : List ℕ) → n < length rows
    → ((i : ℕ) → i < n → IsRow v i (get_or rows i [])) → IsRow v n row
    → (i : ℕ) → i < n + 1 → IsRow v i (get_or (slice_set rows n row) i [])
rows_more v n rows row within so_far is i lt = elim (cases_eq i n) [
  | inl same ↦
      subst (λ (j : ℕ). IsRow v j (get_or (slice_set rows n row) j [])) (sym same)
      (subst (IsRow v n) (sym (get_or-set_same rows n row [] within)) is)
  | inr other ↦ subst (IsRow v i) (sym (get_or-set_other rows n i row [] other)) (so_far i (omega arith))
]
