-- The steps of counter mode.
use Rattle.std.proofs.Common.{◌≡◌, ◌≢◌, ℕ, zero, suc, ◌+◌, ◌-◌, ◌*◌, ◌/◌, ◌%◌, ◌<◌, ◌≤◌, List, [], ◌∷◌, ◌++◌, length}
use Rattle.std.proofs.Common.{map, take, drop, get_or, slice_index, slice_set, bit_xor, refl, sym, ap, ◌∙◌, subst, inl}
use Rattle.std.proofs.Common.{inr, arith, min}
use Rattle.std.specs.List.{range_with_len}
use Rattle.std.specs.Int.{w32, to_be_bytes}
use Rattle.std.specs.Int.Bits.{xor_assoc, xor_self, xor_zero_r}
use lib.Lanes.{zip2, put_chunk}
use Rattle.std.proofs.lemmas.Simd.{length-zip2, length-put_chunk, get_or-zip2, get_or-put_chunk_below}
use Rattle.std.proofs.lemmas.Simd.{get_or-put_chunk_at, get_or-put_chunk_above}
use Rattle.std.proofs.lemmas.List.{length-set, length-drop, length-take-le, get_or-take, get_or-drop, get_or-set_same}
use Rattle.std.proofs.lemmas.List.{get_or-set_other}
use Rattle.std.proofs.lemmas.List.FromFn.{fill_by_all, length-map-range_with_len, get_or-map-range_with_len}
use Rattle.std.proofs.lemmas.Bool.{cases_lt, cases_eq}
use Rattle.aes_block.specs.Aes.{encrypted}
use Rattle.gcm.specs.Gcm.{counter_block, gctr_octet, gctr}
use Rattle.gcm.specs.Counter.{XorsPad, IsEncipheredBelow, four_counters}

-- a list by its elements
listed : (v : List ℕ) (n : ℕ) → length v ≡ n → v ≡ map (λ i. get_or v i 0) (range_with_len 0 n)
listed v n long = fill_by_all (λ i. get_or v i 0) v n 0 long (λ k lt. refl)

pub counter_block_is : (iv word : List ℕ) (n : ℕ) → length iv ≡ 12 → word ≡ to_be_bytes w32 n
    → ◌≡◌ {A = List ℕ}
    (get_or iv 0 0 ∷ get_or iv 1 0 ∷ get_or iv 2 0 ∷ get_or iv 3 0 ∷ get_or iv 4 0 ∷ get_or iv 5 0
    ∷ get_or iv 6 0 ∷ get_or iv 7 0 ∷ get_or iv 8 0 ∷ get_or iv 9 0 ∷ get_or iv 10 0 ∷ get_or iv 11 0
    ∷ get_or word 0 0 ∷ get_or word 1 0 ∷ get_or word 2 0 ∷ get_or word 3 0 ∷ [])
    (iv ++ to_be_bytes w32 n)
counter_block_is iv word n long is =
    subst
    (λ (w : List ℕ). ◌≡◌ {A = List ℕ}
    (get_or iv 0 0 ∷ get_or iv 1 0 ∷ get_or iv 2 0 ∷ get_or iv 3 0 ∷ get_or iv 4 0 ∷ get_or iv 5 0
    ∷ get_or iv 6 0 ∷ get_or iv 7 0 ∷ get_or iv 8 0 ∷ get_or iv 9 0 ∷ get_or iv 10 0 ∷ get_or iv 11 0
    ∷ get_or w 0 0 ∷ get_or w 1 0 ∷ get_or w 2 0 ∷ get_or w 3 0 ∷ [])
    (iv ++ to_be_bytes w32 n))
    (sym is)
    (sym (ap (λ (v : List ℕ). v ++ to_be_bytes w32 n) (listed iv 12 long)))

-- ---- one pad

pub xors_none : (start : ℕ) (pad text : List ℕ) → XorsPad start start pad text text
xors_none start pad text = record {
  same_length = refl;
  xored = λ k low high lt. absurd (omega arith);
  below = λ k lt. refl;
  above = λ k le. refl;
}

pub xors_more : (start k x : ℕ) (pad old new : List ℕ) → start ≤ k → k < length old → XorsPad start k pad old new
    → x ≡ bit_xor (slice_index new k) (slice_index pad (k - start)) → XorsPad start (k + 1) pad old (slice_set new k x)
xors_more start k x pad old new low lt xors is =
    let here : k < length new = omega (arith, xors.same_length) in
    record {
      same_length = length-set new k x ∙ xors.same_length;
      xored = λ j jlow jhigh jlt. elim (cases_eq j k) [
        | inl same ↦
            let at : slice_index (slice_set new k x) k ≡ bit_xor (slice_index old k) (slice_index pad (k - start)) =
            get_or-set_same new k x 0 here ∙ is
            ∙ ap (λ (o : ℕ). bit_xor o (slice_index pad (k - start))) (xors.above k (omega arith)) in
            subst (λ (i : ℕ). slice_index (slice_set new k x) i
            ≡ bit_xor (slice_index old i) (slice_index pad (i - start))) (sym same) at
        | inr other ↦ get_or-set_other new k j x 0 other ∙ xors.xored j jlow (omega arith) jlt
      ];
      below = λ j jlt. let other : j ≢ k = omega arith in get_or-set_other new k j x 0 other ∙ xors.below j jlt;
      above = λ j le. let other : j ≢ k = omega arith in
          get_or-set_other new k j x 0 other ∙ xors.above j (omega arith);
    }

-- at the pad's end, or the text's
pub xors_all : (start k stop : ℕ) (pad old new : List ℕ) → XorsPad start k pad old new
    → stop ≡ min (length old) (start + 16) → stop ≤ k → k ≤ start + 16 → XorsPad start (start + 16) pad old new
xors_all start k stop pad old new xors ends all within = record {
  same_length = xors.same_length;
  xored = λ j low high lt. xors.xored j low (omega arith) lt;
  below = xors.below;
  above = λ j le. xors.above j (omega arith);
}

-- a whole block, by lanes
pub xors_block : (start : ℕ) (pad old new : List ℕ) → length pad ≡ 16 → start + 16 ≤ length old
    → new ≡ put_chunk start old (zip2 bit_xor (take 16 (drop start old)) pad) → XorsPad start (start + 16) pad old new
xors_block start pad old new long le is =
    let block : List ℕ = take 16 (drop start old) in
    let sum : List ℕ = zip2 bit_xor block pad in
    let long_block : length block ≡ 16 =
    length-take-le 16 (drop start old) (omega (arith, length-drop start old)) in
    let long_sum : length sum ≡ 16 = length-zip2 bit_xor block pad (long_block ∙ sym long) ∙ long_block in
    record {
      same_length = ap length is ∙ length-put_chunk start old sum;
      xored = λ k low high lt.
          let j : ℕ = k - start in
          let here : start + j ≡ k = omega arith in
          let old_at : get_or block j 0 ≡ slice_index old k =
          get_or-take 16 (drop start old) j 0 (omega arith) ∙ get_or-drop start old j 0 ∙ ap (slice_index old) here in
          ap (λ (l : List ℕ). slice_index l k) is
          ∙ sym (ap (slice_index (put_chunk start old sum)) here)
          ∙ get_or-put_chunk_at start old sum j 0 (omega arith) (omega arith)
          ∙ get_or-zip2 bit_xor block pad j 0 0 0 (omega arith) (omega arith)
          ∙ ap (λ (o : ℕ). bit_xor o (slice_index pad j)) old_at;
      below = λ k lt. ap (λ (l : List ℕ). slice_index l k) is ∙ get_or-put_chunk_below start old sum k 0 lt;
      above = λ k far. ap (λ (l : List ℕ). slice_index l k) is ∙ get_or-put_chunk_above start old sum k 0 (omega arith);
    }

-- the four pads
pub pad_at : (key iv : List ℕ) (first i : ℕ) → i < 4
    → get_or (map (encrypted key) (four_counters iv (first + 1))) i []
    ≡ encrypted key (counter_block iv (first + i + 1))
pad_at key iv first zero lt =
    let e : first + 1 ≡ first + 0 + 1 = omega arith in ap (λ (n : ℕ). encrypted key (counter_block iv n)) e
pad_at key iv first (suc zero) lt =
    let e : first + 1 + 1 ≡ first + 1 + 1 = omega arith in ap (λ (n : ℕ). encrypted key (counter_block iv n)) e
pad_at key iv first (suc (suc zero)) lt =
    let e : first + 1 + 2 ≡ first + 2 + 1 = omega arith in ap (λ (n : ℕ). encrypted key (counter_block iv n)) e
pad_at key iv first (suc (suc (suc zero))) lt =
    let e : first + 1 + 3 ≡ first + 3 + 1 = omega arith in ap (λ (n : ℕ). encrypted key (counter_block iv n)) e
pad_at key iv first (suc (suc (suc (suc k)))) lt = absurd (omega arith)

-- ---- all pads

pub counted_none : (key iv text : List ℕ) → IsEncipheredBelow key iv text text 0
counted_none key iv text = record {
  same_length = refl;
  below = λ k lt here. absurd (omega arith);
  above = λ k le. refl;
}

pub counted_more : (key iv pad old now new : List ℕ) (i : ℕ) → pad ≡ encrypted key (counter_block iv (i + 1))
    → IsEncipheredBelow key iv old now (16 * i) → XorsPad (16 * i) (16 * i + 16) pad now new
    → IsEncipheredBelow key iv old new (16 * (i + 1))
counted_more key iv pad old now new i is counts xors = record {
  same_length = xors.same_length ∙ counts.same_length;
  below = λ k lt here. elim (cases_lt k (16 * i)) [
    | inl before ↦ xors.below k before ∙ counts.below k before here
    | inr after ↦
        let block : i + 1 ≡ k / 16 + 1 = omega arith in
        let place : k - 16 * i ≡ k % 16 = omega arith in
        xors.xored k after (omega arith) (omega (arith, counts.same_length))
        ∙ ap (λ (o : ℕ). bit_xor o (slice_index pad (k - 16 * i))) (counts.above k after)
        ∙ ap (λ (p : List ℕ). bit_xor (slice_index old k) (slice_index p (k - 16 * i))) is
        ∙ ap (λ (p : ℕ). bit_xor (slice_index old k) (slice_index (encrypted key (counter_block iv (i + 1))) p)) place
        ∙ ap (λ (b : ℕ). bit_xor (slice_index old k) (slice_index (encrypted key (counter_block iv b)) (k % 16))) block
  ];
  above = λ k le. xors.above k (omega arith) ∙ counts.above k (omega arith);
}

-- the same with the count of blocks written otherwise
pub counted_to : (key iv old new : List ℕ) (m n : ℕ) → m ≡ n → IsEncipheredBelow key iv old new m
    → IsEncipheredBelow key iv old new n
counted_to key iv old new m n same = subst (IsEncipheredBelow key iv old new) same

pub counted_all : (key iv old new : List ℕ) (stop : ℕ) → length old ≤ stop → IsEncipheredBelow key iv old new stop
    → new ≡ gctr key iv old
unfolding gctr
counted_all key iv old new stop le counts =
    fill_by_all (gctr_octet key iv old) new (length old) 0 counts.same_length
    (λ k lt. counts.below k (omega arith) lt)

-- ---- twice

pub length-gctr : (key iv text : List ℕ) → length (gctr key iv text) ≡ length text
unfolding gctr
length-gctr key iv text = length-map-range_with_len (gctr_octet key iv text) 0 (length text)

xor_twice : (a b : ℕ) → bit_xor (bit_xor a b) b ≡ a
xor_twice a b = xor_assoc a b b ∙ ap (bit_xor a) (xor_self b) ∙ xor_zero_r a

pub counted_twice : (key iv text : List ℕ) → gctr key iv (gctr key iv text) ≡ text
unfolding gctr
counted_twice key iv text =
    let once : List ℕ = gctr key iv text in
    ap (λ (n : ℕ). map (gctr_octet key iv once) (range_with_len 0 n)) (length-gctr key iv text)
    ∙ sym (fill_by_all (gctr_octet key iv once) text (length text) 0 refl
    (λ k lt.
    let pad : ℕ = slice_index (encrypted key (counter_block iv (k / 16 + 1))) (k % 16) in
    sym (ap (λ (o : ℕ). bit_xor o pad)
    (get_or-map-range_with_len (gctr_octet key iv text) 0 (length text) k k 0 lt (omega arith))
    ∙ xor_twice (slice_index text k) pad)))
