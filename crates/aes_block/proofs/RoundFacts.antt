-- A round on the basis, by the octets of its state.
use Rattle.std.proofs.Common.{◌≡◌, ℕ, zero, suc, ◌+◌, ◌-◌, ◌*◌, ◌%◌, ◌<◌, List, [], ◌∷◌, length, map, replicate, get_or}
use Rattle.std.proofs.Common.{bit_xor, refl, sym, ap, ◌∙◌, arith}
use Rattle.std.specs.Int.Bits.{xor_zero_l, xor_zero_r, xor_assoc, xor_self, xor_comm}
use Rattle.std.specs.Simd.Lanes.{zip2}
use Rattle.std.proofs.Math.Nat.{zero-mul, one-mul}
use Rattle.std.proofs.lemmas.List.{length-map}
use Rattle.std.proofs.lemmas.List.FromFn.{fill_by_all}
use Rattle.std.proofs.lemmas.Simd.{map-map, zip2_splat}
use Rattle.aes_block.specs.Aes.{add_round_key, after_rounds, at, cipher, doubled, mix_columns, mixed, round_key}
use Rattle.aes_block.specs.Aes.{shift_rows}
use Rattle.aes_block.specs.Aes.{state, sub_byte, sub_bytes, octet_product, times_low}
use Rattle.aes_block.specs.Basis.{element, sub_linear, sub_linear_doubled, sum_of, with_constant}
use Rattle.aes_block.specs.Vectors.{row_below}
use Rattle.aes_block.proofs.BasisFacts.{element_sum, map_same}
use Rattle.aes_block.proofs.XorFacts.{xor_left_comm}

-- ---- SubBytes of octets

sub_whole : (x : ℕ) → bit_xor (sub_linear x) 0x63 ≡ sub_byte x
sub_whole x = xor_assoc (sub_byte x) 0x63 0x63 ∙ xor_zero_r (sub_byte x)

pub sub_bytes_are : (octets numbers result : List ℕ) → length octets ≡ 16 → map element numbers ≡ octets
    → result ≡ map (λ y. sub_linear (element y)) numbers → zip2 bit_xor result (replicate 16 0x63) ≡ map sub_byte octets
sub_bytes_are octets numbers result long is result_is =
    let of_octets : result ≡ map sub_linear octets = result_is ∙ sym (map-map sub_linear element numbers)
    ∙ ap (map sub_linear) is in
    zip2_splat bit_xor result 16 0x63 (ap length of_octets ∙ length-map octets sub_linear ∙ long)
    ∙ ap (map (λ x. bit_xor x 0x63)) of_octets ∙ map-map (λ x. bit_xor x 0x63) sub_linear octets
    ∙ map_same (λ x. bit_xor (sub_linear x) 0x63) sub_byte sub_whole octets

-- ---- states by their octets

pub is_state : (xs : List ℕ) → length xs ≡ 16 → xs ≡ state (at xs)
is_state xs long = fill_by_all (λ i. get_or xs i 0) xs 16 0 long (λ k lt. refl)

same_state : (f g : ℕ → ℕ → ℕ)
    → ((c : ℕ) → c < 4 → f 0 c ≡ g 0 c) → ((c : ℕ) → c < 4 → f 1 c ≡ g 1 c)
    → ((c : ℕ) → c < 4 → f 2 c ≡ g 2 c) → ((c : ℕ) → c < 4 → f 3 c ≡ g 3 c) → state f ≡ state g
same_state f g r0 r1 r2 r3 =
    rw (
      r0 0 (omega arith),
      r1 0 (omega arith),
      r2 0 (omega arith),
      r3 0 (omega arith),
      r0 1 (omega arith),
      r1 1 (omega arith),
      r2 1 (omega arith),
      r3 1 (omega arith),
      r0 2 (omega arith),
      r1 2 (omega arith),
      r2 2 (omega arith),
      r3 2 (omega arith),
      r0 3 (omega arith),
      r1 3 (omega arith),
      r2 3 (omega arith),
      r3 3 (omega arith),
    ) refl

-- a round key is added octet by octet
pub added : (s k : List ℕ) → length s ≡ 16 → length k ≡ 16 → zip2 bit_xor s k ≡ add_round_key s k
added s k long_s long_k = ap (λ x. zip2 bit_xor x k) (is_state s long_s)
    ∙ ap (zip2 bit_xor (state (at s))) (is_state k long_k)

element_none : element 0 ≡ 0
unfolding sum_of
element_none = refl

-- a place of a list that a function is mapped over
pub at_mapped : (f : ℕ → ℕ) (v : List ℕ) (i : ℕ) → i < length v → get_or (map f v) i 0 ≡ f (get_or v i 0)
at_mapped f [] i lt = absurd (omega arith)
at_mapped f (x ∷ xs) zero lt = refl
at_mapped f (x ∷ xs) (suc i) lt = at_mapped f xs i (omega arith)

-- ---- MixColumns

times_1 : (a : ℕ) → octet_product 1 a ≡ a
unfolding times_low
times_1 a = simp (zero-mul, one-mul, xor_zero_l, xor_zero_r) refl

times_2 : (a : ℕ) → octet_product 2 a ≡ doubled a
unfolding times_low
times_2 a = simp (zero-mul, one-mul, xor_zero_l, xor_zero_r) refl

times_3 : (a : ℕ) → octet_product 3 a ≡ bit_xor a (doubled a)
unfolding times_low
times_3 a = simp (zero-mul, one-mul, xor_zero_l, xor_zero_r) refl

-- the constants p of the doubled octet and q of the others are gone
sum_of_row : (a2 b2 b c d k p q : ℕ)
    → bit_xor (bit_xor (bit_xor b2 p) (bit_xor c q)) (bit_xor (bit_xor (bit_xor a2 p) (bit_xor b q)) (bit_xor
    (bit_xor d q) (bit_xor k q)))
    ≡ bit_xor (bit_xor (bit_xor (bit_xor a2 (bit_xor b b2)) c) d) k
sum_of_row a2 b2 b c d k p q = simp (xor_assoc, xor_left_comm, xor_comm, xor_self) refl

-- one octet of a round: t0 and t1 are the octets of a row and of the row below, doubled, and o1 to o3 those of the
-- three rows below
row_is : (t0 t1 o1 o2 o3 key a b c d k : ℕ)
    → element t0 ≡ bit_xor (doubled a) (doubled 0x63) → element t1 ≡ bit_xor (doubled b) (doubled 0x63)
    → element o1 ≡ bit_xor b 0x63 → element o2 ≡ bit_xor c 0x63 → element o3 ≡ bit_xor d 0x63
    → element key ≡ bit_xor k 0x63
    → element (bit_xor (bit_xor t1 o2) (bit_xor (bit_xor t0 o1) (bit_xor o3 key)))
    ≡ bit_xor (bit_xor (bit_xor (bit_xor (doubled a) (bit_xor b (doubled b))) c) d) k
row_is t0 t1 o1 o2 o3 key a b c d k i0 i1 j1 j2 j3 ik =
    element_sum (bit_xor t1 o2) (bit_xor (bit_xor t0 o1) (bit_xor o3 key))
    ∙ ap (λ x. bit_xor x (element (bit_xor (bit_xor t0 o1) (bit_xor o3 key)))) (sum t1 o2 _ _ i1 j2)
    ∙ ap (bit_xor (bit_xor (bit_xor (doubled b) (doubled 0x63)) (bit_xor c 0x63)))
    (sum (bit_xor t0 o1) (bit_xor o3 key) _ _ (sum t0 o1 _ _ i0 j1) (sum o3 key _ _ j3 ik))
    ∙ sum_of_row (doubled a) (doubled b) b c d k (doubled 0x63) 0x63
  where
    sum : (x y u v : ℕ) → element x ≡ u → element y ≡ v → element (bit_xor x y) ≡ bit_xor u v
    sum x y u v is_u is_v = element_sum x y ∙ ap (λ z. bit_xor z (element y)) is_u ∙ ap (bit_xor u) is_v

-- the four rows of the matrix
row_0 : (a b c d k : ℕ) → bit_xor (bit_xor (bit_xor (bit_xor (doubled a) (bit_xor b (doubled b))) c) d) k
    ≡ bit_xor (mixed 0 a b c d) k
row_0 a b c d k = sym (rw (times_2 a, times_3 b, times_1 c, times_1 d) refl)

turned_1 : (a b2 c3 d k : ℕ) → bit_xor (bit_xor (bit_xor (bit_xor b2 c3) d) a) k
    ≡ bit_xor (bit_xor (bit_xor (bit_xor a b2) c3) d) k
turned_1 a b2 c3 d k = simp (xor_assoc, xor_left_comm, xor_comm) refl

row_1 : (a b c d k : ℕ) → bit_xor (bit_xor (bit_xor (bit_xor (doubled b) (bit_xor c (doubled c))) d) a) k
    ≡ bit_xor (mixed 1 a b c d) k
row_1 a b c d k =
    turned_1 a (doubled b) (bit_xor c (doubled c)) d k ∙ sym (rw (times_1 a, times_2 b, times_3 c, times_1 d) refl)

turned_2 : (a b c2 d3 k : ℕ) → bit_xor (bit_xor (bit_xor (bit_xor c2 d3) a) b) k
    ≡ bit_xor (bit_xor (bit_xor (bit_xor a b) c2) d3) k
turned_2 a b c2 d3 k = simp (xor_assoc, xor_left_comm, xor_comm) refl

row_2 : (a b c d k : ℕ) → bit_xor (bit_xor (bit_xor (bit_xor (doubled c) (bit_xor d (doubled d))) a) b) k
    ≡ bit_xor (mixed 2 a b c d) k
row_2 a b c d k =
    turned_2 a b (doubled c) (bit_xor d (doubled d)) k ∙ sym (rw (times_1 a, times_1 b, times_2 c, times_3 d) refl)

turned_3 : (a3 b c d2 k : ℕ) → bit_xor (bit_xor (bit_xor (bit_xor d2 a3) b) c) k
    ≡ bit_xor (bit_xor (bit_xor (bit_xor a3 b) c) d2) k
turned_3 a3 b c d2 k = simp (xor_assoc, xor_comm) refl

row_3 : (a b c d k : ℕ) → bit_xor (bit_xor (bit_xor (bit_xor (doubled d) (bit_xor a (doubled a))) b) c) k
    ≡ bit_xor (mixed 3 a b c d) k
row_3 a b c d k =
    turned_3 (bit_xor a (doubled a)) b c (doubled d) k ∙ sym (rw (times_3 a, times_1 b, times_1 c, times_2 d) refl)

-- where ShiftRows takes each octet from
at_shifted : (s : List ℕ) (r c : ℕ) → r < 4 → c < 4 → at (shift_rows s) r c ≡ at s r ((c + r) % 4)
at_shifted s zero zero lr lc = refl
at_shifted s zero (suc zero) lr lc = refl
at_shifted s zero (suc (suc zero)) lr lc = refl
at_shifted s zero (suc (suc (suc zero))) lr lc = refl
at_shifted s (suc zero) zero lr lc = refl
at_shifted s (suc zero) (suc zero) lr lc = refl
at_shifted s (suc zero) (suc (suc zero)) lr lc = refl
at_shifted s (suc zero) (suc (suc (suc zero))) lr lc = refl
at_shifted s (suc (suc zero)) zero lr lc = refl
at_shifted s (suc (suc zero)) (suc zero) lr lc = refl
at_shifted s (suc (suc zero)) (suc (suc zero)) lr lc = refl
at_shifted s (suc (suc zero)) (suc (suc (suc zero))) lr lc = refl
at_shifted s (suc (suc (suc zero))) zero lr lc = refl
at_shifted s (suc (suc (suc zero))) (suc zero) lr lc = refl
at_shifted s (suc (suc (suc zero))) (suc (suc zero)) lr lc = refl
at_shifted s (suc (suc (suc zero))) (suc (suc (suc zero))) lr lc = refl
at_shifted s (suc (suc (suc (suc r)))) c lr lc = absurd (omega arith)
at_shifted s zero (suc (suc (suc (suc c)))) lr lc = absurd (omega arith)
at_shifted s (suc zero) (suc (suc (suc (suc c)))) lr lc = absurd (omega arith)
at_shifted s (suc (suc zero)) (suc (suc (suc (suc c)))) lr lc = absurd (omega arith)
at_shifted s (suc (suc (suc zero))) (suc (suc (suc (suc c)))) lr lc = absurd (omega arith)

-- an octet of what was computed from the shifted state
computed_at : (f : ℕ → ℕ) (s v : List ℕ) → map element v ≡ map f (shift_rows s) → (r c : ℕ) → r < 4 → c < 4
    → element (at v r c) ≡ f (at s r ((c + r) % 4))
computed_at f s v is r c lr lc =
    let long : length v ≡ 16 = sym (length-map v element) ∙ ap length is in
    sym (at_mapped element v (r + 4 * c) (omega arith)) ∙ ap (λ (l : List ℕ). get_or l (r + 4 * c) 0) is
    ∙ at_mapped f (shift_rows s) (r + 4 * c) (omega arith) ∙ ap f (at_shifted s r c lr lc)

module _
    (s once twice key k : List ℕ) (long_s : length s ≡ 16) (long_key : length key ≡ 16)
    (once_is : map element once ≡ map (λ y. sub_linear (element y)) (shift_rows s))
    (twice_is : map element twice ≡ map (λ y. sub_linear_doubled (element y)) (shift_rows s))
    (key_is : map element key ≡ with_constant k)
  where
    key_at : (r c : ℕ) → r < 4 → c < 4 → element (at key r c) ≡ bit_xor (at k r c) 0x63
    key_at r c lr lc =
        let long : length k ≡ 16 = sym (length-map k (λ x. bit_xor x 0x63)) ∙ sym (ap length key_is)
        ∙ length-map key element ∙ long_key in
        sym (at_mapped element key (r + 4 * c) (omega arith)) ∙ ap (λ (l : List ℕ). get_or l (r + 4 * c) 0) key_is
        ∙ at_mapped (λ x. bit_xor x 0x63) k (r + 4 * c) (omega arith)

    once_at : (r c : ℕ) → r < 4 → c < 4 → element (at once r c) ≡ sub_linear (element (at s r ((c + r) % 4)))
    once_at = computed_at (λ y. sub_linear (element y)) s once once_is

    twice_at : (r c : ℕ) → r < 4 → c < 4 → element (at twice r c) ≡ sub_linear_doubled (element (at s r ((c + r) % 4)))
    twice_at = computed_at (λ y. sub_linear_doubled (element y)) s twice twice_is

    abbrev made : List ℕ → List ℕ → List ℕ
    made doubles keys =
        let with_below : List ℕ = zip2 bit_xor doubles (row_below 1 once) in
        map element (zip2 bit_xor (row_below 1 with_below) (zip2 bit_xor with_below (zip2 bit_xor
        (row_below 3 once) keys)))

    abbrev made_at : ℕ → ℕ → ℕ
    made_at r c =
        element (bit_xor (bit_xor (at twice ((r + 1) % 4) c) (at once ((r + 2) % 4) c))
        (bit_xor (bit_xor (at twice r c) (at once ((r + 1) % 4) c)) (bit_xor (at once ((r + 3) % 4) c) (at key r c))))

    abbrev sub_at : ℕ → ℕ → ℕ
    sub_at r c = sub_byte (element (at s r ((c + r) % 4)))

    abbrev wanted_at : ℕ → ℕ → ℕ
    wanted_at r c = bit_xor (mixed r (sub_at 0 c) (sub_at 1 c) (sub_at 2 c) (sub_at 3 c)) (at k r c)

    pub next_round_is : made twice key ≡ add_round_key (mix_columns (shift_rows (sub_bytes (map element s)))) k
    next_round_is =
        let long_twice : length twice ≡ 16 = sym (length-map twice element) ∙ ap length twice_is in
        ap (λ t. made t key) (is_state twice long_twice) ∙ ap (made (state (at twice))) (is_state key long_key)
        ∙ same_state made_at wanted_at
        (λ c lt.
        row_is _ _ _ _ _ _ (sub_at 0 c) (sub_at 1 c) (sub_at 2 c) (sub_at 3 c) (at k 0 c)
        (twice_at 0 c (omega arith) lt) (twice_at 1 c (omega arith) lt) (once_at 1 c (omega arith) lt)
        (once_at 2 c (omega arith) lt) (once_at 3 c (omega arith) lt) (key_at 0 c (omega arith) lt)
        ∙ row_0 (sub_at 0 c) (sub_at 1 c) (sub_at 2 c) (sub_at 3 c) (at k 0 c))
        (λ c lt.
        row_is _ _ _ _ _ _ (sub_at 1 c) (sub_at 2 c) (sub_at 3 c) (sub_at 0 c) (at k 1 c)
        (twice_at 1 c (omega arith) lt) (twice_at 2 c (omega arith) lt) (once_at 2 c (omega arith) lt)
        (once_at 3 c (omega arith) lt) (once_at 0 c (omega arith) lt) (key_at 1 c (omega arith) lt)
        ∙ row_1 (sub_at 0 c) (sub_at 1 c) (sub_at 2 c) (sub_at 3 c) (at k 1 c))
        (λ c lt.
        row_is _ _ _ _ _ _ (sub_at 2 c) (sub_at 3 c) (sub_at 0 c) (sub_at 1 c) (at k 2 c)
        (twice_at 2 c (omega arith) lt) (twice_at 3 c (omega arith) lt) (once_at 3 c (omega arith) lt)
        (once_at 0 c (omega arith) lt) (once_at 1 c (omega arith) lt) (key_at 2 c (omega arith) lt)
        ∙ row_2 (sub_at 0 c) (sub_at 1 c) (sub_at 2 c) (sub_at 3 c) (at k 2 c))
        (λ c lt.
        row_is _ _ _ _ _ _ (sub_at 3 c) (sub_at 0 c) (sub_at 1 c) (sub_at 2 c) (at k 3 c)
        (twice_at 3 c (omega arith) lt) (twice_at 0 c (omega arith) lt) (once_at 0 c (omega arith) lt)
        (once_at 1 c (omega arith) lt) (once_at 2 c (omega arith) lt) (key_at 3 c (omega arith) lt)
        ∙ row_3 (sub_at 0 c) (sub_at 1 c) (sub_at 2 c) (sub_at 3 c) (at k 3 c))
        ∙ sym (ap (λ l. add_round_key (mix_columns (shift_rows (sub_bytes (map element l)))) k) (is_state s long_s))

    -- the same from the vectors of the code
    pub next_round_of : (below below_2 above : List ℕ) → below_2 ≡ row_below 1 (zip2 bit_xor twice below)
        → above ≡ row_below 3 once
        → below ≡ row_below 1 once
        → map element (zip2 bit_xor below_2 (zip2 bit_xor (zip2 bit_xor twice below) (zip2 bit_xor above key)))
        ≡ add_round_key (mix_columns (shift_rows (sub_bytes (map element s)))) k
    next_round_of below below_2 above is_2 is_above is =
        ap (λ b. map element (zip2 bit_xor b (zip2 bit_xor (zip2 bit_xor twice below) (zip2 bit_xor above key)))) is_2
        ∙ ap (λ a. map element (zip2 bit_xor (row_below 1 (zip2 bit_xor twice below)) (zip2 bit_xor
        (zip2 bit_xor twice below) (zip2 bit_xor a key)))) is_above
        ∙ ap (λ b. map element (zip2 bit_xor (row_below 1 (zip2 bit_xor twice b)) (zip2 bit_xor
        (zip2 bit_xor twice b) (zip2 bit_xor (row_below 3 once) key)))) is
        ∙ next_round_is

-- ---- the last round

constant_gone : (a b q : ℕ) → bit_xor (bit_xor a q) (bit_xor b q) ≡ bit_xor a b
constant_gone a b q = simp (xor_assoc, xor_left_comm, xor_comm, xor_self) refl

pub last_round_is : (s result key k : List ℕ) → length s ≡ 16 → length key ≡ 16
    → result ≡ map (λ y. sub_linear (element y)) (shift_rows s) → key ≡ with_constant k
    → zip2 bit_xor result key ≡ add_round_key (shift_rows (sub_bytes (map element s))) k
last_round_is s result key k long_s long_key result_is key_is =
    let long : length k ≡ 16 = sym (length-map k (λ x. bit_xor x 0x63)) ∙ sym (ap length key_is) ∙ long_key in
    let sub : ℕ → ℕ → ℕ = λ r c. sub_byte (element (at s r ((c + r) % 4))) in
    ap (λ l. zip2 bit_xor l key) result_is
    ∙ ap (zip2 bit_xor (map (λ y. sub_linear (element y)) (shift_rows s))) (key_is ∙ ap with_constant (is_state k long))
    ∙ same_state (λ r c. bit_xor (bit_xor (sub r c) 0x63) (bit_xor (at k r c) 0x63)) (λ r c. bit_xor (sub r c)
    (at k r c))
    (λ c lt. constant_gone (sub 0 c) (at k 0 c) 0x63) (λ c lt. constant_gone (sub 1 c) (at k 1 c) 0x63)
    (λ c lt. constant_gone (sub 2 c) (at k 2 c) 0x63) (λ c lt. constant_gone (sub 3 c) (at k 3 c) 0x63)
    ∙ sym (ap (λ l. add_round_key (shift_rows (sub_bytes (map element l))) k) (is_state s long_s))

-- ---- round by round

-- a round more
pub round_more : (words block state next : List ℕ) (n : ℕ) → 0 < n → map element state
    ≡ after_rounds words block (n - 1)
    → map element next ≡ add_round_key (mix_columns (shift_rows (sub_bytes (map element state)))) (round_key words n)
    → map element next ≡ after_rounds words block (n + 1 - 1)
unfolding after_rounds
round_more words block state next n some so_far is =
    let count : suc (n - 1) ≡ n = omega arith in
    let all : suc (n - 1) ≡ n + 1 - 1 = omega arith in
    is
    ∙ ap (λ (s : List ℕ). add_round_key (mix_columns (shift_rows (sub_bytes s))) (round_key words n)) so_far
    ∙ ap (λ m. add_round_key (mix_columns (shift_rows (sub_bytes (after_rounds words block (n - 1)))))
    (round_key words m))
    (sym count)
    ∙ ap (after_rounds words block) all

-- no whole round yet
pub round_none : (words block state : List ℕ) → map element state ≡ add_round_key block (round_key words 0)
    → map element state ≡ after_rounds words block (1 - 1)
unfolding after_rounds
round_none words block state is = is

pub rounds_all : (words block state result : List ℕ) (n rounds : ℕ) → n ≡ rounds
    → map element state ≡ after_rounds words block (n - 1)
    → result ≡ add_round_key (shift_rows (sub_bytes (map element state))) (round_key words rounds)
    → result ≡ cipher words rounds block
unfolding cipher
rounds_all words block state result n rounds all so_far is =
    is
    ∙ ap (λ (s : List ℕ). add_round_key (shift_rows (sub_bytes s)) (round_key words rounds))
    (so_far ∙ ap (λ m. after_rounds words block (m - 1)) all)
