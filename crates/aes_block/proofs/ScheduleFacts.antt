-- The words of a schedule, and the round keys that are made of them.
use Rattle.std.proofs.Common.{◌≡◌, ◌≢◌, ℕ, zero, suc, ◌+◌, ◌-◌, ◌*◌, ◌/◌, ◌%◌, ◌^◌, ◌<◌, ◌≤◌, List, [], ◌∷◌, ◌++◌}
use Rattle.std.proofs.Common.{length, map, replicate, take, get_or, slice_set, refl, sym, ap, ◌∙◌, subst, inl, inr}
use Rattle.std.proofs.Common.{arith}
use Rattle.std.specs.Simd.Lanes.{pick_l, number_l, digits_l}
use Rattle.std.proofs.lemmas.List.{length_push, take_more_set, get_or-take, get_or-set_same, get_or-set_other}
use Rattle.std.proofs.lemmas.Bool.{cases_eq}
use Rattle.std.proofs.lemmas.List.FromFn.{fill_by_all, map-range_with_len_more, length-map-range_with_len}
use Rattle.aes_block.specs.Aes.{word_at, first_words, next_word, schedule, round_key, cipher, encrypted}
use Rattle.aes_block.specs.Basis.{element, with_constant}
use Rattle.aes_block.specs.Schedule.{IsExpanded, IsKeyWords, IsSchedule}
use Rattle.aes_block.specs.Vectors.{HoldsKeys, columns}

-- ---- one more word

pub first_words-suc : (key : List ℕ) (n : ℕ) → first_words key (n + 1) ≡ first_words key n ++ word_at key (4 * n) ∷ []
first_words-suc key n = map-range_with_len_more (λ i. word_at key (4 * i)) 0 n n (omega arith)

pub firsts_more : (words key : List ℕ) (i x : ℕ) → i < length words → take i words ≡ first_words key i
    → x ≡ word_at key (4 * i) → take (i + 1) (slice_set words i x) ≡ first_words key (i + 1)
firsts_more words key i x lt made is =
    take_more_set words i x lt ∙ ap (λ (l : List ℕ). l ++ x ∷ []) made
    ∙ ap (λ (y : ℕ). first_words key i ++ y ∷ []) is ∙ sym (first_words-suc key i)

pub length-schedule : (nk : ℕ) (key : List ℕ) (n : ℕ) → length (schedule nk key n) ≡ nk + n
unfolding schedule
length-schedule nk key zero = omega (arith, length-map-range_with_len (λ i. word_at key (4 * i)) 0 nk)
length-schedule nk key (suc n) =
    omega (arith, length_push (schedule nk key n) (next_word nk (schedule nk key n) (nk + n)), length-schedule nk key n)

-- word i follows from the words below i
next_word-take : (nk : ℕ) (words : List ℕ) (i : ℕ) → 0 < nk → nk ≤ i
    → next_word nk (take i words) i ≡ next_word nk words i
next_word-take nk words i some low =
    rw (get_or-take i words (i - nk) 0 (omega arith), get_or-take i words (i - 1) 0 (omega arith)) refl

pub others_more : (nk : ℕ) (words key : List ℕ) (i x : ℕ) → 0 < nk → nk ≤ i → i < length words
    → take i words ≡ schedule nk key (i - nk) → x ≡ next_word nk words i
    → take (i + 1) (slice_set words i x) ≡ schedule nk key (i + 1 - nk)
unfolding schedule
others_more nk words key i x some low lt made is =
    let count : i + 1 - nk ≡ suc (i - nk) = omega arith in
    let place : nk + (i - nk) ≡ i = omega arith in
    let before : next_word nk (schedule nk key (i - nk)) i ≡ x =
    ap (λ (l : List ℕ). next_word nk l i) (sym made) ∙ next_word-take nk words i some low ∙ sym is in
    take_more_set words i x lt ∙ ap (λ (l : List ℕ). l ++ x ∷ []) made
    ∙ ap (λ (y : ℕ). schedule nk key (i - nk) ++ y ∷ []) (sym before)
    ∙ ap (λ (p : ℕ). schedule nk key (i - nk) ++ next_word nk (schedule nk key (i - nk)) p ∷ []) (sym place)
    ∙ ap (schedule nk key) (sym count)

pub others_none : (nk i : ℕ) (words key : List ℕ) → i ≡ nk → take i words ≡ first_words key i
    → take nk words ≡ schedule nk key (nk - nk)
unfolding schedule
others_none nk i words key all made =
    let none : nk - nk ≡ 0 = omega arith in
    sym (ap (λ (n : ℕ). take n words) all) ∙ made ∙ ap (first_words key) all ∙ sym (ap (schedule nk key) none)

-- ---- the round keys of a schedule's words

round_key-take : (m : ℕ) (words : List ℕ) (round : ℕ) → 4 * (round + 1) ≤ m
    → round_key (take m words) round ≡ round_key words round
round_key-take m words round le =
    rw (
      get_or-take m words (4 * round) 0 (omega arith),
      get_or-take m words (4 * round + 1) 0 (omega arith),
      get_or-take m words (4 * round + 2) 0 (omega arith),
      get_or-take m words (4 * round + 3) 0 (omega arith),
    ) refl

-- the octets of a word that stands lowest in a number, and what stands above it
low_word : (w rest : ℕ) → w < 2 ^ 32
    → ((w + 2 ^ 32 * rest) % 256 ≡ w % 256)
    × ((w + 2 ^ 32 * rest) / 256 % 256 ≡ w / 2 ^ 8 % 256)
    × ((w + 2 ^ 32 * rest) / 256 / 256 % 256 ≡ w / 2 ^ 16 % 256)
    × ((w + 2 ^ 32 * rest) / 256 / 256 / 256 % 256 ≡ w / 2 ^ 24 % 256)
    × ((w + 2 ^ 32 * rest) / 256 / 256 / 256 / 256 ≡ rest)
low_word w rest lt = (omega arith, omega arith, omega arith, omega arith, omega arith)

-- four words in a vector of octets, where the lowest octet of each stands first, taken from the highest on
pub words_in_vector : (a b c d : ℕ) → a < 2 ^ 32 → b < 2 ^ 32 → c < 2 ^ 32 → d < 2 ^ 32
    → pick_l 0 (digits_l 256 16 (number_l (2 ^ 32) (a ∷ b ∷ c ∷ d ∷ [])))
    (3 ∷ 2 ∷ 1 ∷ 0 ∷ 7 ∷ 6 ∷ 5 ∷ 4 ∷ 11 ∷ 10 ∷ 9 ∷ 8 ∷ 15 ∷ 14 ∷ 13 ∷ 12 ∷ [])
    ≡ columns (a ∷ b ∷ c ∷ d ∷ [])
words_in_vector a b c d la lb lc ld =
    let n3 : ℕ = d + 2 ^ 32 * 0 in
    let n2 : ℕ = c + 2 ^ 32 * n3 in
    let n1 : ℕ = b + 2 ^ 32 * n2 in
    let wa = low_word a n1 la in
    let wb = low_word b n2 lb in
    let wc = low_word c n3 lc in
    let wd = low_word d 0 ld in
    rw (
      wa.4,
      wb.4,
      wc.4,
      wa.0,
      wa.1,
      wa.2,
      wa.3,
      wb.0,
      wb.1,
      wb.2,
      wb.3,
      wc.0,
      wc.1,
      wc.2,
      wc.3,
      wd.0,
      wd.1,
      wd.2,
      wd.3,
    ) refl

-- round keys of words are those of any words that begin with the same rounds
pub holds_keys-take : (m : ℕ) (words : List ℕ) (rounds : ℕ) (keys : List (List ℕ)) → 4 * (rounds + 1) ≤ m
    → HoldsKeys words rounds keys → HoldsKeys (take m words) rounds keys
holds_keys-take m words rounds keys le holds = record {
  first = holds.first ∙ sym (round_key-take m words 0 (omega arith));
  between = λ n some lt. holds.between n some lt ∙ sym (ap with_constant (round_key-take m words n (omega arith)));
  last = holds.last ∙ sym (ap with_constant (round_key-take m words rounds (omega arith)));
}

-- one round key more
pub keys_none : (words x : List ℕ) (keys : List (List ℕ)) → 0 < length keys → x ≡ round_key words 0
    → get_or (slice_set keys 0 x) 0 [] ≡ round_key words 0
keys_none words x keys some is = get_or-set_same keys 0 x [] some ∙ is

pub keys_more : (words x : List ℕ) (keys : List (List ℕ)) (n : ℕ) → n < length keys
    → ((m : ℕ) → 0 < m → m < n → map element (get_or keys m []) ≡ with_constant (round_key words m))
    → map element x ≡ with_constant (round_key words n)
    → (m : ℕ) → 0 < m → m < n + 1 → map element (get_or (slice_set keys n x) m []) ≡ with_constant (round_key words m)
keys_more words x keys n within so_far is m some lt = elim (cases_eq m n) [
  | inl same ↦
      subst (λ i. map element (get_or (slice_set keys n x) i []) ≡ with_constant (round_key words i)) (sym same)
      (ap (map element) (get_or-set_same keys n x [] within) ∙ is)
  | inr other ↦ ap (map element) (get_or-set_other keys n m x [] other) ∙ so_far m some (omega arith)
]

pub keys_all : (words x : List ℕ) (keys : List (List ℕ)) (n rounds : ℕ) → 0 < rounds → rounds ≤ n → rounds < length keys
    → get_or keys 0 [] ≡ round_key words 0
    → ((m : ℕ) → 0 < m → m < n → map element (get_or keys m []) ≡ with_constant (round_key words m))
    → x ≡ with_constant (round_key words rounds) → HoldsKeys words rounds (slice_set keys rounds x)
keys_all words x keys n rounds some all within first so_far is = record {
  first = (let other : 0 ≢ rounds = omega arith in get_or-set_other keys rounds 0 x [] other) ∙ first;
  between = λ m low lt.
      let other : m ≢ rounds = omega arith in
      ap (map element) (get_or-set_other keys rounds m x [] other) ∙ so_far m low (omega arith);
  last = get_or-set_same keys rounds x [] within ∙ is;
}

-- ---- the schedule's cipher is that of its key

pub encrypted_by : (nk : ℕ) (key block : List ℕ) → length key ≡ 4 * nk
    → cipher (schedule nk key (3 * nk + 28)) (nk + 6) block ≡ encrypted key block
unfolding encrypted
encrypted_by nk key block long =
    let words : length key / 4 ≡ nk = omega arith in
    sym (ap (λ n. cipher (schedule n key (3 * n + 28)) (n + 6) block) words)

pub each_encrypted : (nk : ℕ) (key : List ℕ) (blocks : List (List ℕ)) → length key ≡ 4 * nk
    → map (cipher (schedule nk key (3 * nk + 28)) (nk + 6)) blocks ≡ map (encrypted key) blocks
each_encrypted nk key [] long = refl
each_encrypted nk key (block ∷ blocks) long =
    ap (λ b. b ∷ map (cipher (schedule nk key (3 * nk + 28)) (nk + 6)) blocks) (encrypted_by nk key block long)
    ∙ ap (λ bs. encrypted key block ∷ bs) (each_encrypted nk key blocks long)

-- the round keys of the words, and zeros enciphered by them, are what a schedule of the key has
pub is_expanded : (nk : ℕ) (words key zeros : List ℕ) (keys : List (List ℕ)) → IsKeyWords nk → length key ≡ 4 * nk
    → IsSchedule nk key words → HoldsKeys words (nk + 6) keys
    → ((own : List ℕ) → HoldsKeys own (nk + 6) keys → zeros ≡ cipher own (nk + 6) (replicate 16 0))
    → IsExpanded key nk keys zeros
is_expanded nk words key zeros keys right long made holds is =
    let own : HoldsKeys (schedule nk key (3 * nk + 28)) (nk + 6) keys =
    subst (λ (l : List ℕ). HoldsKeys l (nk + 6) keys) made (holds_keys-take (4 * (nk + 7)) words (nk + 6) keys
    (omega arith) holds) in
    record {
      key_words = right;
      whole = long;
      round_keys = own;
      enciphered = is (schedule nk key (3 * nk + 28)) own ∙ encrypted_by nk key (replicate 16 0) long;
    }

-- ---- lists by their elements

pub three : {A : Type 0} (d : A) (xs : List A) → length xs ≡ 3 → xs ≡ get_or xs 0 d ∷ get_or xs 1 d ∷ get_or xs 2 d ∷ []
three d xs long = fill_by_all (λ i. get_or xs i d) xs 3 d long (λ k lt. refl)

pub four : {A : Type 0} (d : A) (xs : List A) → length xs ≡ 4
    → xs ≡ get_or xs 0 d ∷ get_or xs 1 d ∷ get_or xs 2 d ∷ get_or xs 3 d ∷ []
four d xs long = fill_by_all (λ i. get_or xs i d) xs 4 d long (λ k lt. refl)

-- a list of eight by its elements
pub eight : {A : Type 0} (d : A) (xs : List A) → length xs ≡ 8
    → xs ≡ get_or xs 0 d ∷ get_or xs 1 d ∷ get_or xs 2 d ∷ get_or xs 3 d ∷ get_or xs 4 d ∷ get_or xs 5 d
    ∷ get_or xs 6 d ∷ get_or xs 7 d ∷ []
eight d xs long = fill_by_all (λ i. get_or xs i d) xs 8 d long (λ k lt. refl)
