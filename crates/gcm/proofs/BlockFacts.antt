-- The blocks of octets that are put together.
use Rattle.std.proofs.Common.{◌≡◌, ℕ, ◌+◌, ◌-◌, ◌*◌, ◌/◌, ◌%◌, ◌^◌, ◌<◌, ◌≤◌, List, [], ◌∷◌, ◌++◌, length, take, drop}
use Rattle.std.proofs.Common.{map, replicate, get_or, bit_xor, refl, sym, ap, ◌∙◌, inl, inr, arith}
use Rattle.std.specs.List.{range_with_len}
use Rattle.std.specs.Int.{w128, from_be_bytes}
use Rattle.std.proofs.lemmas.List.{append_assoc, append-nil, length-append, length-drop, length-replicate}
use Rattle.std.proofs.lemmas.List.{length-take-le, take-append-drop, take-append-le, take_all, drop-append-le}
use Rattle.std.proofs.lemmas.List.{drop-drop, drop_at, ext_get_or, get_or_append_left, get_or-append_right}
use Rattle.std.proofs.lemmas.List.{nil_from_length}
use Rattle.std.proofs.lemmas.List.FromFn.{length-map-range_with_len, get_or-map-range_with_len, map-range_with_len_more}
use Rattle.std.proofs.lemmas.Bool.{cases_lt}
use Rattle.gcm.specs.Field.{block_product, ghash}
use Rattle.gcm.specs.Folded.{folded}
use Rattle.gcm.specs.Gcm.{padded, block_at, blocks, lengths, hashed}
use Rattle.gcm.proofs.FoldFacts.{folded-append, folded_push, ghash_is}

length-blocks : (octets : List ℕ) → length (blocks octets) ≡ length octets / 16
length-blocks octets = length-map-range_with_len (block_at octets) 0 (length octets / 16)

get_or-blocks : (octets : List ℕ) (i : ℕ) → i < length octets / 16 → get_or (blocks octets) i 0 ≡ block_at octets i
get_or-blocks octets i lt = get_or-map-range_with_len (block_at octets) 0 (length octets / 16) i i 0 lt (omega arith)

block_at_front : (a b : List ℕ) (i : ℕ) → 16 * i + 16 ≤ length a → block_at (a ++ b) i ≡ block_at a i
block_at_front a b i le =
    ap (λ (l : List ℕ). from_be_bytes w128 (take 16 l)) (drop-append-le (16 * i) a b (omega arith))
    ∙ ap (from_be_bytes w128) (take-append-le 16 (drop (16 * i) a) b (omega (arith, length-drop (16 * i) a)))

block_at_back : (a b : List ℕ) (n i : ℕ) → length a ≡ 16 * n → n ≤ i → block_at (a ++ b) i ≡ block_at b (i - n)
block_at_back a b n i long le =
    let place : 16 * i ≡ 16 * n + 16 * (i - n) = omega arith in
    ap (λ (l : List ℕ). from_be_bytes w128 (take 16 l))
    (ap (λ (k : ℕ). drop k (a ++ b)) place ∙ sym (drop-drop (16 * (i - n)) (16 * n) (a ++ b))
    ∙ ap (drop (16 * (i - n))) (drop_at a b (16 * n) long))

pub blocks-append : (a b : List ℕ) (n : ℕ) → length a ≡ 16 * n → blocks (a ++ b) ≡ blocks a ++ blocks b
blocks-append a b n long =
    let whole : length (a ++ b) ≡ length a + length b = length-append a b in
    let la : length (blocks a) ≡ n = length-blocks a ∙ (let e : length a / 16 ≡ n = omega arith in e) in
    let lb : length (blocks b) ≡ length b / 16 = length-blocks b in
    let lab : length (blocks (a ++ b)) ≡ length (a ++ b) / 16 = length-blocks (a ++ b) in
    let both : length (blocks a ++ blocks b) ≡ length (blocks a) + length (blocks b) =
    length-append (blocks a) (blocks b) in
    ext_get_or 0 (blocks (a ++ b)) (blocks a ++ blocks b) (omega arith)
    (λ i lt. elim (cases_lt i n) [
      | inl front ↦
          get_or-blocks (a ++ b) i (omega arith) ∙ block_at_front a b i (omega arith)
          ∙ sym (get_or-blocks a i (omega arith)) ∙ sym (get_or_append_left (blocks a) (blocks b) 0 i (omega arith))
      | inr back ↦
          get_or-blocks (a ++ b) i (omega arith) ∙ block_at_back a b n i long back
          ∙ sym (get_or-blocks b (i - n) (omega arith)) ∙ sym (get_or-append_right (blocks a) (blocks b) n i 0 la back)
    ])

-- one block alone
one_block : (octets : List ℕ) → length octets ≡ 16 → blocks octets ≡ from_be_bytes w128 octets ∷ []
one_block octets long =
    let one : length octets / 16 ≡ 1 = omega arith in
    ap (λ (n : ℕ). map (block_at octets) (range_with_len 0 n)) one
    ∙ ap (λ (l : List ℕ). from_be_bytes w128 l ∷ []) (take_all 16 octets (omega arith))

-- one more block of the loop
pub fold_more : (h start y : ℕ) (octets : List ℕ) (i x : ℕ)
    → y ≡ folded h start (map (block_at octets) (range_with_len 0 i))
    → x ≡ block_at octets i → block_product (bit_xor y x) h
    ≡ folded h start (map (block_at octets) (range_with_len 0 (i + 1)))
fold_more h start y octets i x so_far is =
    let done : List ℕ = map (block_at octets) (range_with_len 0 i) in
    ap (λ (z : ℕ). block_product (bit_xor z x) h) so_far
    ∙ ap (λ (z : ℕ). block_product (bit_xor (folded h start done) z) h) is
    ∙ sym (folded_push h start done (block_at octets i))
    ∙ sym (ap (folded h start) (map-range_with_len_more (block_at octets) 0 i i (omega arith)))

-- whole blocks have no padding
pub padded_whole : (octets : List ℕ) → length octets % 16 ≡ 0 → padded octets ≡ octets
padded_whole octets none =
    let no_more : (16 - length octets % 16) % 16 ≡ 0 = omega arith in
    ap (λ (n : ℕ). octets ++ replicate n 0) no_more ∙ append-nil octets

length-padded : (octets : List ℕ) → length (padded octets) ≡ 16 * ((length octets + 15) / 16)
length-padded octets =
    let n : ℕ = (16 - length octets % 16) % 16 in
    let whole : length octets + n ≡ 16 * ((length octets + 15) / 16) = omega arith in
    length-append octets (replicate n 0) ∙ ap (λ (k : ℕ). length octets + k) (length-replicate n 0) ∙ whole

pub fold_rest : (h start : ℕ) (octets : List ℕ) (w : ℕ) → w ≡ length octets / 16 * 16 → w < length octets
    → block_product (bit_xor (folded h start (blocks octets))
    (from_be_bytes w128 (drop w octets ++ replicate (16 - length (drop w octets)) 0))) h
    ≡ folded h start (blocks (padded octets))
fold_rest h start octets w is some =
    let front : List ℕ = take w octets in
    let rest : List ℕ = drop w octets in
    let zeros : List ℕ = replicate (16 - length rest) 0 in
    let block : List ℕ = rest ++ zeros in
    let n : ℕ = length octets / 16 in
    let long_front : length front ≡ 16 * n =
    length-take-le w octets (omega arith) ∙ (let e : w ≡ 16 * n = omega arith in e) in
    let long_rest : length rest ≡ length octets - w = length-drop w octets in
    let long_zeros : length zeros ≡ 16 - length rest = length-replicate (16 - length rest) 0 in
    let long_block : length block ≡ 16 =
    length-append rest zeros ∙ (let e : length rest + length zeros ≡ 16 = omega arith in e) in
    let parts : front ++ rest ≡ octets = take-append-drop w octets in
    let none : blocks rest ≡ [] =
    nil_from_length (blocks rest) (length-blocks rest ∙ (let e : length rest / 16 ≡ 0 = omega arith in e)) in
    let whole : blocks octets ≡ blocks front =
    sym (ap blocks parts) ∙ blocks-append front rest n long_front ∙ ap (λ (l : List ℕ). blocks front ++ l) none
    ∙ append-nil (blocks front) in
    let count : (16 - length octets % 16) % 16 ≡ 16 - length rest = omega arith in
    let filled : padded octets ≡ front ++ block =
    ap (λ (k : ℕ). octets ++ replicate k 0) count ∙ sym (ap (λ (l : List ℕ). l ++ zeros) parts)
    ∙ append_assoc front rest zeros in
    let all : blocks (padded octets) ≡ blocks front ++ from_be_bytes w128 block ∷ [] =
    ap blocks filled ∙ blocks-append front block n long_front
    ∙ ap (λ (l : List ℕ). blocks front ++ l) (one_block block long_block) in
    ap (λ (l : List ℕ). block_product (bit_xor (folded h start l) (from_be_bytes w128 block)) h) whole
    ∙ sym (folded_push h start (blocks front) (from_be_bytes w128 block)) ∙ sym (ap (folded h start) all)

pub hash_is : (h y : ℕ) (aad text : List ℕ) → h < 2 ^ 128
    → y ≡ folded h (folded h 0 (blocks (padded aad))) (blocks (padded text))
    → block_product (bit_xor y (from_be_bytes w128 (lengths (length aad) (length text)))) h
    ≡ ghash h (blocks (hashed aad text))
hash_is h y aad text lh is =
    let pa : List ℕ = padded aad in
    let pt : List ℕ = padded text in
    let last : List ℕ = lengths (length aad) (length text) in
    let na : ℕ = (length aad + 15) / 16 in
    let nt : ℕ = (length text + 15) / 16 in
    let la : length pa ≡ 16 * na = length-padded aad in
    let lt : length pt ≡ 16 * nt = length-padded text in
    let lat : length (pa ++ pt) ≡ 16 * (na + nt) =
    length-append pa pt ∙ (let e : length pa + length pt ≡ 16 * (na + nt) = omega arith in e) in
    let all : blocks (hashed aad text) ≡ (blocks pa ++ blocks pt) ++ from_be_bytes w128 last ∷ [] =
    blocks-append (pa ++ pt) last (na + nt) lat
    ∙ ap (λ (l : List ℕ). l ++ blocks last) (blocks-append pa pt na la)
    ∙ ap (λ (l : List ℕ). (blocks pa ++ blocks pt) ++ l) (one_block last refl) in
    ap (λ (z : ℕ). block_product (bit_xor z (from_be_bytes w128 last)) h)
    (is ∙ sym (folded-append h 0 (blocks pa) (blocks pt)))
    ∙ sym (folded_push h 0 (blocks pa ++ blocks pt) (from_be_bytes w128 last))
    ∙ sym (ap (folded h 0) all) ∙ ghash_is h (blocks (hashed aad text)) lh
