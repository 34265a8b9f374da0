-- The mode GCM over AES (SP 800-38D), with initialization vectors of 96 bits and tags of 128.
use Rattle.std.specs.Prelude.{ℕ, ◌+◌, ◌-◌, ◌*◌, ◌/◌, ◌%◌, ◌^◌, List, ◌++◌, map, length, take, drop, replicate}
use Rattle.std.specs.Prelude.{slice_index, bit_xor, Option, Some, None, if◌then◌else◌}
use Rattle.std.specs.List.{range_with_len}
use Rattle.std.specs.Int.{w32, w64, w128, to_be_bytes, from_be_bytes}
use Rattle.std.specs.Str.{bytes_eq}
use Rattle.aes_block.specs.Aes.{encrypted}
use Rattle.gcm.specs.Field.{ghash}

-- ---- GHASH over octets

-- the octets, filled up with zeros to whole blocks
abbrev pub padded : List ℕ → List ℕ
padded octets = octets ++ replicate ((16 - length octets % 16) % 16) 0

-- block i of the octets
abbrev pub block_at : List ℕ → ℕ → ℕ
block_at octets i = from_be_bytes w128 (take 16 (drop (16 * i) octets))

-- the whole blocks of the octets
abbrev pub blocks : List ℕ → List ℕ
blocks octets = map (block_at octets) (range_with_len 0 (length octets / 16))

-- both lengths in bits, as numbers of 64 bits
abbrev pub lengths : ℕ → ℕ → List ℕ
lengths aad text = to_be_bytes w64 (8 * aad) ++ to_be_bytes w64 (8 * text)

-- what GHASH runs over: the additional data, the ciphertext and the block of their lengths (7.1, step 5)
abbrev pub hashed : List ℕ → List ℕ → List ℕ
hashed aad text = padded aad ++ padded text ++ lengths (length aad) (length text)

-- the hash subkey H (7.1, step 1)
abbrev pub hash_subkey : List ℕ → ℕ
hash_subkey key = from_be_bytes w128 (encrypted key (replicate 16 0))

-- ---- counter mode

-- the block J0 (i = 0; 7.1, step 2) and those after it: the vector, then inc32 applied i times to 31 zero bits and a 1
-- (6.2)
abbrev pub counter_block : List ℕ → ℕ → List ℕ
counter_block iv i = iv ++ to_be_bytes w32 ((1 + i) % 2 ^ 32)

-- octet k of the text, xored with that of the enciphered counter blocks, which begin after J0 (6.5)
abbrev pub gctr_octet : List ℕ → List ℕ → List ℕ → ℕ → ℕ
gctr_octet key iv text k =
    bit_xor (slice_index text k) (slice_index (encrypted key (counter_block iv (k / 16 + 1))) (k % 16))

-- the text, enciphered or deciphered
unfoldable pub gctr : List ℕ → List ℕ → List ℕ → List ℕ
gctr key iv text = map (gctr_octet key iv text) (range_with_len 0 (length text))

-- ---- sealing and opening

-- the tag of a ciphertext (7.1, step 6)
unfoldable pub tag_of : List ℕ → List ℕ → List ℕ → List ℕ → List ℕ
tag_of key iv aad text =
    let hash = ghash (hash_subkey key) (blocks (hashed aad text)) in
    let mask = from_be_bytes w128 (encrypted key (counter_block iv 0)) in
    to_be_bytes w128 (bit_xor hash mask)

-- the ciphertext of the data and its tag (7.1)
abbrev pub gcm_seal : List ℕ → List ℕ → List ℕ → List ℕ → List ℕ × List ℕ
gcm_seal key iv aad text = (gctr key iv text, tag_of key iv aad (gctr key iv text))

-- the data of a ciphertext, where the tag is the right one (7.2)
abbrev pub gcm_open : List ℕ → List ℕ → List ℕ → List ℕ → List ℕ → Option (List ℕ)
gcm_open key iv aad text tag =
    if bytes_eq tag (tag_of key iv aad text) then Some (gctr key iv text) else None
