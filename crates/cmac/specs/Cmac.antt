-- The mode CMAC over AES (SP 800-38B), with MACs of 128 bits.
use Rattle.std.specs.Prelude.{ℕ, zero, suc, ◌-◌, ◌*◌, ◌/◌, ◌%◌, ◌^◌, ◌==◌, if◌then◌else◌, List, ◌∷◌, ◌++◌, length, take}
use Rattle.std.specs.Prelude.{drop, replicate, bit_xor}
use Rattle.std.specs.Int.{w128, to_be_bytes, from_be_bytes}
use lib.Lanes.{zip2}
use Rattle.aes_block.specs.Aes.{encrypted}

-- one block xored with another
abbrev pub xored : List ℕ → List ℕ → List ℕ
xored a b = zip2 bit_xor a b

abbrev pub zero_block : List ℕ
zero_block = replicate 16 0

-- a block shifted left by one bit, and R = 0x87 added where its first bit was 1 (5.3, 6.1)
unfoldable pub doubled : List ℕ → List ℕ
doubled a = let n = from_be_bytes w128 a in to_be_bytes w128 (bit_xor (2 * n % 2 ^ 128) (n / 2 ^ 127 * 0x87))

-- the subkeys (6.1)
abbrev pub subkey1 : List ℕ → List ℕ
subkey1 key = doubled (encrypted key zero_block)

abbrev pub subkey2 : List ℕ → List ℕ
subkey2 key = doubled (subkey1 key)

-- how many blocks stand before the last, in a text of n octets: the last may be short, and it is
-- empty in an empty text alone
abbrev pub before_last : ℕ → ℕ
before_last n = (n - 1) / 16

-- the last block: whole, and xored with the first subkey, or filled up by a bit 1 and zeros, and
-- xored with the second (6.2, step 4)
abbrev pub last_block : List ℕ → List ℕ → List ℕ
last_block key m =
    if length m == 16 then xored (subkey1 key) m
    else xored (subkey2 key) (m ++ 0x80 ∷ replicate (15 - length m) 0)

-- the chain over the first n blocks of the text: zero, then each block xored in and enciphered (6.2,
-- steps 5 and 6)
unfoldable pub chain : List ℕ → List ℕ → ℕ → List ℕ
chain key m zero = zero_block
chain key m (suc n) = encrypted key (xored (chain key m n) (take 16 (drop (16 * n) m)))

-- the MAC of a text (6.2)
unfoldable pub mac : List ℕ → List ℕ → List ℕ
mac key m =
    let n = before_last (length m) in
    encrypted key (xored (chain key m n) (last_block key (drop (16 * n) m)))
