-- What a key schedule keeps (FIPS 197, 5.2).
use Rattle.std.specs.Prelude.{◌≡◌, ◌⊎◌, ℕ, ◌+◌, ◌*◌, List, length, replicate, take}
use Rattle.aes_block.specs.Aes.{encrypted, schedule}
use Rattle.aes_block.specs.Vectors.{HoldsKeys}

-- a key of 128 or 256 bits has this many words
abbrev pub IsKeyWords : ℕ → Type 0
IsKeyWords nk = (nk ≡ 4) ⊎ (nk ≡ 8)

-- the words begin with the whole expansion of a key of nk words
abbrev pub IsSchedule : ℕ → List ℕ → List ℕ → Type 0
IsSchedule nk key words = take (4 * (nk + 7)) words ≡ schedule nk key (3 * nk + 28)

-- what a schedule of a key of nk words has: its round keys, and the block of zeros enciphered
pub record IsExpanded (key : List ℕ) (nk : ℕ) (keys : List (List ℕ)) (zeros : List ℕ) : Type 0 where
  pub key_words : IsKeyWords nk
  pub whole : length key ≡ 4 * nk
  pub round_keys : HoldsKeys (schedule nk key (3 * nk + 28)) (nk + 6) keys
  pub enciphered : zeros ≡ encrypted key (replicate 16 0)
