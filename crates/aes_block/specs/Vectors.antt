-- The state in a vector, and the round keys as the rounds add them (FIPS 197, 5.1).
use Rattle.std.specs.Prelude.{◌≡◌, ℕ, ◌+◌, ◌%◌, ◌<◌, List, [], ◌++◌, map, slice_index, slice_index_or}
use Rattle.std.specs.Int.{w32, to_be_bytes}
use Rattle.aes_block.specs.Aes.{at, round_key, state}
use Rattle.aes_block.specs.Basis.{element, with_constant}

-- the state whose columns are these four words
abbrev pub columns : List ℕ → List ℕ
columns words =
    to_be_bytes w32 (slice_index words 0) ++ to_be_bytes w32 (slice_index words 1)
    ++ to_be_bytes w32 (slice_index words 2) ++ to_be_bytes w32 (slice_index words 3)

-- each column turned upwards by n rows
abbrev pub row_below : ℕ → List ℕ → List ℕ
row_below n s = state (λ r c. at s ((r + n) % 4) c)

-- the round keys of these words: the first as it is, those of the whole rounds on the basis and the last as octets,
-- both with the S-box's constant
pub record HoldsKeys (words : List ℕ) (rounds : ℕ) (keys : List (List ℕ)) : Type 0 where
  pub first : slice_index_or keys 0 [] ≡ round_key words 0
  pub between : (n : ℕ) → 0 < n → n < rounds
      → map element (slice_index_or keys n []) ≡ with_constant (round_key words n)
  pub last : slice_index_or keys rounds [] ≡ with_constant (round_key words rounds)
