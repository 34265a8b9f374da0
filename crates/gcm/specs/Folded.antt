-- GHASH as it is folded (SP 800-38D, 6.4, step 3).
use Rattle.std.specs.Prelude.{ℕ, List, [], ◌∷◌, bit_xor}
use Rattle.gcm.specs.Field.{block_product}

-- Y of each block is that before it xored with the block, times H
unfoldable pub folded : ℕ → ℕ → List ℕ → ℕ
folded h y [] = y
folded h y (x ∷ xs) = folded h (block_product (bit_xor y x) h) xs
