use Rattle.std.proofs.Common.{◌≡◌, ℕ, ◌-◌, List, [], map, get_or}
use Rattle.aes_block.specs.Aes.{after_rounds}
use Rattle.aes_block.specs.Basis.{element}
use Rattle.aes_block.specs.Vectors.{HoldsKeys}
use Rattle.aes_block.proofs.cipher.encrypt_four.Given as goal

-- the states after the rounds so far
abbrev pub invariant-rounds : goal.invariant-rounds
invariant-rounds l = record {
  a : (words : List ℕ) → HoldsKeys words l.rounds l.keys
      → map element l.a ≡ after_rounds words (get_or l.fn.blocks 0 []) (l.round - 1);
  b : (words : List ℕ) → HoldsKeys words l.rounds l.keys
      → map element l.b ≡ after_rounds words (get_or l.fn.blocks 1 []) (l.round - 1);
  c : (words : List ℕ) → HoldsKeys words l.rounds l.keys
      → map element l.c ≡ after_rounds words (get_or l.fn.blocks 2 []) (l.round - 1);
  d : (words : List ℕ) → HoldsKeys words l.rounds l.keys
      → map element l.d ≡ after_rounds words (get_or l.fn.blocks 3 []) (l.round - 1);
}
