use Rattle.std.proofs.Common.{◌≡◌, ℕ, ◌-◌, List, map}
use Rattle.aes_block.specs.Aes.{after_rounds}
use Rattle.aes_block.specs.Basis.{element}
use Rattle.aes_block.specs.Vectors.{HoldsKeys}
use Rattle.aes_block.proofs.cipher.encrypt_one.Given as goal

-- the states after the rounds so far
abbrev pub invariant-rounds : goal.invariant-rounds
invariant-rounds l = (words : List ℕ) → HoldsKeys words l.rounds l.keys
    → map element l.state ≡ after_rounds words l.fn.block (l.round - 1)
