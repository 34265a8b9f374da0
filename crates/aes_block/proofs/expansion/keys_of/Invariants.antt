use Rattle.std.proofs.Common.{◌≡◌, ℕ, ◌<◌, [], length, map, get_or}
use Rattle.aes_block.specs.Aes.{round_key}
use Rattle.aes_block.specs.Basis.{element, with_constant}
use Rattle.aes_block.proofs.expansion.keys_of.Given as goal

-- the round keys so far
abbrev pub invariant-rounds : goal.invariant-rounds
invariant-rounds l = record {
  long : length l.keys ≡ 15;
  first : get_or l.keys 0 [] ≡ round_key l.words 0;
  between : (m : ℕ) → 0 < m → m < l.round → map element (get_or l.keys m []) ≡ with_constant (round_key l.words m);
}
