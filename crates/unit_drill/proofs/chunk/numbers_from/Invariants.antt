use Rattle.std.proofs.Common.{◌≡◌, ◌+◌, map, take, vec_len}
use Rattle.unit_drill.proofs.chunk.numbers_from.Given as goal

abbrev pub invariant-loop-k : goal.invariant-loop-k
invariant-loop-k l = record {
  items : l.numbers.items ≡ map (λ k. l.first + k) (take l.k-index l.arrived);
  many : vec_len l.numbers ≡ l.k-index;
}
