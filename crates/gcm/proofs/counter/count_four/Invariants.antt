use Rattle.std.proofs.Common.{◌≡◌, ℕ, ◌+◌, ◌*◌, List, length}
use Rattle.gcm.specs.Counter.{IsEncipheredBelow}
use Rattle.gcm.proofs.counter.count_four.Given as goal

abbrev pub invariant-pads : goal.invariant-pads
invariant-pads l = record {
  same_length : length l.text ≡ length l.fn.text;
  counted : (clear : List ℕ) → IsEncipheredBelow l.key l.iv clear l.fn.text (16 * l.first)
      → IsEncipheredBelow l.key l.iv clear l.text (16 * (l.first + l.i));
}
