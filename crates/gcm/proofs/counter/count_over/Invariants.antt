use Rattle.std.proofs.Common.{◌+◌, ◌*◌}
use Rattle.gcm.specs.Counter.{IsEncipheredBelow}
use Rattle.gcm.proofs.counter.count_over.Given as goal

abbrev pub invariant-fours : goal.invariant-fours
invariant-fours l = IsEncipheredBelow l.key l.iv l.fn.text l.text (16 * (2 + 4 * l.group))

abbrev pub invariant-rest : goal.invariant-rest
invariant-rest l = IsEncipheredBelow l.key l.iv l.fn.text l.text (16 * l.i)
