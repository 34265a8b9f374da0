use Rattle.std.proofs.Common.{◌≡◌, take}
use Rattle.unit_drill.specs.Arriving.{releases}
use Rattle.unit_drill.proofs.chunk.releases.Given as goal

abbrev pub invariant-loop-k : goal.invariant-loop-k
invariant-loop-k l = l.events.items ≡ releases 0 (take l.k l.sent)
