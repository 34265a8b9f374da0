use Rattle.std.proofs.Common.{◌≡◌, ◌≤◌, ◌-◌, ◌++◌, length, take, IsTrue}
use Rattle.sdls_outside.proofs.source.collect.Given as goal

abbrev pub invariant-loop-filled : goal.invariant-loop-filled
invariant-loop-filled g l =
    (l.filled ≤ length l.buffer)
    × (length l.buffer ≡ length l.initial.buffer)
    × (g.S.Source.faults l.source ≡ g.S.Source.faults l.initial.source)
    × (IsTrue g.S.Source.told → g.S.Source.left l.initial.source ≡ take l.filled l.buffer ++ g.S.Source.left l.source)

abbrev pub decreases-loop-filled : goal.decreases-loop-filled
decreases-loop-filled g l = length l.initial.buffer - l.filled
