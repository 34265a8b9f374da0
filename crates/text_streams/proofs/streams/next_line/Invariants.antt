use Rattle.std.proofs.Common.{◌≡◌, ◌-◌, ◌≤◌, ◌++◌, true, length, IsTrue}
use Rattle.text_streams.proofs.PlainWords.{lacks}
use Rattle.text_streams.proofs.streams.next_line.Given as goal

-- what was taken has no line feed
abbrev pub invariant-octets : goal.invariant-octets
invariant-octets g l = (lacks 10 l.line.items ≡ true)
    × (IsTrue g.S.Source.told → g.S.Source.left l.initial.source ≡ l.line.items ++ g.S.Source.left l.source)
    × (g.S.Source.faults l.initial.source ≤ g.S.Source.faults l.source)

abbrev pub decreases-octets : goal.decreases-octets
decreases-octets g l = 8193 - length l.line.items
