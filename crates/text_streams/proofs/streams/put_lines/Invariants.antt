use Rattle.std.proofs.Common.{◌≤◌, IsTrue}
use Rattle.text_streams.proofs.ItemProgress.{Progress}
use Rattle.text_streams.proofs.streams.put_lines.Given as goal

-- the lines of the items so far were put
abbrev pub invariant-items : goal.invariant-items
invariant-items g l = (g.S.Source.faults l.fn.source ≤ g.S.Source.faults l.source)
    × (g.O.Site.faults l.fn.sink ≤ g.O.Site.faults l.sink)
    × (IsTrue g.S.Source.told → IsTrue g.O.Site.told
    → Progress (g.S.Source.left l.fn.source) (g.O.Site.trace l.fn.sink).now.sunk (g.S.Source.left l.source)
    (g.O.Site.trace l.sink).now.sunk l.offset l.counter)
