use Rattle.std.proofs.Common.{◌≡◌, ℕ, ◌≤◌, ◌+◌, IsTrue}
use Rattle.text_streams.proofs.ObjectProgress.{Progress}
use Rattle.text_streams.proofs.state_line.put_state_objects.Given as goal

-- the objects of the lines so far were put
abbrev pub invariant-lines : goal.invariant-lines
invariant-lines g l = (g.S.Source.faults l.initial.source ≤ g.S.Source.faults l.source)
    × (g.O.Site.faults l.initial.sink ≤ g.O.Site.faults l.sink)
    × (IsTrue g.S.Source.told → IsTrue g.O.Site.told → (count : ℕ) × (l.number ≡ count + 1)
    × Progress (g.S.Source.left l.initial.source) (g.O.Site.trace l.initial.sink).now.sunk (g.S.Source.left l.source)
    (g.O.Site.trace l.sink).now.sunk count)
