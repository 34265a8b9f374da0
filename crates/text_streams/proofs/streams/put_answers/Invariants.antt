use Rattle.std.proofs.Common.{◌≤◌, IsTrue}
use Rattle.text_streams.proofs.AnswerProgress.{Progress}
use Rattle.text_streams.proofs.streams.put_answers.Given as goal

-- the lines of the answers so far were put
abbrev pub invariant-answers : goal.invariant-answers
invariant-answers g l = (g.S.Source.faults l.initial.source ≤ g.S.Source.faults l.source)
    × (g.O.Site.faults l.initial.sink ≤ g.O.Site.faults l.sink)
    × (IsTrue g.S.Source.told → IsTrue g.O.Site.told
    → Progress l.fn.form (g.S.Source.left l.initial.source) (g.O.Site.trace l.initial.sink).now.sunk
    (g.S.Source.left l.source)
    (g.O.Site.trace l.sink).now.sunk l.listing l.counter)
