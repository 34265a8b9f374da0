use Rattle.std.proofs.Common.{◌≡◌, ℕ, ◌-◌, ◌≤◌, List, length}
use Rattle.record_io.specs.declared.answers.Answer.{Answer}
use Rattle.pair_audit.specs.Taking.{Taking}
use Rattle.pair_audit.specs.Walk.{InRun, Takes}
use Rattle.pair_audit.proofs.walk.audit_run.Given as goal

abbrev pub invariant-answers : goal.invariant-answers
invariant-answers g l =
    (l.place ≤ l.len)
    × (length l.room ≡ length l.initial.room)
    × (g.S.Source.faults l.source ≡ g.S.Source.faults l.initial.source)
    × ((octets : List ℕ) × (own : List Answer) × (length octets ≡ l.place)
    × Taking g.S.Source.told l.taken l.place octets (g.S.Source.left l.initial.source) (g.S.Source.left l.source)
    × InRun l.len octets own × Takes l.initial.audit l.audit l.fn.before l.first own)

abbrev pub decreases-answers : goal.decreases-answers
decreases-answers g l = l.len - l.place
