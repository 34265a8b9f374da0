use Rattle.std.proofs.Common.{◌≡◌, ℕ, ◌-◌, ◌≤◌, List, length}
use Rattle.pair_audit.specs.Taking.{Taking}
use Rattle.pair_audit.proofs.walk.skip.Given as goal

abbrev pub invariant-pieces : goal.invariant-pieces
invariant-pieces g l =
    (l.skipped ≤ l.len)
    × (length l.room ≡ length l.initial.room)
    × (g.S.Source.faults l.source ≡ g.S.Source.faults l.initial.source)
    × ((octets : List ℕ) × (length octets ≡ l.skipped)
    × Taking g.S.Source.told l.taken l.skipped octets (g.S.Source.left l.initial.source) (g.S.Source.left l.source))

abbrev pub decreases-pieces : goal.decreases-pieces
decreases-pieces g l = l.len - l.skipped
