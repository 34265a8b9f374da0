use Rattle.std.proofs.Common.{◌≡◌, ◌-◌, ◌++◌, length}
use Rattle.record_io.specs.Input.{MOST_OCTETS}
use Rattle.pair_audit.specs.Recording.{recording_beginning}
use Rattle.pair_audit.specs.Walk.{ReadSoFar}
use Rattle.pair_audit.proofs.walk.audit_runs.Given as goal

abbrev pub invariant-runs : goal.invariant-runs
invariant-runs g l =
    (length l.room ≡ length l.initial.room)
    × (g.S.Source.faults l.source ≡ g.S.Source.faults l.initial.source)
    × ReadSoFar g.S.Source.told l.taken l.count l.audit l.first
    (recording_beginning ++ g.S.Source.left l.initial.source) (g.S.Source.left l.source)

abbrev pub decreases-runs : goal.decreases-runs
decreases-runs g l = MOST_OCTETS - l.taken
