use Rattle.std.proofs.Common.{◌≡◌, ℕ, ◌-◌, ◌≤◌, List, length}
use Rattle.text_streams.specs.Recording.{Copied}
use Rattle.text_streams.proofs.recording.copy.Given as goal

abbrev pub invariant-pieces : goal.invariant-pieces
invariant-pieces g l =
    (l.copied ≤ l.len)
    × (length l.room ≡ length l.initial.room)
    × (g.S.Source.faults l.source ≡ g.S.Source.faults l.initial.source)
    × (g.O.Site.faults l.sink ≡ g.O.Site.faults l.initial.sink)
    × ((octets : List ℕ) × (length octets ≡ l.copied)
    × Copied g.S.Source.told g.O.Site.told octets (g.S.Source.left l.initial.source) (g.S.Source.left l.source)
    (g.O.Site.trace l.initial.sink) (g.O.Site.trace l.sink))

abbrev pub decreases-pieces : goal.decreases-pieces
decreases-pieces g l = l.len - l.copied
