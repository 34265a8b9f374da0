use Rattle.std.proofs.Common.{◌≡◌, ℕ, List, ◌++◌, length, IsTrue}
use Rattle.hex.specs.Hex.{encode_lower}
use Rattle.sdls_outside.specs.Output.{Sinks}
use Rattle.cli_check.proofs.check.put_hexadecimal.Given as goal

abbrev pub invariant-loop-rest : goal.invariant-loop-rest
invariant-loop-rest g l =
    (g.O.Site.faults l.site ≡ g.O.Site.faults l.initial.site)
    × ((done : List ℕ) × (l.octets ≡ done ++ l.rest)
    × (IsTrue g.O.Site.told → Sinks (encode_lower done) (g.O.Site.trace l.initial.site) (g.O.Site.trace l.site)))

abbrev pub decreases-loop-rest : goal.decreases-loop-rest
decreases-loop-rest g l = length l.rest
