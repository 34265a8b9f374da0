use Rattle.std.proofs.Common.{◌≡◌, drop}
use Rattle.std.specs.List.{flat_map}
use Rattle.sdls_base.specs.FirstFailing.{first_told}
use Rattle.ep_core.specs.Refusals.{session_checks}
use Rattle.ep_core.proofs.sealing.sessions_refusal.Given as goal

abbrev pub invariant-loop-key : goal.invariant-loop-key
invariant-loop-key l =
    first_told (flat_map (session_checks l.state) (drop l.key-index l.keys))
    ≡ first_told (flat_map (session_checks l.state) l.keys)
