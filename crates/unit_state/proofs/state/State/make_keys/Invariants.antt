use Rattle.std.proofs.Common.{◌≡◌, map, drop}
use Rattle.unit_state.specs.Initial.{OfKey, lines_made}
use Rattle.unit_state.proofs.state.State.make_keys.Given as goal

abbrev pub invariant-loop-key : goal.invariant-loop-key
invariant-loop-key l = lines_made l.initial.self (map OfKey l.keys)
    ≡ lines_made l.self (map OfKey (drop l.key-index l.keys))
