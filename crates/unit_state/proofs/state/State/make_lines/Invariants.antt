use Rattle.std.proofs.Common.{◌≡◌, drop}
use Rattle.std.specs.List.{All}
use Rattle.unit_state.proofs.Starts.{IsKey}
use Rattle.unit_state.specs.Initial.{in_order, lines_made}
use Rattle.unit_state.proofs.state.State.make_lines.Given as goal

abbrev pub invariant-loop-found : goal.invariant-loop-found
invariant-loop-found l = record {
  made : lines_made l.initial.self (in_order l.keys l.associations)
      ≡ lines_made l.self (in_order l.rest (drop l.found-index l.associations));
  lengths : All IsKey l.rest;
}
