use Rattle.std.proofs.Common.{take}
use Rattle.std.specs.List.{All}
use Rattle.unit_state.specs.Allows.{IsSessionKey}
use Rattle.unit_state.proofs.allowing.are_session_keys.Given as goal

abbrev pub invariant-loop-item : goal.invariant-loop-item
invariant-loop-item l = All IsSessionKey (take l.item-index l.items)
