use Rattle.std.proofs.Common.{take}
use Rattle.std.specs.List.{All}
use Rattle.unit_state.specs.Allows.{IsActiveMaster}
use Rattle.unit_state.proofs.allowing.has_active_master.Given as goal

abbrev pub invariant-loop-row : goal.invariant-loop-row
invariant-loop-row l = All (λ row. ¬ IsActiveMaster row) (take l.row-index l.rows)
