use Rattle.std.proofs.Common.{take, All}
use Rattle.unit_state.specs.State.{HasKey}
use Rattle.unit_image.proofs.content.all_hold_keys.Given as goal

abbrev pub invariant-loop-row : goal.invariant-loop-row
invariant-loop-row l = All (HasKey l.keys) (take l.row-index l.rows)
