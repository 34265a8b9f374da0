use Rattle.unit_state.proofs.StateLaws.{fall_only_to}
use Rattle.unit_state.proofs.laws.marks_fall_only_so.Goals as goal

pub returns : goal.returns
returns c = fall_only_to
