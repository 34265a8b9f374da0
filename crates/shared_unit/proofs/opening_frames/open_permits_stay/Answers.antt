use Rattle.shared_unit.proofs.Opening.{open_stays}
use Rattle.shared_unit.proofs.opening_frames.open_permits_stay.Goals as goal

pub returns : goal.returns
returns c = open_stays
