use Rattle.shared_unit.proofs.Trust.{permit_stays}
use Rattle.shared_unit.proofs.permit.permits_stay.Goals as goal

pub returns : goal.returns
returns c = permit_stays
