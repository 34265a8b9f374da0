use Rattle.disk_journal.proofs.Again.{stays_within}
use Rattle.disk_journal.proofs.layout.opening_stays.Goals as goal

pub returns : goal.returns
returns c = stays_within
