use Rattle.disk_journal.proofs.WholeRest.{rest_whole}
use Rattle.disk_journal.proofs.layout.rest_is_whole.Goals as goal

pub returns : goal.returns
returns c = rest_whole
