use Rattle.disk_journal.proofs.InitialImage.{begins}
use Rattle.disk_journal.proofs.layout.initial_image_opens.Goals as goal

pub returns : goal.returns
returns c = begins
