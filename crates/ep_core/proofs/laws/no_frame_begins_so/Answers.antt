use Rattle.ep_core.proofs.Frames.{no_frame_begins}
use Rattle.ep_core.proofs.laws.no_frame_begins_so.Goals as goal

pub returns : goal.returns
returns c = no_frame_begins
