use Rattle.law_links.specs.Carried.{AcceptsFrame}
use Rattle.law_links.proofs.Carrying.{carried, frames_taken}
use Rattle.law_links.proofs.laws.accepted_is_what_was_released.Goals as goal

pub returns : goal.returns
returns c = λ image other sender receiver life again key sent got there here.
    carried c.covered_frame_opens.ensures (AcceptsFrame key) (frames_taken key) image other sender receiver life again
    sent there got here
