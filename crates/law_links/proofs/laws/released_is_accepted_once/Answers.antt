use Rattle.law_links.specs.Carried.{AcceptsFrame}
use Rattle.law_links.proofs.Carrying.{arrived_once, frames_taken}
use Rattle.law_links.proofs.laws.released_is_accepted_once.Goals as goal

pub returns : goal.returns
returns c = λ image other sender receiver life again key.
    arrived_once c.covered_frame_opens.ensures c.used_once_in_a_life.ensures (AcceptsFrame key) (frames_taken key) image
    other sender receiver life again
