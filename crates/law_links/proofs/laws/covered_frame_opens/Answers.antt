use Rattle.law_links.proofs.Frames.{carried_over}
use Rattle.law_links.proofs.laws.covered_frame_opens.Goals as goal

pub returns : goal.returns
returns c = carried_over c.protected_opens.ensures c.opens_what_was_sealed.ensures
