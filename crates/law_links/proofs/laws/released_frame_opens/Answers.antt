use Rattle.law_links.proofs.Frames.{agrees_with_itself, carried_over}
use Rattle.law_links.proofs.laws.released_frame_opens.Goals as goal

pub returns : goal.returns
returns c = λ one other n m clear frame field protects agree.
    carried_over c.protected_opens.ensures c.opens_what_was_sealed.ensures one other n m clear frame frame field
    protects
    agree (agrees_with_itself one n clear frame protects)
