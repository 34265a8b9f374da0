use Rattle.frame_shield.proofs.OpenFacts.{opened_once}
use Rattle.frame_shield.proofs.binding.opens_once.Goals as goal

pub returns : goal.returns
returns c = opened_once c.opens_what_was_sealed.ensures
