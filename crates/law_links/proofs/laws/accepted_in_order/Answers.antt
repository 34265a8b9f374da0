use Rattle.law_links.proofs.InOrder.{accepted_in_order}
use Rattle.law_links.proofs.laws.accepted_in_order.Goals as goal

pub returns : goal.returns
returns c = accepted_in_order c.shows_one.ensures
