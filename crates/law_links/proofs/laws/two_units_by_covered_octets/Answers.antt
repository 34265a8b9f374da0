use Rattle.law_links.specs.Carried.{AcceptsCovered}
use Rattle.law_links.proofs.Carrying.{arrived_once, carried, covered_taken}
use Rattle.law_links.proofs.Linking.{holds}
use Rattle.law_links.proofs.laws.two_units_by_covered_octets.Goals as goal

pub returns : goal.returns
returns c = λ image other sender receiver life again key events delivers agree.
    holds (AcceptsCovered key) c.arrivals_were_released.ensures.below sender receiver
    (λ sent got is there. carried c.covered_frame_opens.ensures (AcceptsCovered key) (covered_taken key) image other
    sender
    receiver life again sent is got there)
    (arrived_once c.covered_frame_opens.ensures c.used_once_in_a_life.ensures (AcceptsCovered key) (covered_taken key)
    image other sender receiver life again agree)
    (c.used_once_in_a_life.ensures other receiver again) key (c.accepted_in_order.ensures other receiver again key)
    events
    delivers agree
