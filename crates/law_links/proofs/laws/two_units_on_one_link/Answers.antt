use Rattle.law_links.specs.Carried.{AcceptsFrame}
use Rattle.law_links.proofs.Linking.{holds}
use Rattle.law_links.proofs.laws.two_units_on_one_link.Goals as goal

pub returns : goal.returns
returns c = λ image other sender receiver life again key events delivers agree.
    holds (AcceptsFrame key) c.arrivals_were_released.ensures.below sender receiver
    (λ sent got is there takes. c.accepted_is_what_was_released.ensures image other sender receiver life again key sent
    got
    is there takes)
    (c.released_is_accepted_once.ensures image other sender receiver life again key agree)
    (c.used_once_in_a_life.ensures other receiver again) key (c.accepted_in_order.ensures other receiver again key)
    events
    (λ got there accepts.
    let (frame, arrived, from) = delivers got there accepts in
    (frame, arrived, λ sent at. record { accepts = accepts; octets = from sent at })) agree
