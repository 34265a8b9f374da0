use Rattle.std.proofs.Common.{◌≡◌, ◌<◌, ◌≤◌, length, rules}
use Rattle.record_io.proofs.Items.{lacks_short}
use Rattle.record_io.proofs.Fronts.{short_left, filled_left, nothing_left, some_left}
use Rattle.record_io.specs.NextItem.{StandsItem}
use Rattle.record_io.proofs.NextItems.{no_head}
use Rattle.record_io.proofs.item_cursor.next_item.Goals as goal

pub returns-in-Err-clause-stands : goal.returns-in-Err-clause-stands
unfolding StandsItem
returns-in-Err-clause-stands g c told = tt

pub returns-in-Ok-eq0-clause-stands : goal.returns-in-Ok-eq0-clause-stands
unfolding StandsItem
returns-in-Ok-eq0-clause-stands g c told =
    let taken = c.in-Ok-eq0.ensures.collected told in
    search (rules, nothing_left, taken)

pub returns-in-Ok-clause-stands : goal.returns-in-Ok-clause-stands
unfolding StandsItem
returns-in-Ok-clause-stands g c told =
    let taken = c.in-Ok.ensures.collected told in
    let short : c.in-Ok.count < length c.collect.new.buffer = search rules in
    let left = short_left _ _ _ _ taken short in
    let some : 0 < c.in-Ok.count = search rules in
    (some_left _ _ left some, lacks_short _ (search (rules, left)))

pub returns-in-None-clause-stands : goal.returns-in-None-clause-stands
unfolding StandsItem
returns-in-None-clause-stands g c told =
    let taken = c.in-Ok.ensures.collected told in
    let filled : length c.collect.new.buffer ≤ c.in-Ok.count = search rules in
    let left = filled_left _ _ _ _ taken filled in
    let six : length c.collect.new.buffer ≡ 6 = search rules in
    no_head _ c.collect.new.buffer _ left six c.in-None.ensures

pub returns-in-Some-clause-stands : goal.returns-in-Some-clause-stands
returns-in-Some-clause-stands g c told =
    let taken = c.in-Ok.ensures.collected told in
    let filled : length c.collect.new.buffer ≤ c.in-Ok.count = search rules in
    let left = filled_left _ _ _ _ taken filled in
    rw left (c.take_octets.ensures.stands told)
