use Rattle.std.proofs.Common.{◌≡◌, ◌<◌, ◌≤◌, ◌++◌, length, sym, ap, ◌∙◌, rules}
use Rattle.std.proofs.lemmas.List.{take_at}
use Rattle.record_io.proofs.Fronts.{short_left, filled_left}
use Rattle.record_io.specs.NextItem.{StandsItem}
use Rattle.record_io.proofs.NextItems.{found_item, no_item}
use Rattle.record_io.proofs.item_cursor.take_octets.Goals as goal

pub returns-in-Err-clause-stands : goal.returns-in-Err-clause-stands
unfolding StandsItem
returns-in-Err-clause-stands g c told = tt

pub returns-in-Ok-clause-stands : goal.returns-in-Ok-clause-stands
unfolding StandsItem
returns-in-Ok-clause-stands g c told =
    let taken = c.in-Ok.ensures.collected told in
    let short : c.in-Ok.count < length c.collect.new.buffer = search rules in
    let left = short_left _ _ _ _ taken short in
    no_item c.args.header _ c.args.head c.requires (search (rules, left))

pub returns-in-Ok-2-clause-stands : goal.returns-in-Ok-2-clause-stands
unfolding StandsItem
returns-in-Ok-2-clause-stands g c told =
    let taken = c.in-Ok.ensures.collected told in
    let filled : length c.collect.new.buffer ≤ c.in-Ok.count = search rules in
    let left = filled_left _ _ _ _ taken filled in
    let whole : length c.collect.new.buffer ≡ c.in_ok-octets.octets.len = search rules in
    let body : c.new.result ≡ c.collect.new.buffer =
    c.new.ensures ∙ take_at c.collect.new.buffer _ c.in_ok-octets.octets.len whole in
    let new = g.S.Source.left c.collect.new.source in
    let long : length c.collect.new.buffer ≡ c.args.head.len = search rules in
    found_item c.args.header c.new.result _ new c.args.head c.requires (ap length body ∙ long)
    (left ∙ ap (λ xs. xs ++ new) (sym body))
