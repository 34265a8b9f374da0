use Rattle.std.proofs.Common.{◌≡◌, ◌<◌, ◌≤◌, length, ◌∙◌, rules}
use Rattle.std.proofs.lemmas.List.{take_at}
use Rattle.record_io.specs.NextAnswer.{StandsBehind}
use Rattle.record_io.proofs.Fronts.{short_left, filled_left}
use Rattle.record_io.proofs.answers.take_body.Goals as goal

pub returns-in-Err-clause-stands : goal.returns-in-Err-clause-stands
unfolding StandsBehind
returns-in-Err-clause-stands g c told = tt

pub returns-in-Ok-clause-stands : goal.returns-in-Ok-clause-stands
unfolding StandsBehind
returns-in-Ok-clause-stands g c told =
    let taken = c.in-Ok.ensures.collected told in
    let short : c.in-Ok.count < length c.collect.new.buffer = search rules in
    let left = short_left _ _ _ _ taken short in
    search (rules, left)

pub returns-in-Ok-2-clause-stands : goal.returns-in-Ok-2-clause-stands
unfolding StandsBehind
returns-in-Ok-2-clause-stands g c told =
    let taken = c.in-Ok.ensures.collected told in
    let filled : length c.collect.new.buffer ≤ c.in-Ok.count = search rules in
    let left = filled_left _ _ _ _ taken filled in
    let whole : length c.collect.new.buffer ≡ c.in_ok-body.body.len = search rules in
    let body : c.new.result ≡ c.collect.new.buffer =
    c.new.ensures ∙ take_at c.collect.new.buffer _ c.in_ok-body.body.len whole in
    (search rules, search (rules, left))
