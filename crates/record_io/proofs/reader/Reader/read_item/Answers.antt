use Rattle.std.proofs.Common.{◌++◌, ◌≤◌, ◌<◌, length, take, ap, ◌∙◌, arith, rules, lit<}
use Rattle.std.proofs.lemmas.Result.{IfOk-weaker, on_err_weaker}
use Rattle.std.proofs.lemmas.List.{length-take-le}
use Rattle.record_io.proofs.Takings.{read_from, wants_from, take_whole, breaks_in_head}
use Rattle.record_io.proofs.reader.Reader.read_item.Goals as goal

pub returns-in-Ok-eq6-clause-read : goal.returns-in-Ok-eq6-clause-read
returns-in-Ok-eq6-clause-read g c =
    IfOk-weaker c.read_behind.result _ _
    (λ read found. read_from g.S.Source.told _ _ _ _ _ _ read
    (omega (arith, ap (λ p. p.taken) c.in-Ok-eq6.ensures.counted, c.in-Ok-eq6.field-0-test))
    (λ t. c.in-Ok-eq6.ensures.moved t ∙ ap (λ l. l ++ g.S.Source.left c.take.new.source)
    (take_whole c.in-Ok-eq6.field-0 c.take.new.room (c.in-Ok-eq6.field-0-test ∙ search rules)))
    found)
    c.read_behind.ensures.read

pub returns-in-Ok-eq6-clause-wants : goal.returns-in-Ok-eq6-clause-wants
returns-in-Ok-eq6-clause-wants g c =
    on_err_weaker c.read_behind.result
    (λ wants. wants_from g.S.Source.told _ _ _ _ _
    (omega (arith, ap (λ p. p.taken) c.in-Ok-eq6.ensures.counted, c.in-Ok-eq6.field-0-test))
    (λ t. c.in-Ok-eq6.ensures.moved t ∙ ap (λ l. l ++ g.S.Source.left c.take.new.source)
    (take_whole c.in-Ok-eq6.field-0 c.take.new.room (c.in-Ok-eq6.field-0-test ∙ search rules)))
    wants)
    c.read_behind.ensures.wants

pub returns-in-Ok-clause-read : goal.returns-in-Ok-clause-read
returns-in-Ok-clause-read g c =
    let within : c.in-Ok.field-0 ≤ length c.take.new.room = search rules in
    let some : 0 < c.in-Ok.field-0 = omega (arith, c.in-Ok.field-0-test.0) in
    let short : c.in-Ok.field-0 < 6 = omega (arith, c.in-Ok.field-0-test.1, c.in-Ok.ensures.within) in (
      lit< tt,
      breaks_in_head g.S.Source.told _ _ (take c.in-Ok.field-0 c.take.new.room) _ _ c.in-Ok.field-0 _ (search rules)
          (length-take-le c.in-Ok.field-0 c.take.new.room within) some short c.in-Ok.ensures.moved
          (ap (λ p. p.taken) c.in-Ok.ensures.counted) c.in-Ok.ensures.few (λ t. c.in-Ok.ensures.ended t short),
    )
