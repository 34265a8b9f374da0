use Rattle.std.proofs.Common.{Some, sym, ap, ◌∙◌}
use Rattle.unit_plan.proofs.NumberFacts.{number_parsed, text_if_decimal}
use Rattle.unit_plan.proofs.fields.number_of.Goals as goal

pub returns-in-Ok : goal.returns-in-Ok
returns-in-Ok c =
    ap Some c.unwrap_or.ensures
    ∙ number_parsed c.args.word.now c.in-Ok.text.now _ c.in-Ok.ensures.cases.0
    (sym c.is_decimal.ensures ∙ c.if-not-is_decimal.false)
    c.parse.ensures.value.0

pub returns-in-Err : goal.returns-in-Err
returns-in-Err c =
    absurd (c.in-Err.ensures.cases.0
    (text_if_decimal c.args.word.now (sym c.is_decimal.ensures ∙ c.if-not-is_decimal.false)))
