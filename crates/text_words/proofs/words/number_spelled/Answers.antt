use Rattle.std.proofs.Common.{◌≡◌, sym, ap, ◌∙◌, rules, Some}
use Rattle.std.specs.Fmt.{decimal}
use Rattle.text_words.proofs.Numbers.{number_is_text, number_is_parsed, ok_is}
use Rattle.text_words.proofs.words.number_spelled.Goals as goal

pub returns-in_default-clause-only : goal.returns-in_default-clause-only
returns-in_default-clause-only c n small is =
    absurd (c.in_default.ensures.cases.0 (number_is_text n c.args.word.now small is))

pub returns-in_default-parse-clause-only : goal.returns-in_default-parse-clause-only
returns-in_default-parse-clause-only c n small is =
    absurd (c.in_default-parse.not-Ok n
    (number_is_parsed n _ _ _ small is c.in-Ok.ensures.cases.0 c.parse.ensures.value.0))

pub returns-then-eq-clause-only : goal.returns-then-eq-clause-only
returns-then-eq-clause-only c n small is =
    ap Some (ok_is _ _ _ c.in-Ok-parse.is
    (number_is_parsed n _ _ _ small is c.in-Ok.ensures.cases.0 c.parse.ensures.value.0))

pub returns-else-eq-clause-only : goal.returns-else-eq-clause-only
returns-else-eq-clause-only c n small is =
    let value =
    ok_is _ _ _ c.in-Ok-parse.is
    (number_is_parsed n _ _ _ small is c.in-Ok.ensures.cases.0 c.parse.ensures.value.0) in
    let same : c.as_bytes.result.now ≡ c.args.word.now =
    c.as_bytes.ensures.value ∙ c.format.ensures.text ∙ ap decimal value ∙ sym is in
    absurd (search rules)
