use Rattle.std.proofs.Common.{sym, subst}
use Rattle.unit_state.specs.State.{KeepsRules}
use Rattle.unit_state.proofs.RulesKept.{rules_kept}
use Rattle.unit_image.proofs.reading.take_record.Goals as goal

pub returns-in-Ok-apply-clause-rules : goal.returns-in-Ok-apply-clause-rules
returns-in-Ok-apply-clause-rules g c = subst KeepsRules (sym c.in-Ok-apply.ensures.applied)
    (rules_kept c.args.state.now c.in-Ok-Some.change c.requires.rules
    (rw c.in-Ok-Some.field-0-is at c.in-Ok-Some.ensures.found).1)
