use Rattle.std.proofs.Common.{rules, subst}
use Rattle.plan_text.specs.declared.check.Checked.{Checked}
use Rattle.plan_text.specs.Check.{Tells}
use Rattle.plan_text.proofs.check.said.Goals as goal

pub returns-in_ok-notes_text-in-NoPlan : goal.returns-in_ok-notes_text-in-NoPlan
returns-in_ok-notes_text-in-NoPlan c =
    let P : Checked → Type 0 = λ checked. Tells c.args.text.now checked in
    let told = subst P c.in-NoPlan.is c.in_ok-summary.ensures in
    (told.0, c.in-NoPlan.first, c.in-NoPlan.others.items, told.1, told.2, search rules)
