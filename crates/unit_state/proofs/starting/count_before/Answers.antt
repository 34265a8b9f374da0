use Rattle.std.proofs.Common.{ap, ◌∙◌, nat_le, length}
use Rattle.std.specs.Option.{unwrap_or}
use Rattle.unit_plan.specs.declared.plan.PlanKey.{PlanKey}
use Rattle.sa_book.proofs.Rows.{or_end}
use Rattle.unit_state.proofs.starting.count_before.Goals as goal

pub returns : goal.returns
returns c =
    c.unwrap_or.ensures
    ∙ ap (λ o. unwrap_or o (length c.args.keys.now)) c.first_behind.ensures
    ∙ or_end (λ (key : PlanKey). nat_le c.args.line key.line) c.args.keys.now
