use Rattle.std.proofs.Common.{refl, inl}
use Rattle.ep_core.specs.Need.{need_of}
use Rattle.unit_book.proofs.MarksKept.{step_keeps}
use Rattle.unit_book.proofs.commanding.step_of.Goals as goal

pub returns-in-Ok-plan_change-clause-allowed : goal.returns-in-Ok-plan_change-clause-allowed
returns-in-Ok-plan_change-clause-allowed c =
    c.changes_are_allowed.ensures c.args.state.now c.in-Ok.command c.args.seen.now c.in-Ok-plan_change.step
    c.requires.rules c.in-Ok.ensures.found.bounds
    (c.requires.seen (need_of c.args.state.now c.in-Ok.command) (inl (c.in-Ok.command, c.in-Ok.ensures.found, refl)))
    c.in-Ok-plan_change.ensures

pub returns-in-Ok-plan_change-clause-numbers : goal.returns-in-Ok-plan_change-clause-numbers
returns-in-Ok-plan_change-clause-numbers c =
    step_keeps c.args.state.now c.args.pdu.now c.args.seen.now c.in-Ok-plan_change.step
    (inl (c.in-Ok.command, c.in-Ok.ensures.found, c.in-Ok-plan_change.ensures))
