use Rattle.std.proofs.Common.{◌≡◌, Ok, subst}
use Rattle.std.specs.List.{All}
use Rattle.unit_plan.specs.PlanRules.{IsAssociation}
use Rattle.unit_state.specs.Initial.{bare, in_order, lines_made}
use Rattle.unit_state.proofs.Starts.{IsKey, initial_rules}
use Rattle.unit_state.proofs.state.State.initial.Goals as goal

pub returns-clause-rules : goal.returns-clause-rules
returns-clause-rules c =
    let made : lines_made (bare c.args.plan.now) (in_order c.args.plan.now.keys c.args.plan.now.associations)
    ≡ Ok c.make_lines.new.self =
    rw (← c.in_ok-state.ensures, ← c.keys.ensures.lines, ← c.associations.ensures.lines)
    c.in_ok-make_lines.ensures in
    initial_rules c.args.plan.now c.make_lines.new.self (subst (All IsKey) c.keys.ensures.lines c.keys.ensures.lengths)
    (subst (All IsAssociation) c.associations.ensures.lines c.associations.ensures.bounds) made
