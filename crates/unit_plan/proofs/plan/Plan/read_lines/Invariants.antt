use Rattle.std.proofs.Common.{◌≡◌, ◌+◌, ◌≤◌, length}
use Rattle.unit_plan.specs.Lines.{lines_of}
use Rattle.unit_plan.specs.PlanLines.{no_lines}
use Rattle.unit_plan.specs.Plan.{plan_after}
use Rattle.unit_plan.proofs.plan.Plan.read_lines.Given as goal

abbrev pub invariant-loop-line : goal.invariant-loop-line
invariant-loop-line l =
    (plan_after 1 no_lines (lines_of l.text) ≡ plan_after l.number l.plan l.line-iterator)
    × (l.number + length l.line-iterator ≤ 65537)
