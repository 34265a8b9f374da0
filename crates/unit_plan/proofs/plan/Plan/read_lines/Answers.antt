use Rattle.std.proofs.Common.{◌≡◌, ◌∙◌, refl, arith}
use Rattle.unit_plan.specs.Lines.{lines_of}
use Rattle.unit_plan.proofs.PartsFacts.{few_parts}
use Rattle.unit_plan.proofs.plan.Plan.read_lines.Goals as goal

pub loop-line-init : goal.loop-line-init
loop-line-init c =
    let same : c.into_iter-line-iterator.result ≡ lines_of c.args.text.now =
    c.into_iter-line-iterator.ensures.into_iter_gives ∙ c.of-line-items.ensures in
    let few = few_parts 10 c.args.text.now in
    let short = c.requires in
    rw (same, c.new-plan.ensures) (refl, omega arith)
