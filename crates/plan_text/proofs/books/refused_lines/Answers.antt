use Rattle.std.proofs.Common.{rules}
use Rattle.plan_text.proofs.Lines.{association_line}
use Rattle.plan_text.proofs.books.refused_lines.Goals as goal

pub loop-found-preserved : goal.loop-found-preserved
loop-found-preserved c = c.in_ok-add_refused.ensures c.args.plan.now
    (association_line c.args.plan.now c.found-item.result c.loop-found.found-index (search rules) (search rules))
    (c.in_ok-take_keys.ensures c.loop-found.invariant)
