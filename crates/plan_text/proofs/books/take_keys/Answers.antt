use Rattle.std.proofs.Common.{rules}
use Rattle.plan_text.proofs.Lines.{key_line}
use Rattle.plan_text.proofs.books.take_keys.Goals as goal

pub loop-key-preserved : goal.loop-key-preserved
loop-key-preserved c = λ all. c.in_ok-add_refused.ensures c.args.plan.now
    (key_line c.args.plan.now c.key-item.result c.loop-key.key-index (search rules) (search rules))
    (c.loop-key.invariant all)
