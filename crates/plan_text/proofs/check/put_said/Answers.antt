use Rattle.std.proofs.Common.{rules}
use Rattle.plan_text.proofs.Whole.{puts_behind}
use Rattle.plan_text.proofs.check.put_said.Goals as goal

pub returns-in-Ok-put-clause-ends : goal.returns-in-Ok-put-clause-ends
returns-in-Ok-put-clause-ends g c = λ told.
    puts_behind c.args.text.now (g.O.Site.trace c.args.sink.now).now.sunk (g.O.Site.trace c.put.new.self).now.sunk
    c.in-Ok.put.items c.in-Ok.end c.in-Ok.ensures (search rules)
