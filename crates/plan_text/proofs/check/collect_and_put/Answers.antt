use Rattle.std.proofs.Common.{rules}
use Rattle.plan_text.proofs.Whole.{puts_whole}
use Rattle.plan_text.proofs.check.collect_and_put.Goals as goal

pub returns-in-Ok-clause-ends : goal.returns-in-Ok-clause-ends
returns-in-Ok-clause-ends g c = λ source_told. λ site_told.
    puts_whole (g.S.Source.left c.args.source.now) (g.S.Source.left c.collect.new.source) c.collect.new.buffer
    (g.O.Site.trace c.args.sink.now).now.sunk (g.O.Site.trace c.put_said.new.sink).now.sunk c.in-Ok.count
    c.put_said.result
    (search rules) (c.in-Ok.ensures.collected source_told) (c.put_said.ensures.ends site_told)
