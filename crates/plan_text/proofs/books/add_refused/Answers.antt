use Rattle.std.proofs.Common.{rules}
use Rattle.plan_text.proofs.Lines.{line_added}
use Rattle.plan_text.proofs.books.add_refused.Goals as goal

pub returns-in_ok-push : goal.returns-in_ok-push
returns-in_ok-push c = λ plan. λ is. λ all. line_added plan c.args.faults.now.items c.push.new.self.items c.args.line
    c.in-Some.fault is (search rules) all
