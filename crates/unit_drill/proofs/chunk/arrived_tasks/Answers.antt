use Rattle.std.proofs.Common.{rules, ◌∙◌, get_or}
use Rattle.unit_drill.proofs.Arrivals.{arrived_more}
use Rattle.unit_drill.proofs.chunk.arrived_tasks.Goals as goal

pub loop-at-preserved : goal.loop-at-preserved
loop-at-preserved c = record {
  items = c.in_ok-push.ensures.items
      ∙ arrived_more c.args.place c.loop-at.at c.args.first c.args.sent.now c.args.numbers.now
      (get_or c.args.numbers.now c.loop-at.at 0) c.loop-at.tasks.items
      c.arrived_task.result c.in_ok-octets.octets (search rules) (search rules) c.loop-at.invariant.items (search rules)
      (search rules);
  many = search rules;
}
