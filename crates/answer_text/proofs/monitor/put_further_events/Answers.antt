use Rattle.std.proofs.Common.{◌<◌, rules}
use Rattle.answer_text.proofs.Events.{behind_long, objects_more}
use Rattle.answer_text.proofs.monitor.put_further_events.Goals as goal

pub loop-preserved : goal.loop-preserved
loop-preserved c =
    let few : c.loop.counter < c.args.count = search rules in
    let left = behind_long c.args.count c.loop.counter c.loop.rest.now few c.loop.invariant.1 in (
      objects_more c.args.count c.loop.counter c.loop.rest.now c.behind-rest.result.now c.loop.text.items
          c.put_further.new.text.items _
          c.event_at.result few c.event_at.ensures c.behind-rest.ensures c.in_ok-put_further.ensures c.loop.invariant.0,
      rw c.behind-rest.ensures left,
    )
