use Rattle.text_streams.proofs.PlainLines.{monitor_put}
use Rattle.text_streams.proofs.printing.put_monitor.Goals as goal

pub returns : goal.returns
returns c = monitor_put c.args.lane c.args.link c.args.asked.now _ _ _ c.in_ok-put_at.ensures c.in_ok-put_asked.ensures
