use Rattle.counter_table.specs.Worker.{view}
use Rattle.frame_workers.proofs.Keeping.{opening_stays, protect_stays}
use Rattle.frame_workers.proofs.lane.handle_under.Goals as goal

pub returns-in-Protect-clause-kept : goal.returns-in-Protect-clause-kept
returns-in-Protect-clause-kept g c = record {
  to_protect = c.protect.ensures.kept;
  to_open = opening_stays c.args.kept.now.to_open (view c.args.worker.now).turn (view c.protect.new.worker).turn
      c.protect.ensures.handles.grows c.requires.kept.to_open;
}

pub returns-in-Open-clause-kept : goal.returns-in-Open-clause-kept
returns-in-Open-clause-kept g c = record {
  to_protect = protect_stays c.args.kept.now.to_protect (view c.args.worker.now).turn (view c.open.new.worker).turn
      c.open.ensures.handles.grows c.requires.kept.to_protect;
  to_open = c.open.ensures.kept;
}

pub returns-in-Command-clause-kept : goal.returns-in-Command-clause-kept
returns-in-Command-clause-kept g c = record {
  to_protect = protect_stays c.args.kept.now.to_protect (view c.args.worker.now).turn (view c.command.new.worker).turn
      c.command.ensures.grows c.requires.kept.to_protect;
  to_open = opening_stays c.args.kept.now.to_open (view c.args.worker.now).turn (view c.command.new.worker).turn
      c.command.ensures.grows c.requires.kept.to_open;
}
