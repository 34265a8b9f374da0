use Rattle.counter_table.specs.Worker.{view}
use Rattle.frame_workers.proofs.Keeping.{all_stay, kept_at}
use Rattle.frame_workers.proofs.lane.handle.Goals as goal

pub returns-then-place-len-clause-kept : goal.returns-then-place-len-clause-kept
returns-then-place-len-clause-kept g c =
    kept_at c.args.kept.now.items c.place_for-place.result c.handle_under.new.kept (view c.args.worker.now).turn
    (view c.handle_under.new.worker).turn
    c.handle_under.ensures.handles.grows c.requires.kept c.handle_under.ensures.kept

pub returns-clause-kept : goal.returns-clause-kept
returns-clause-kept g c =
    all_stay c.args.kept.now.items (view c.args.worker.now).turn (view c.handle_under-2.new.worker).turn
    c.handle_under-2.ensures.handles.grows c.requires.kept
