use denote.Exit.{no}
use denote.Param.{param}
use denote.Param.Send.{param_sync, arg_sync, shr_sync, shr_slice_sync}
use Rattle.std.proofs.Crossing.{sync as heap_sync}
use Rattle.record_io.proofs.item_cursor.Record.TheSendSync.{the_sync as record_sync}
use Rattle.frame_workers.proofs.Crossing.{unit_sync, captures_sync}
use Rattle.frame_workers.proofs.lane.run_lanes.Goals as goal

pub for_each_mut-requires-sync-F : goal.for_each_mut-requires-sync-F
for_each_mut-requires-sync-F g c κs low =
    param_sync 2 _ (arg_sync _ no _ (captures_sync _ _ _ _ _ _
    (shr_sync _ _ _ c.type_bounds.sync-R)
    (shr_sync _ _ _ heap_sync)
    (shr_sync _ _ _ (unit_sync (param 1 g.row.O) g.O.Site c.type_bounds.send-O))
    (shr_slice_sync _ _ _ record_sync)
    (shr_sync _ _ _ c.type_bounds.sync-G)))
