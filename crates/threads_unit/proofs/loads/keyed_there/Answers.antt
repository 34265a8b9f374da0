use denote.Exit.{no}
use denote.Param.Send.{param_send, arg_send, shr_send}
use Rattle.threads_unit.proofs.Crossing.{three_send, unit_sync, worker_send}
use Rattle.threads_unit.proofs.loads.keyed_there.Goals as goal

pub join-keyed-requires-send-F : goal.join-keyed-requires-send-F
join-keyed-requires-send-F g c κs within =
    param_send 1 _ (arg_send _ no _ (three_send _ _ _ _
    (shr_send _ _ _ c.type_bounds.sync-R)
    (shr_send _ _ _ unit_sync)
    worker_send))
