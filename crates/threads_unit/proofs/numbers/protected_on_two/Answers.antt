use denote.Exit.{no}
use denote.Param.Send.{param_send, arg_send, shr_send}
use Rattle.std.proofs.Crossing.{send}
use Rattle.threads_unit.proofs.Crossing.{four_send, unit_sync, worker_send}
use Rattle.threads_unit.proofs.numbers.protected_on_two.Goals as goal

pub join-one-requires-send-F : goal.join-one-requires-send-F
join-one-requires-send-F g c κs within =
    param_send 1 _ (arg_send _ no _ (four_send _ _ _ _ _
    (shr_send _ _ _ c.type_bounds.sync-R)
    send
    (shr_send _ _ _ unit_sync)
    worker_send))
