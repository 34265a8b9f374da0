use denote.Exit.{no}
use denote.Param.{param}
use denote.Param.Send.{arg_send, param_send}
use Rattle.frame_workers.proofs.Crossing.{task_send}
use Rattle.frame_workers.proofs.crew.run_by_crew.Goals as goal

pub start-requires-send-J : goal.start-requires-send-J
start-requires-send-J g c κs within =
    param_send 2 _ (arg_send _ no _ (task_send _ (param 2 g.row.O) g.O.Site c.type_bounds.send-O))
