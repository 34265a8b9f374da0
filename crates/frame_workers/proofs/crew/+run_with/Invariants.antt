use Rattle.frame_workers.proofs.crew.+run_with.Given as goal

abbrev pub decreases-run_with : goal.decreases-run_with
decreases-run_with g l = l.lanes.now.len
