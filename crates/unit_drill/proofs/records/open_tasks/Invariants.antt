use Rattle.std.proofs.Common.{◌≡◌, ◌≤◌, take, vec_len}
use Rattle.unit_drill.specs.Frames.{open_tasks}
use Rattle.unit_drill.proofs.records.open_tasks.Given as goal

abbrev pub invariant-loop-place : goal.invariant-loop-place
invariant-loop-place l = record
    { items : l.tasks.items ≡ open_tasks l.ahead l.first (take l.place l.answers); few : vec_len l.tasks ≤ l.place }
