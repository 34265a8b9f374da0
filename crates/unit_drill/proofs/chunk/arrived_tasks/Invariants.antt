use Rattle.std.proofs.Common.{◌≡◌, take, vec_len}
use Rattle.unit_drill.specs.Arriving.{arrived_tasks}
use Rattle.unit_drill.proofs.chunk.arrived_tasks.Given as goal

abbrev pub invariant-loop-at : goal.invariant-loop-at
invariant-loop-at l = record {
  items : l.tasks.items ≡ arrived_tasks l.place l.first l.sent (take l.at l.numbers);
  many : vec_len l.tasks ≡ l.at;
}
