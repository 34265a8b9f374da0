use Rattle.std.proofs.Common.{◌≡◌, ◌-◌, vec_len}
use Rattle.unit_drill.specs.Frames.{protect_tasks}
use Rattle.unit_drill.proofs.records.protect_tasks.Given as goal

abbrev pub invariant-loop-number : goal.invariant-loop-number
invariant-loop-number l = record
    { items : l.tasks.items ≡ protect_tasks l.first (l.number - l.first); many : vec_len l.tasks ≡ l.number - l.first }
