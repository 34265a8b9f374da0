use Rattle.std.proofs.Common.{◌<◌, ◌+◌, ℕ, take, set, true, sym, subst, ◌∙◌, arith}
use Rattle.std.proofs.lemmas.List.{length-set}
use Rattle.record_io.specs.declared.reader.TheConstants.{LANES}
use Rattle.record_io.specs.declared.item_cursor.Record.{Record}
use Rattle.frame_workers.specs.Lanes.{IsUsed}
use Rattle.frame_workers.proofs.Used.{used_more}
use Rattle.frame_workers.proofs.segment.used_lanes.Goals as goal

pub loop-task-preserved : goal.loop-task-preserved
loop-task-preserved c =
    let inv = c.loop-task.invariant in
    let task : Record = c.task-item.result in
    let k : ℕ = c.loop-task.task-index in
    let below : task.lane < LANES =
    subst (λ (t : Record). t.lane < LANES) (sym c.task-item.is) (c.requires k task c.loop-task-test.true) in
    let many = inv.many in
    record {
      many = length-set c.loop-task.lanes c.from.result true ∙ inv.many;
      used = subst (λ (n : ℕ). IsUsed (set c.loop-task.lanes n true) (take (k + 1) c.args.records.now))
          (sym c.from.ensures)
          (used_more c.loop-task.lanes c.args.records.now k task c.task-item.is c.loop-task-test.true (omega arith)
          inv.used);
    }
