use Rattle.std.proofs.Common.{rules, arith}
use Rattle.counter_table.proofs.Holding.{turn_allows}
use Rattle.counter_table.proofs.counters.Counters.add_to_epoch.Goals as goal

pub fetch_add-before-requires : goal.fetch_add-before-requires
fetch_add-before-requires g c =
    let sized = c.args.self.now.sized in let is = c.requires.changes in let range = c.ranges.changes in (
      search rules,
      search rules,
      turn_allows _ _ _ _ _ c.args.worker.now.alive c.requires.turn c.requires.filled
          (omega arith),
    )
