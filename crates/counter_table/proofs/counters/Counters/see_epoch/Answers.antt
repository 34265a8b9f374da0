use Rattle.std.proofs.Common.{rules}
use Rattle.counter_table.proofs.Holding.{see_allows}
use Rattle.counter_table.proofs.counters.Counters.see_epoch.Goals as goal

pub load-requires : goal.load-requires
load-requires g c = let sized = c.args.self.now.sized in
    (search rules, search rules, see_allows _ _ _ _ _ c.args.worker.now.alive)
