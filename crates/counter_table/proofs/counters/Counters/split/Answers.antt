use Rattle.std.proofs.Common.{rules}
use Rattle.counter_table.proofs.Holding.{splits_keep}
use Rattle.counter_table.proofs.counters.Counters.split.Goals as goal

pub split_seat-seat-requires : goal.split_seat-seat-requires
split_seat-seat-requires g c = let sized = c.args.self.now.sized in
    (search rules, search rules, splits_keep _ _ _ _ c.requires.two)
