use Rattle.std.proofs.Common.{rules}
use Rattle.counter_table.proofs.Holding.{gives_at}
use Rattle.counter_table.proofs.counters.Counters.give.Goals as goal

pub swap-requires : goal.swap-requires
swap-requires g c =
    let sized = c.args.self.now.sized in (
      search rules,
      search rules,
      gives_at _ _ _ _ _ _ _ c.put_in.ensures.full c.args.worker.now.alive c.requires.turn
          c.requires.filled c.requires.book,
    )
