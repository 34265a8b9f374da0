use Rattle.std.proofs.Common.{rules, ap, ◌∙◌}
use Rattle.counter_table.specs.declared.view.View.{View}
use Rattle.counter_table.proofs.Slots.{no_slots}
use Rattle.counter_table.proofs.Holding.{empties_at, fills_at}
use Rattle.counter_table.proofs.counters.Counters.fill.Goals as goal

pub swap-requires : goal.swap-requires
swap-requires g c =
    let sized = c.args.self.now.sized in (
      search rules,
      search rules,
      empties_at _ _ _ _ _ (no_slots _ _ c.requires.free c.args.worker.now.slots)
          c.requires.all c.requires.free c.requires.first,
    )

pub swap-requires-2 : goal.swap-requires-2
swap-requires-2 g c =
    let sized = c.args.self.now.sized in
    let opened = c.swap.ensures.2.1 in (
      search rules,
      search rules,
      fills_at _ _ _ _ _ _ _ c.put_in.ensures.full
          (ap (λ (v : View). v.numbers.shares) opened ∙ c.requires.all) (ap (λ (v : View). v.turn.holds) opened)
          (ap (λ (v : View). v.turn.filled) opened ∙ c.requires.first) c.requires.book,
    )
