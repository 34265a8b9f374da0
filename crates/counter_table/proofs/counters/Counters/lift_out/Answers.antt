use Rattle.std.proofs.Common.{rules, ◌∷◌, Some, ap, ◌∙◌, sym}
use Rattle.atomic_table.specs.Table.{rest}
use Rattle.counter_table.proofs.counters.Counters.lift_out.Goals as goal

pub exchange-found-requires : goal.exchange-found-requires
exchange-found-requires g c =
    let is = c.requires.full.1 in
    (search rules, (Some c.requires.full.0, is ∙ ap (λ z. (0, Some c.requires.full.0) ∷ rest z) (sym is)))
