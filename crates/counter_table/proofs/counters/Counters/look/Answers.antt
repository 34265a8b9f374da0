use Rattle.std.proofs.Common.{rules, ◌≡◌, ℕ, ◌∙◌, sym, subst}
use Rattle.atomic_table.specs.Table.{Allows}
use Rattle.counter_table.specs.declared.turns.TheConstants.{EPOCH}
use Rattle.counter_table.specs.Rule.{IsKept}
use Rattle.counter_table.specs.Play.{looks}
use Rattle.counter_table.proofs.Holding.{look_allows}
use Rattle.counter_table.proofs.counters.Counters.look.Goals as goal

pub load-requires : goal.load-requires
load-requires g c =
    let sized = c.args.self.now.sized in
    let same : c.args.self.now.table.shared.key ≡ g.T.Told.number =
    sized.2 ∙ (sym c.requires.rows.0 ∙ c.requires.rows.1) in
    let table = c.args.self.now.table.shared in
    let seat = c.args.worker.now.seat in (
      search rules,
      search rules,
      subst (λ (k : ℕ). Allows (IsKept g.B.Counted.told table.key) table.table_id.slots seat.id seat.me EPOCH (λ n. n)
          (looks k seat.me)) same
          (look_allows _ _ _ _ seat.me c.args.worker.now.alive),
    )
