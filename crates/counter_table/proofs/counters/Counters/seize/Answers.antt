use Rattle.std.proofs.Common.{rules, ℕ, ◌<◌, ◌≡◌, subst, sym, ap, ◌∙◌}
use Rattle.atomic_table.specs.Table.{Allows}
use Rattle.counter_table.specs.Rule.{IsKept}
use Rattle.counter_table.specs.Play.{takes}
use Rattle.counter_table.proofs.Holding.{take_allows}
use Rattle.counter_table.proofs.counters.Counters.seize.Goals as goal

pub swap-requires : goal.swap-requires
swap-requires g c =
    let sized = c.args.self.now.sized in
    let same = c.loop.invariant.me in
    let table = c.args.self.now.table.shared in
    let seat = c.loop.seat in
    let rows : table.key ≡ g.T.Told.number = sized.2 ∙ (sym c.requires.rows.0 ∙ c.requires.rows.1) in
    let told = g.B.Counted.told in (
      search rules,
      search rules,
      subst (λ (k : ℕ). Allows (IsKept told table.key) table.table_id.slots seat.id seat.me 0 (λ _. c.loop.taken)
          (takes told k seat.me)) rows
          (take_allows _ _ _ _ c.loop.taken c.loop.invariant.some seat.me
          (subst (λ (k : ℕ). 0 < k) (sym (ap (λ m. m.0.numbers.shares) same)) c.requires.alive)
          (ap (λ m. m.0.turn.filled) same ∙ c.requires.filled)),
    )
