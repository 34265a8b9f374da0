use Rattle.std.proofs.Common.{rules, ◌≡◌, ◌<◌, ◌≤◌, ◌∙◌, ap, arith, subst, sym, get_or}
use Rattle.counter_table.specs.Rule.{limit_at}
use Rattle.counter_table.specs.Known.{known_mark}
use Rattle.counter_table.proofs.Holding.{lift_allows}
use Rattle.counter_table.proofs.counters.Counters.max_to_lift.Goals as goal

pub fetch_max-requires : goal.fetch_max-requires
fetch_max-requires g c =
    let sized = c.args.self.now.sized in
    let told = c.requires.told in
    let row = c.requires.row in
    let at : c.limit_word-at.result ≡ limit_at g.T.Told.of_row = c.limit_word-at.ensures ∙ ap limit_at told.0 in
    let below : g.T.Told.of_row < c.args.self.now.table.shared.key = omega arith in
    let mark : g.T.Told.number ≡ get_or g.T.Told.marks g.T.Told.of_row 1 =
    sym told.1 ∙ (c.requires.mark ∙ λ i. get_or (told.2 i) (told.0 i) 1) in (
      search rules,
      search rules,
      rw at (rw told.1 (lift_allows _ _ _ _ _ g.T.Told.of_row g.T.Told.number g.T.Told.marks below
          c.args.worker.now.alive c.requires.turn c.requires.filled
          (λ r. subst (λ z. known_mark c.args.worker.now.seat.me.0.turn.known r ≤ get_or z r 1) told.2
          (c.requires.marks r)) mark)),
    )
