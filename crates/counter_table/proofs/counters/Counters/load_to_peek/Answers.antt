use Rattle.std.proofs.Common.{rules, ◌≡◌, ◌<◌, ◌∙◌, ap, arith, Some}
use Rattle.counter_table.specs.Rule.{limit_at}
use Rattle.counter_table.proofs.Keeping.{peek_allows}
use Rattle.counter_table.proofs.counters.Counters.load_to_peek.Goals as goal

pub load-requires : goal.load-requires
load-requires g c =
    let sized = c.args.self.now.sized in
    let told = c.requires.told in
    let row = c.requires.row in
    let at : c.limit_word-at.result ≡ limit_at g.T.Told.of_row = c.limit_word-at.ensures ∙ ap limit_at told.0 in
    let below : g.T.Told.of_row < c.args.self.now.table.shared.key = omega arith in
    let last : c.args.worker.now.seat.me.0.numbers.last ≡ Some (g.T.Told.of_row, g.T.Told.number) =
    c.requires.last ∙ λ i. Some (told.0 i, told.1 i) in (
      search rules,
      search rules,
      rw at (peek_allows _ _ _ _ _ g.T.Told.of_row below c.args.worker.now.alive g.T.Told.number last),
    )
