use Rattle.std.proofs.Common.{rules, ◌≡◌, ◌<◌, ◌∙◌, ap, arith, Some}
use Rattle.counter_table.specs.Rule.{next_at}
use Rattle.counter_table.proofs.Keeping.{draw_allows}
use Rattle.counter_table.proofs.counters.Counters.add_to_draw.Goals as goal

pub fetch_add-requires : goal.fetch_add-requires
fetch_add-requires g c =
    let sized = c.args.self.now.sized in
    let told = c.requires.told in
    let row = c.requires.row in
    let at : c.next_word-at.result ≡ next_at g.T.Told.of_row = c.next_word-at.ensures ∙ ap next_at told in
    let below : g.T.Told.of_row < c.args.self.now.table.shared.key = omega arith in (
      search rules,
      search rules,
      rw at (draw_allows _ _ _ _ _ g.T.Told.of_row below c.args.worker.now.alive (c.requires.armed ∙ ap Some told)),
    )
