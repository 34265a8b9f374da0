use Rattle.std.proofs.Common.{rules, ◌≡◌, ◌^◌, ◌<◌, ◌≤◌, ◌∙◌, ap, arith}
use Rattle.counter_table.specs.Rule.{next_at}
use Rattle.counter_table.proofs.Keeping.{arm_allows}
use Rattle.counter_table.proofs.counters.Counters.load_to_arm.Goals as goal

pub load-requires : goal.load-requires
load-requires g c =
    let sized = c.args.self.now.sized in
    let told = c.requires.told in
    let row = c.requires.row in
    let end = c.requires.end in
    let at : c.next_word-at.result ≡ next_at g.T.Told.of_row = c.next_word-at.ensures ∙ ap next_at told.0 in
    let below : g.T.Told.of_row < c.args.self.now.table.shared.key = omega arith in
    let low : g.T.Told.number ≤ 2 ^ 48 = omega arith in (
      search rules,
      search rules,
      rw at (arm_allows _ _ _ _ _ g.T.Told.of_row below c.args.worker.now.alive g.T.Told.number low),
    )
