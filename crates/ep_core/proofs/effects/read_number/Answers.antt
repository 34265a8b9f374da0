use Rattle.ep_core.proofs.Rules.{row_rules, number_low}
use Rattle.ep_core.proofs.effects.read_number.Goals as goal

pub next_of-number-requires : goal.next_of-number-requires
next_of-number-requires c =
    number_low c.unwrap-row.result.now
    (row_rules c.args.state.now c.args.spi c.unwrap-row.result.now c.requires.rules
    (rw c.unwrap-row.ensures at c.status.ensures.row))
