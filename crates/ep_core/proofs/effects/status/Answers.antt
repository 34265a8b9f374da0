use Rattle.std.proofs.Common.{arith}
use Rattle.ep_codec.specs.ReplyPdu.{IsInBounds}
use Rattle.ep_core.proofs.Rules.{row_rules}
use Rattle.replay_window.proofs.Fields.{IsWindowField-field}
use Rattle.ep_core.proofs.effects.status.Goals as goal

pub field-requires : goal.field-requires
field-requires c =
    let rules = row_rules c.args.state.now c.args.spi c.unwrap-row.result.now c.requires.rules
    (rw c.unwrap-row.ensures at c.status.ensures.row) in
    omega (arith, rules.width.most)

pub done-requires : goal.done-requires
unfolding IsInBounds
done-requires c =
    let rules = row_rules c.args.state.now c.args.spi c.unwrap-row.result.now c.requires.rules
    (rw c.unwrap-row.ensures at c.status.ensures.row) in
    rw c.field.ensures (IsWindowField-field _ _ rules.back rules.width)
