use Rattle.std.proofs.Common.{◌↔◌, ◌≤◌, Bool, sym, subst}
use Rattle.std.specs.List.{All}
use Rattle.std.specs.Prelude.{IsTrue}
use Rattle.sdls_base.specs.Bounds.{AreChannels}
use Rattle.unit_plan.proofs.ChannelIds.{channel_ids_iff, channel_ids_then, channel_ids_else}
use Rattle.unit_plan.proofs.key_line.are_channel_ids.Goals as goal

pub returns-then-are_channels-clause-tested : goal.returns-then-are_channels-clause-tested
returns-then-are_channels-clause-tested c =
    channel_ids_then c.args.numbers.now c.are_channels.result c.are_ids.result c.are_channels.ensures c.are_ids.ensures
    c.if-are_channels.true

pub returns-else-are_channels-clause-tested : goal.returns-else-are_channels-clause-tested
returns-else-are_channels-clause-tested c =
    channel_ids_else c.args.numbers.now c.are_channels.result c.are_channels.ensures c.if-are_channels.false

pub returns-then-are_channels-clause-bounds : goal.returns-then-are_channels-clause-bounds
returns-then-are_channels-clause-bounds c =
    let ns = c.args.numbers.now in
    let tested = channel_ids_then ns c.are_channels.result c.are_ids.result c.are_channels.ensures c.are_ids.ensures
    c.if-are_channels.true in
    subst (λ (b : Bool). IsTrue b ↔ (AreChannels ns × All (λ n. n ≤ 63) ns)) (sym tested) (channel_ids_iff ns)

pub returns-else-are_channels-clause-bounds : goal.returns-else-are_channels-clause-bounds
returns-else-are_channels-clause-bounds c =
    let ns = c.args.numbers.now in
    let tested = channel_ids_else ns c.are_channels.result c.are_channels.ensures c.if-are_channels.false in
    subst (λ (b : Bool). IsTrue b ↔ (AreChannels ns × All (λ n. n ≤ 63) ns)) (sym tested) (channel_ids_iff ns)
