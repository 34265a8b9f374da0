use Rattle.std.proofs.Common.{◌≡◌}
use Rattle.unit_plan.specs.Field.{channel_numbers, numbers_of}
use Rattle.unit_plan.proofs.ChannelFacts.{with_rest}
use Rattle.unit_plan.proofs.fields.channels.Given as goal

abbrev pub invariant-loop-item : goal.invariant-loop-item
invariant-loop-item l = channel_numbers l.word ≡ with_rest l.numbers.items (numbers_of l.item-iterator)
