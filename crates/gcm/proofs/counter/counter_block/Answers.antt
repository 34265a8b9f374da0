use Rattle.std.proofs.Common.{◌+◌, ◌%◌, ◌^◌}
use Rattle.gcm.proofs.CounterFacts.{counter_block_is}
use Rattle.gcm.proofs.counter.counter_block.Goals as goal

pub returns : goal.returns
returns c =
    counter_block_is c.args.iv.now c.to_be_bytes.result ((1 + c.args.count) % 2 ^ 32) c.told-iv c.to_be_bytes.ensures
