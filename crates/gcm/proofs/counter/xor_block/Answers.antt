use Rattle.std.proofs.Common.{refl}
use Rattle.gcm.proofs.CounterFacts.{xors_block}
use Rattle.gcm.proofs.counter.xor_block.Goals as goal

pub returns : goal.returns
returns c = xors_block c.args.start c.args.pad.now c.args.text.now _ c.told-pad c.requires refl
