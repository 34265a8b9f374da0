-- The table is Rcon at places 1 to 10.
use Rattle.std.proofs.Common.{◌-◌, ◌*◌, ◌^◌, refl, arith}
use Rattle.aes_block.specs.Aes.{x_power}
use Rattle.aes_block.proofs.OctetFacts.{value_at}
use Rattle.aes_block.proofs.expansion.rcon.Goals as goal

pub returns : goal.returns
unfolding x_power
returns c = value_at (λ i. x_power i * 2 ^ 24) 10 (c.args.k - 1) _ refl (omega arith)
