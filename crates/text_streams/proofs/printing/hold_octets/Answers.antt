use Rattle.std.proofs.Common.{arith}
use Rattle.text_streams.proofs.printing.hold_octets.Goals as goal

pub returns : goal.returns
returns c i = omega (arith, c.type_inv.octets i)
