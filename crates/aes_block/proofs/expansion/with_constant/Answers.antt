use Rattle.std.proofs.Common.{bit_xor}
use Rattle.std.proofs.lemmas.Simd.{zip2_splat}
use Rattle.aes_block.proofs.expansion.with_constant.Goals as goal

pub returns : goal.returns
returns c = zip2_splat bit_xor c.args.key 16 0x63 c.fits-key.0
