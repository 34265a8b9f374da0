use Rattle.std.proofs.Common.{arith}
use Rattle.sdls_header.proofs.Masks.{masked_from_places}
use Rattle.sdls_header.proofs.header.mask_in_place.Goals as goal

pub returns-clause-text : goal.returns-clause-text
returns-clause-text c =
    masked_from_places c.args.prefix.now c.args.mask.now c.rest.prefix (omega arith)
    (λ k h. c.rest.invariant.done k (omega arith))
