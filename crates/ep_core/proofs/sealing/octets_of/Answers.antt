use Rattle.std.proofs.Common.{sym}
use Rattle.ep_core.proofs.ComposeFacts.{bytes_most}
use Rattle.ep_core.proofs.sealing.octets_of.Goals as goal

pub returns-in-Some-clause-bound : goal.returns-in-Some-clause-bound
returns-in-Some-clause-bound c =
    rw c.as_slice.ensures (bytes_most c.args.state.now c.args.key c.in-Some.held.now c.requires
    (sym c.in-Some.ensures.row))
