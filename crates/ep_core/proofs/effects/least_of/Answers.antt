use Rattle.std.proofs.Common.{sym}
use Rattle.unit_state.proofs.Found.{held_floor}
use Rattle.ep_core.proofs.effects.least_of.Goals as goal

pub least_with-requires : goal.least_with-requires
least_with-requires c = held_floor c.args.state.now c.in-Some.key c.in-Some-find.held.now c.requires
    (sym c.in-Some-find.ensures.row)
