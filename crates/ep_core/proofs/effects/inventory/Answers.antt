use Rattle.ep_core.proofs.Rules.{inventory_short}
use Rattle.ep_core.proofs.effects.inventory.Goals as goal
use Rattle.ep_codec.specs.ReplyPdu.{IsInBounds}

pub done-requires : goal.done-requires
unfolding IsInBounds
done-requires c = inventory_short c.args.state.now.keys c.args.first c.args.last c.in_ok-found.found
    c.in_ok-found.ensures
