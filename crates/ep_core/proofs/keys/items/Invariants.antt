use Rattle.std.proofs.Common.{◌-◌, length}
use Rattle.ep_core.proofs.ItemFacts.{ReadsTo}
use Rattle.ep_core.proofs.keys.items.Given as goal

abbrev pub invariant-loop-at : goal.invariant-loop-at
invariant-loop-at l = ReadsTo l.text l.items.items l.at

abbrev pub decreases-loop-at : goal.decreases-loop-at
decreases-loop-at l = length l.text - l.at
