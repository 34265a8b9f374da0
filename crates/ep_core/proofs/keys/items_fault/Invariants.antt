use Rattle.std.proofs.Common.{◌≡◌, ◌-◌, ◌≤◌, length, drop}
use Rattle.ep_core.specs.Sealed.{items_fault}
use Rattle.ep_core.proofs.keys.items_fault.Given as goal

abbrev pub invariant-loop-at : goal.invariant-loop-at
invariant-loop-at l = record {
  left : l.left ≤ 8;
  within : l.at ≤ length l.text;
  same : items_fault l.left l.at (drop l.at l.text) ≡ items_fault 8 0 l.text;
}

abbrev pub decreases-loop-at : goal.decreases-loop-at
decreases-loop-at l = length l.text - l.at
