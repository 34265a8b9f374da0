use Rattle.std.proofs.Common.{◌≡◌, take}
use Rattle.ep_core.specs.Step.{clear_text}
use Rattle.ep_core.proofs.sealing.clear_text.Given as goal

abbrev pub invariant-loop-key : goal.invariant-loop-key
invariant-loop-key l = l.text.items ≡ clear_text l.state (take l.key-index l.keys)
